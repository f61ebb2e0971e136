-- Each turn writes the line of one message.
use Rattle.drawtrack_steps.proofs.MessageLaws.{Writing}
use Rattle.drawtrack_steps.proofs.put_messages.Given as goal

abbrev pub invariant-loop-done : goal.invariant-loop-done
invariant-loop-done l = Writing l.log l.count l.initial.out l.out l.place l.done
