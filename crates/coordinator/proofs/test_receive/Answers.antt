-- Past the memory's tests those of the message decide.
use mathlib.Core.Path.{refl}
use Rattle.model.proofs.Thresholds.RefusalLaws.{begin, pass_part, end, accepted_by}
use Rattle.coordinator.proofs.test_receive.Goals as goal

pub returns : goal.returns
returns c =
    end (pass_part _ _ (begin _) refl
    (accepted_by c.test_coordinator_memory.ensures c.in_ok-test_coordinator_memory.was))
    (c.test_message.ensures c.args.memory.now)
