-- `single_begin::queue_of` meets its contract: by whether both messages go out.
use native.Mathlib.Omega.{arith}
use Rattle.single_steps.proofs.QueueLaws.{queue_two}
use Rattle.single_begin.proofs.queue_of.Goals as goal

pub returns : goal.returns
returns c =
    queue_two c.args.count c.args.first c.args.second
    (omega (arith, c.if-count-lt2.false))
