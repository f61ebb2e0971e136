-- `single_steps::deliver` meets its contract: the loop keeps what holds between two calls.
use Rattle.single_steps.specs.Progress.{progress_outcome}
use Rattle.single_steps.proofs.DeliverLaws.{Going}
use Rattle.single_steps.proofs.deliver.Given as goal

abbrev pub invariant-loop-settings : goal.invariant-loop-settings
invariant-loop-settings l = Going l.settings l.site_memory l.initial.coordinator_memory
    (progress_outcome l.initial.progress) l.coordinator_memory (progress_outcome l.progress)

abbrev pub decreases-loop-settings : goal.decreases-loop-settings
decreases-loop-settings l = l.progress.left
