-- The invariant is the sum of the numbers passed, at most the limit for each of them.
use Rattle.model.specs.Limits.{coordinator_limit}
use Rattle.coordinator_memory.proofs.NumberLaws.{Summed}
use Rattle.snapshot_desk.specs.Desk.{numbers_from}
use Rattle.snapshot_desk.proofs.numbers_sum.Given as goal

abbrev pub invariant-loop-i : goal.invariant-loop-i
invariant-loop-i l = Summed coordinator_limit
    (numbers_from l.file l.from l.count) l.total l.i
