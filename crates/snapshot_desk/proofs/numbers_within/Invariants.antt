-- The walk stops at the first number above the limit; until then the numbers left decide.
use Rattle.model.specs.Limits.{coordinator_limit}
use Rattle.coordinator_memory.proofs.NumberLaws.{Checked}
use Rattle.snapshot_desk.specs.Desk.{numbers_from}
use Rattle.snapshot_desk.proofs.numbers_within.Given as goal

abbrev pub invariant-loop-i : goal.invariant-loop-i
invariant-loop-i l = Checked coordinator_limit
    (numbers_from l.file l.from l.count) l.i
