-- The invariant is the sum of the numbers passed, at most the limit for each of them.
use Rattle.coordinator_memory.proofs.NumberLaws.{Summed}
use Rattle.model.specs.Limits.{coordinator_limit}
use Rattle.coordinator_memory.proofs.sum_of.Given as goal

abbrev pub invariant-loop-number : goal.invariant-loop-number
invariant-loop-number l = Summed coordinator_limit l.numbers l.total l.number-index
