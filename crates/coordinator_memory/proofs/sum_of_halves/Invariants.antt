-- The invariant is the sum of the halves passed, each a number of 32 bits.
use Rattle.coordinator_memory.specs.Consistency.{higher_halves}
use Rattle.coordinator_memory.proofs.NumberLaws.{Summed}
use Rattle.coordinator_memory.proofs.sum_of_halves.Given as goal

abbrev pub invariant-loop-number : goal.invariant-loop-number
invariant-loop-number l = Summed 4294967295 (higher_halves l.numbers) l.total l.number-index
