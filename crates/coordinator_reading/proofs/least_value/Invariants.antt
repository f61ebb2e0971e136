-- The invariant is `Searching`: no value passed has enough counts at or below it.
use Rattle.coordinator_reading.proofs.ReadLaws.{Searching}
use Rattle.coordinator_reading.proofs.least_value.Given as goal

abbrev pub invariant-loop-value : goal.invariant-loop-value
invariant-loop-value l = Searching l.rank l.total l.counts l.below l.value
