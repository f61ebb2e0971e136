-- The numbers are written one after the other.
use Rattle.laws.proofs.Writing.{Putting}
use Rattle.output_lines.proofs.LinesLaws.{spaced_number}
use Rattle.output_lines.proofs.put_numbers.Given as goal

abbrev pub invariant-loop-item : goal.invariant-loop-item
invariant-loop-item l =
    Putting spaced_number 0 l.items l.at l.initial.out l.out l.place l.item-index
