-- The room is counted down number by number.
use Rattle.output_lines.proofs.SpacedLaws.{Fitting}
use Rattle.output_lines.proofs.numbers_fit.Given as goal

abbrev pub invariant-loop-item : goal.invariant-loop-item
invariant-loop-item l = Fitting l.items l.room l.left l.item-index
