-- The numbers passed stand written, as many bytes each as the width says.
use Rattle.number_runs.proofs.RunLaws.{WrittenTo}
use Rattle.number_runs.proofs.write_numbers.Given as goal

abbrev pub invariant-loop-i : goal.invariant-loop-i
invariant-loop-i g l = WrittenTo g.row.WIDTH l.place l.numbers l.initial.bytes l.bytes l.i
