-- The numbers passed stand written, 4 bytes each.
use Rattle.number_runs.proofs.RunLaws.{WrittenTo}
use Rattle.number_runs.proofs.write_words.Given as goal

abbrev pub invariant-loop-i : goal.invariant-loop-i
invariant-loop-i l = WrittenTo 4 l.place l.numbers l.initial.bytes l.bytes l.i
