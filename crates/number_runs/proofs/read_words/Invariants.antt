-- The numbers passed are read, 4 bytes each.
use Rattle.number_runs.proofs.RunLaws.{ReadTo}
use Rattle.number_runs.proofs.read_words.Given as goal

abbrev pub invariant-loop-i : goal.invariant-loop-i
invariant-loop-i l = ReadTo 4 l.place l.bytes l.initial.numbers l.numbers l.i
