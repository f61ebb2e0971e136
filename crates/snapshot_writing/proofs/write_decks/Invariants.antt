-- The decks before j are written, at each turn.
use Rattle.snapshot_writing.proofs.PartLaws.{Written}
use Rattle.snapshot_writing.proofs.write_decks.Given as goal

abbrev pub invariant-loop-j : goal.invariant-loop-j
invariant-loop-j l = Written l.settings l.sites.records l.memory l.initial.bytes l.bytes l.j
