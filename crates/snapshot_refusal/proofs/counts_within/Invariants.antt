-- The walk stops at the first count above the limit: no count before j is.
use Rattle.message_counts.proofs.CountsLaws.{CountsPass}
use Rattle.snapshot_file.specs.Reading.{held_in}
use Rattle.snapshot_refusal.proofs.counts_within.Given as goal

abbrev pub invariant-loop-j : goal.invariant-loop-j
invariant-loop-j l = CountsPass l.settings.sites (held_in l.settings l.file).sites.messages l.j
