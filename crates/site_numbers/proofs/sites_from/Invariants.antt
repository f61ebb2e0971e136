-- The records one by one, then the counts of messages. The loop's invariant: the first i records
-- are those of the row.
use Rattle.site_numbers.proofs.Records.{Reading}
use Rattle.site_numbers.proofs.sites_from.Given as goal

abbrev pub invariant-loop-i : goal.invariant-loop-i
invariant-loop-i l = Reading l.row l.records l.i
