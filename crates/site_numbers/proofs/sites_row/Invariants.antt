-- The records one by one, then the counts of messages. The loop's invariant: the numbers of the
-- first i records stand at the front.
use Rattle.site_numbers.proofs.Records.{Recording}
use Rattle.site_numbers.proofs.sites_row.Given as goal

abbrev pub invariant-loop-i : goal.invariant-loop-i
invariant-loop-i l = Recording l.sites.records l.row l.i
