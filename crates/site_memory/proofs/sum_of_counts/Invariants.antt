-- `site_memory::sum_of_counts` meets its contract. The loop's invariant: the first counts were
-- added up, each a number of 4 bytes.
use Rattle.site_memory.proofs.ValueLaws.{Adding}
use Rattle.site_memory.proofs.sum_of_counts.Given as goal

abbrev pub invariant-loop-count : goal.invariant-loop-count
invariant-loop-count l = Adding l.counts l.counted l.count-index
