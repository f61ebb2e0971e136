-- `site_memory::counters_consistent` meets its contract. The loop's invariant: the counters before
-- place i are consistent.
use Rattle.model.specs.SiteMemory.{site_in}
use Rattle.site_memory.proofs.ConsistencyLaws.{Passing}
use Rattle.site_memory.proofs.counters_consistent.Given as goal

abbrev pub invariant-loop-i : goal.invariant-loop-i
invariant-loop-i l = Passing l.settings (site_in l.settings l.site l.memory) l.memory l.used l.i
