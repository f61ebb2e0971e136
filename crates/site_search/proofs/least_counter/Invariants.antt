-- `site_search::least_counter` meets its contract. The loop's invariant: the scan goes on from
-- place i with the best place so far.
use Rattle.site_search.proofs.Search.{Scanning}
use Rattle.site_search.proofs.least_counter.Given as goal

abbrev pub invariant-loop-i : goal.invariant-loop-i
invariant-loop-i l = Scanning l.memory l.used l.best l.i
