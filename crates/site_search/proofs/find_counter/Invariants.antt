-- `site_search::find_counter` meets its contract. The loop's invariant: what is sought stands
-- from place i on. The measure is the number of counters left.
use Prim.Native.Nat.{◌-◌}
use Rattle.site_search.proofs.Search.{Searching}
use Rattle.site_search.proofs.find_counter.Given as goal

abbrev pub invariant-loop-i : goal.invariant-loop-i
invariant-loop-i l = Searching l.memory l.used l.item l.i

abbrev pub decreases-loop-i : goal.decreases-loop-i
decreases-loop-i l = l.used - l.i
