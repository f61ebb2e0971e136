-- `site_counters::put_counter` meets its contract: four stores, each within the memory.
-- A row of answers is a store: its place and the place's address fit, and it lies within what is
-- lent, as a store before it changed no length.
use native.Mathlib.Omega.{arith}
use lib.ListN.{length-set}
use Rattle.site_counters.proofs.put_counter.Goals as goal

pub bounds-memory-start-2 : goal.bounds-memory-start-2
bounds-memory-start-2 c =
    simp length-set (omega arith)

pub bounds-memory-start-3 : goal.bounds-memory-start-3
bounds-memory-start-3 c =
    simp length-set (omega arith)

pub bounds-memory-start-4 : goal.bounds-memory-start-4
bounds-memory-start-4 c =
    simp length-set (omega arith)
