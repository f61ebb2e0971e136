-- The estimates and the value counts are the two parts of the memory.
use lib.ListN.{length-take}
use mathlib.Core.Path.{sym, ◌∙◌}
use native.Mathlib.Omega.{arith}
use Rattle.coordinator_memory.proofs.ConsistencyLaws.{histogram_part}
use Rattle.model.proofs.BetweenArrivals.ReportLaws.{value_count_is}
use Rattle.coordinator_memory.proofs.numbers_consistent.Goals as goal

pub slice_bounds-counts_consistent-end : goal.slice_bounds-counts_consistent-end
slice_bounds-counts_consistent-end c =
    omega (arith, c.requires.memory_long, value_count_is)

pub counts_consistent-requires : goal.counts_consistent-requires
counts_consistent-requires c =
    rw (histogram_part c.args.settings c.args.memory.now, length-take) (omega arith)

pub returns-then-all_within : goal.returns-then-all_within
returns-then-all_within c =
    let part = histogram_part c.args.settings c.args.memory.now in
    rw (sym c.all_within.ensures ∙ c.if-all_within.true) (rw part at c.counts_consistent.ensures)
