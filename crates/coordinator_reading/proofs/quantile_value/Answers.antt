-- By threshold, as `quantile_of`.
use Rattle.std.specs.Prelude.{None, if◌then◌else◌}
use native.Mathlib.Omega.{arith}
use mathlib.Core.List.{List}
use mathlib.Core.Path.{ap, sym, ◌∙◌}
use Prim.Native.Nat.{ℕ}
use Rattle.coordinator_reading.proofs.ReadLaws.{values_ask, quantile_at_one, quantile_kept}
use Rattle.coordinator_memory.proofs.ConsistencyLaws.{histogram_part}
use Rattle.model.proofs.BetweenArrivals.ReportLaws.{value_count_is}
use Rattle.model.specs.Choice.{is_zero}
use Rattle.model.specs.Reading.{least_value}
use Rattle.model.specs.CoordinatorMemory.{coordinator_in}
use Rattle.coordinator_reading.proofs.quantile_value.Goals as goal

pub slice_bounds-counted_value-end : goal.slice_bounds-counted_value-end
slice_bounds-counted_value-end c = omega (arith, c.requires.memory_long, value_count_is)

pub counted_value-requires : goal.counted_value-requires
counted_value-requires c =
    values_ask c.args.settings c.args.coordinator c.args.memory.now
    c.requires

pub returns-then-coordinator-eq1 : goal.returns-then-coordinator-eq1
returns-then-coordinator-eq1 c =
    let start = c.args in
    let settings = c.args.settings in
    let memory = c.args.memory.now in
    let total = start.coordinator.total in
    c.counted_value.ensures
    ∙ ap (λ (counts : List ℕ). if is_zero total then None else least_value settings.rank total
    counts) (histogram_part settings memory)
    ∙ sym
    (quantile_at_one settings (coordinator_in settings start.coordinator memory)
    c.if-coordinator-eq1.true)

pub returns : goal.returns
returns c =
    let start = c.args in
    sym
    (quantile_kept start.settings (coordinator_in start.settings start.coordinator
    start.memory.now)
    c.if-coordinator-eq1.false)
