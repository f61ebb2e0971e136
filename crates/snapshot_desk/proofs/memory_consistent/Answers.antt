-- The estimates and the value counts are the two parts of the memory; their sum fits, as all value
-- counts are within the limit when it is taken.
use mathlib.Core.Path.{◌≡◌, sym, ap, ◌∙◌}
use Prim.Native.Nat.{ℕ}
use native.Mathlib.Omega.{arith}
use lib.Dec.{eqb}
use Rattle.model.specs.Limits.{coordinator_limit}
use Rattle.model.specs.SiteMemory.{sum}
use Rattle.model.specs.CoordinatorMemory.{all_within, coordinator_in}
use Rattle.coordinator_memory.proofs.ConsistencyLaws.{numbers_at_one, numbers_above_one, numbers_histogram_off, numbers_estimates_off}
use Rattle.snapshot_desk.specs.Desk.{desk_memory}
use Rattle.snapshot_desk.proofs.DeskLaws.{estimates_there, values_read, values_lie}
use Rattle.snapshot_desk.proofs.memory_consistent.Goals as goal
use Rattle.snapshot_desk.proofs.memory_consistent.Goals.{After-numbers_within, After-numbers_within-then-numbers_within}

-- The test of the estimates, and of the value counts, as the code finds them.
items_told : (c : After-numbers_within)
    → let a = c.args in
    all_within coordinator_limit
    (coordinator_in a.settings a.coordinator (desk_memory a.settings a.file.now)
    ).estimates
    ≡ c.numbers_within.result
items_told c =
    let a = c.args in
    ap (all_within coordinator_limit) (estimates_there a.settings a.file.now)
    ∙ sym c.numbers_within.ensures

values_told : (c : After-numbers_within-then-numbers_within)
    → let a = c.args in
    all_within coordinator_limit
    (coordinator_in a.settings a.coordinator (desk_memory a.settings a.file.now)
    ).histogram
    ≡ c.numbers_within-then-numbers_within.result
values_told c =
    let a = c.args in
    ap (all_within coordinator_limit)
    (values_read a.settings a.file.now c.value_count-count.result
    c.value_count-count.ensures)
    ∙ sym c.numbers_within-then-numbers_within.ensures

pub numbers_within-requires-then-numbers_within : goal.numbers_within-requires-then-numbers_within
numbers_within-requires-then-numbers_within c =
    record {
      within = values_lie c.args.settings c.args.file.now
          c.value_count-count.result c.value_count-count.ensures c.requires;
    }

pub numbers_sum-requires : goal.numbers_sum-requires
numbers_sum-requires c =
    record {
      within = values_lie c.args.settings c.args.file.now
          c.value_count-count.result c.value_count-count.ensures c.requires;
      few = omega (arith, c.value_count-count.ensures);
      small = sym c.numbers_within-then-numbers_within.ensures ∙ c.if-numbers_within-2.true;
    }

pub returns-then-coordinator-eq1 : goal.returns-then-coordinator-eq1
returns-then-coordinator-eq1 c =
    let a = c.args in
    ap (λ (n : ℕ). eqb n a.coordinator.total)
    (c.numbers_sum.ensures
    ∙ sym (ap sum (values_read a.settings a.file.now c.value_count-count.result
    c.value_count-count.ensures)))
    ∙ sym
    (numbers_at_one
    (coordinator_in a.settings a.coordinator (desk_memory a.settings a.file.now))
    (items_told (goal.at.returns-then-coordinator-eq1 c).After-numbers_within ∙
    c.if-numbers_within.true)
    (values_told (goal.at.returns-then-coordinator-eq1 c).After-numbers_within-then-numbers_within
    ∙ c.if-numbers_within-2.true)
    c.if-coordinator-eq1.true)

pub returns-then-numbers_within-2 : goal.returns-then-numbers_within-2
returns-then-numbers_within-2 c =
    let a = c.args in
    sym
    (numbers_above_one
    (coordinator_in a.settings a.coordinator (desk_memory a.settings a.file.now))
    (items_told (goal.at.returns-then-numbers_within-2 c).After-numbers_within ∙
    c.if-numbers_within.true)
    (values_told (goal.at.returns-then-numbers_within-2 c).After-numbers_within-then-numbers_within
    ∙ c.if-numbers_within-2.true)
    c.if-coordinator-eq1.false)

pub returns-else-numbers_within-2 : goal.returns-else-numbers_within-2
returns-else-numbers_within-2 c =
    let a = c.args in
    sym
    (numbers_histogram_off
    (coordinator_in a.settings a.coordinator (desk_memory a.settings a.file.now))
    (items_told (goal.at.returns-else-numbers_within-2 c).After-numbers_within ∙
    c.if-numbers_within.true)
    (values_told (goal.at.returns-else-numbers_within-2 c).After-numbers_within-then-numbers_within
    ∙ c.if-numbers_within-2.false))

pub returns-else-numbers_within : goal.returns-else-numbers_within
returns-else-numbers_within c =
    let a = c.args in
    sym
    (numbers_estimates_off
    (coordinator_in a.settings a.coordinator (desk_memory a.settings a.file.now))
    (items_told (goal.at.returns-else-numbers_within c).After-numbers_within ∙
    c.if-numbers_within.false))
