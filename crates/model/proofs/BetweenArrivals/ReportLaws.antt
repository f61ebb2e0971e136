-- Reports as numbers: what a report adds, if it is due, and the estimates after an item report.
--
--   when_times, when_le      a choice as 0 or 1, and times an amount
--   value_count_is, value_counted  1024 values; one up to the top has a place in the histogram
--   estimates_reported, length_reported   the estimates after an item report, if one is due
use Rattle.std.specs.Prelude.{if◌then◌else◌}
use mathlib.Core.Path.{◌≡◌, refl}
use mathlib.Core.Bool.{Bool, true, false}
use mathlib.Core.List.{List}
use Prim.Native.Nat.{ℕ, ◌+◌, ◌*◌, ◌≤◌, ◌<◌}
use native.Mathlib.Omega.{arith}
use native.Mathlib.Decide.{ℕ_discrete}
use lib.Dec.{eqb}
use lib.ListN.{length, get_or, set, length-set}
use lib.Seq.{get_or-set_same, get_or-set_other}
use borrow.Author.Tests.{eq-eqb, ne_eqb}
use Rattle.model.specs.Refusals.{when}
use Rattle.model.specs.Limits.{top_value, value_count}

-- ---- Choices as numbers

-- A report's amount, if it is due.
pub when_times : (due : Bool) (amount : ℕ) → when due 1 * amount ≡ (if due then amount else 0)
when_times true amount = omega arith
when_times false amount = omega arith

-- At most one report.
pub when_le : (due : Bool) → when due 1 ≤ 1
when_le true = omega arith
when_le false = omega arith

pub value_count_is : value_count ≡ 1024
unfolding value_count
value_count_is = refl

-- Values up to the top value have a place in the histogram.
pub value_counted : (value : ℕ) → value ≤ top_value → value < value_count
value_counted value known = omega (arith, value_count_is)

-- The estimates after an item report of so much, if it is due.
pub estimates_reported : (estimates : List ℕ) (item amount x : ℕ) (due : Bool)
    → item < length estimates
    → get_or (if due then set estimates item (get_or estimates item 0 + amount) else estimates) x 0
    ≡ get_or estimates x 0 + (if eqb x item then (if due then amount else 0) else 0)
estimates_reported estimates item amount x true inside = by_item (ℕ_discrete x item)
  where
    by_item : Dec (x ≡ item)
        → get_or (set estimates item (get_or estimates item 0 + amount)) x 0
        ≡ get_or estimates x 0 + (if eqb x item then amount else 0)
    by_item (yes same) =
        rw (
          same,
          eq-eqb item item refl,
          get_or-set_same estimates item (get_or estimates item 0 + amount) 0 inside,
        )
    by_item (no differ) =
        rw (
          ne_eqb x item differ,
          get_or-set_other estimates item x (get_or estimates item 0 + amount) 0 differ,
        ) (omega arith)
estimates_reported estimates item amount x false inside = by_test (eqb x item)
  where
    by_test : (same : Bool)
        → get_or estimates x 0 ≡ get_or estimates x 0 + (if same then 0 else 0)
    by_test true = omega arith
    by_test false = omega arith

-- No item is added to the estimates, and none removed.
pub length_reported : (estimates : List ℕ) (item amount : ℕ) (due : Bool)
    → length (if due then set estimates item amount else estimates) ≡ length estimates
length_reported estimates item amount true = length-set estimates item amount
length_reported estimates item amount false = refl
