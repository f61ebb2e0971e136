-- Space-Saving: an arrival that replaces the item of least count keeps what the counters say
-- (PROOF.md section 2, "Replacement"). Letters and names as in SpaceSaving.
--
--   saved_replaced     "it replaces the code of least count"
use mathlib.Core.Path.{◌≡◌}
use mathlib.Core.List.{List}
use Prim.Native.Nat.{ℕ, ◌+◌, ◌*◌, ◌≤◌, ◌<◌}
use native.Mathlib.Nat.{mul-le-mul_right}
use native.Mathlib.Omega.{arith}
use native.Mathlib.Decide.{ℕ_discrete}
use lib.ListN.{length, set, length-set}
use Rattle.laws.proofs.Lists.{all_set}
use Rattle.laws.proofs.Sums.{sum_of_set, sum_of_least}
use Rattle.model.specs.Counters.{Counter, no_counter, counter_at, replacing}
use Rattle.model.proofs.OneSite.CounterLaws.{LeastAt}
use Rattle.model.proofs.OneSite.DistinctItems.{Absent, apart_set, absent_of_set, absent_before_set}
use Rattle.model.proofs.OneSite.SpaceSaving.{CounterOk, NotHeld, Saved, GrowsAt, other_ok, others_not_held}

module _ {arrived arrived' reported : ℕ → ℕ} {capacity n item : ℕ} {counters : List Counter}
    (one_more : GrowsAt item 1 arrived arrived')
    (saved : Saved arrived reported capacity n counters) where
  -- The item replaces the one of least count, which is an upper bound of both items' arrivals.
  pub saved_replaced : (place : ℕ)
      → LeastAt counters place
      → Absent item counters
      → capacity ≤ length counters
      → Saved arrived' reported capacity (n + 1)
      (set counters place (replacing (counter_at counters place) item))
  saved_replaced place least_at absent full = record {
    within = omega (arith, length-set counters place x);
    counts_add_up = omega (arith, sum_of_set (λ x. x.count) no_counter counters place x inside);
    apart = apart_set counters place x inside saved.apart (λ j j< _. absent.nowhere j j<);
    held = all_set (CounterOk arrived' reported capacity (n + 1)) no_counter counters place x inside
        x_ok (λ j j< _. other_ok one_more saved _ (absent.nowhere j j<) (saved.held j j<));
    not_held = others;
  }
    where
      x : Counter
      x = replacing (counter_at counters place) item

      inside : place < length counters
      inside = least_at.inside

      -- capacity × the least count ≤ the sum of all counts.
      least_low : capacity * (counter_at counters place).count ≤ n
      least_low =
          omega (
            arith,
            mul-le-mul_right (counter_at counters place).count full,
            sum_of_least (λ x. x.count) no_counter counters (counter_at counters place).count
                least_at.least,
          )

      x_ok : CounterOk arrived' reported capacity (n + 1) x
      x_ok =
          let before : NotHeld arrived reported capacity counters item =
          saved.not_held item absent in
          record {
            amounts_fit = omega arith;
            arrived_le_count =
                omega (arith, one_more.grown, before.arrived_le_counts place inside);
            reported_low = omega (arith, one_more.grown);
            reported_high = omega arith;
            overestimate_low = omega (arith, least_low);
          }

      counts_grow : (other : ℕ)
          → ((j : ℕ) → j < length counters → arrived other ≤ (counter_at counters j).count)
          → (j : ℕ) → j < length (set counters place x)
          → arrived other ≤ (counter_at (set counters place x) j).count
      counts_grow other low =
          all_set (λ y. arrived other ≤ y.count) no_counter counters place x inside
          (omega (arith, low place inside)) (λ j j< _. low j j<)

      -- The item that left is held no more: its count was the least.
      left_not_held : CounterOk arrived reported capacity n (counter_at counters place)
          → NotHeld arrived reported capacity counters (counter_at counters place).item
      left_not_held ok = record {
        reported_le = omega arith;
        arrived_le_counts = λ j j<. omega (arith, least_at.least j j<);
        none_arrived = λ room. absurd (omega arith);
      }

      others : (other : ℕ) → Absent other (set counters place x)
          → NotHeld arrived' reported capacity (set counters place x) other
      others other gone = by_item (ℕ_discrete (counter_at counters place).item other)
        where
          differs : item ≡ other → ⊥
          differs = (absent_of_set counters place x inside other gone).not_new

          as_before : NotHeld arrived reported capacity counters other
              → NotHeld arrived' reported capacity (set counters place x) other
          as_before before =
              others_not_held one_more saved other differs before (set counters place x)
              (counts_grow other before.arrived_le_counts)
              (λ room. omega (arith, length-set counters place x))

          by_item : Dec ((counter_at counters place).item ≡ other)
              → NotHeld arrived' reported capacity (set counters place x) other
          by_item (yes left) = as_before (rw left at (left_not_held (saved.held place inside)))
          by_item (no other_item) =
              as_before (saved.not_held other
              (absent_before_set counters place x inside other gone other_item))
