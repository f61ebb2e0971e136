-- An arrival of an item counted by whichever counter takes it (PROOF.md S1 to S4, S7).
--
--   Placed, placement_for_is     the three placements, with what each tells of the counters
--   Counted                      one arrival counted: where, and the sum of unreported (S7)
--   saved_placed, counted_placed of the placement that the item gets
use mathlib.Core.Path.{◌≡◌, refl, ap}
use mathlib.Core.Bool.{Bool, true, false}
use mathlib.Core.List.{List, [], ◌∷◌, ◌++◌}
use Prim.Native.Nat.{ℕ, ◌+◌, ◌≤◌, ◌<◌}
use native.Mathlib.Omega.{arith}
use lib.Dec.{ltb}
use lib.ListN.{length, set, length-set}
use lib.Seq.{get_or-set_same, get_or-set_other}
use borrow.Author.Tests.{ltb-true, ltb-false}
use Rattle.laws.proofs.Lists.{length_snoc, get_d_snoc_old, get_d_snoc_new}
use Rattle.laws.proofs.Sums.{sum_of, sum_of_set, sum_of_snoc}
use Rattle.model.specs.Counters.{Counter, no_counter, counter_at, unreported, find, least_place, Placement, own, unused, replaced, placement_for, place_of, one_more_of, first_of, replacing, counters_after, dropped_by}
use Rattle.model.proofs.OneSite.CounterLaws.{Found, find_is, LeastAt, least_place_is}
use Rattle.model.proofs.OneSite.DistinctItems.{Absent}
use Rattle.model.proofs.OneSite.SpaceSaving.{Saved, GrowsAt, saved_own, saved_unused}
use Rattle.model.proofs.OneSite.Replacement.{saved_replaced}

-- ---- Placements

-- What each placement of an item tells of the counters.
pub data Placed (capacity : ℕ) (counters : List Counter) (item : ℕ) : Placement → Type 0 where
  in_own : (place : ℕ)
      → place < length counters
      → (counter_at counters place).item ≡ item
      → Placed capacity counters item (own place)
  in_unused : Absent item counters
      → length counters < capacity
      → Placed capacity counters item unused
  in_replaced : (place : ℕ)
      → LeastAt counters place
      → Absent item counters
      → capacity ≤ length counters
      → Placed capacity counters item (replaced place)

-- The placement that the model chooses is one of the three.
pub placement_for_is : (capacity : ℕ) (counters : List Counter) (item : ℕ)
    → 1 ≤ capacity
    → Placed capacity counters item (placement_for capacity counters item)
placement_for_is capacity counters item some =
    by_place (ltb (find item counters) (length counters)) refl (ltb (length counters) capacity) refl
  where
    found : Found item counters (find item counters)
    found = find_is item counters

    absent : length counters ≤ find item counters → Absent item counters
    absent none = record { nowhere = λ j j< same. found.lowest j (omega arith) same }

    by_place : (held : Bool) → ltb (find item counters) (length counters) ≡ held
        → (room : Bool) → ltb (length counters) capacity ≡ room
        → Placed capacity counters item (placement_for capacity counters item)
    by_place true held room _ =
        let inside : find item counters < length counters = ltb-true _ _ held in
        rw held (in_own (find item counters) inside (found.holds inside))
    by_place false none true room =
        rw (none, room) (in_unused (absent (ltb-false _ _ none)) (ltb-true _ _ room))
    by_place false none false full =
        let all-used : capacity ≤ length counters = ltb-false _ _ full in
        rw (none, full) (in_replaced (least_place counters) (least_place_is counters (omega arith))
        (absent (ltb-false _ _ none)) all-used)

-- ---- An arrival counted

-- From the counters `before` to `after`, the arrival counted at `place`; `lost` unreported arrivals
-- went with a replaced counter. A threshold that bounded all unreported is reached at most there.
pub record Counted (threshold item place lost : ℕ) (before after : List Counter) : Type 0 where
  pub inside : place < length after
  pub holds : (counter_at after place).item ≡ item
  pub others_below : (j : ℕ) → j < length after → (j ≡ place → ⊥)
      → unreported (counter_at after j) < threshold
  pub here_le : unreported (counter_at after place) ≤ threshold
  pub unreported_moves : sum_of unreported after + lost ≡ sum_of unreported before + 1

module _ {arrived reported : ℕ → ℕ} {capacity n item : ℕ} {counters : List Counter} (threshold : ℕ)
    (positive : 1 ≤ threshold)
    (saved : Saved arrived reported capacity n counters)
    (below : (j : ℕ) → j < length counters → unreported (counter_at counters j) < threshold) where
  counted_set : (place lost : ℕ) (x : Counter)
      → place < length counters
      → x.item ≡ item
      → unreported x + lost ≡ unreported (counter_at counters place) + 1
      → Counted threshold item place lost counters (set counters place x)
  counted_set place lost x inside holds moves = record {
    inside = omega (arith, length-set counters place x);
    holds = rw (get_or-set_same counters place x no_counter inside) holds;
    others_below = λ j j< other.
        rw (get_or-set_other counters place j x no_counter other)
        (below j (omega (arith, length-set counters place x)));
    here_le =
        rw (get_or-set_same counters place x no_counter inside) (omega (arith, below place inside));
    unreported_moves = omega (arith, sum_of_set unreported no_counter counters place x inside);
  }

  counted_snoc : Counted threshold item (length counters) 0
      counters (counters ++ (first_of item ∷ []))
  counted_snoc = record {
    inside = omega (arith, length_snoc counters (first_of item));
    holds = ap (λ (x : Counter). x.item) (get_d_snoc_new no_counter counters (first_of item));
    others_below = λ j j< other.
        let old : j < length counters = omega (arith, length_snoc counters (first_of item)) in
        rw (get_d_snoc_old no_counter counters (first_of item) j old) (below j old);
    here_le = rw (get_d_snoc_new no_counter counters (first_of item)) positive;
    unreported_moves = omega (arith, sum_of_snoc unreported counters (first_of item));
  }

  -- S7: own, 1 more unreported; unused, 1; replaced, 1 in the place of what was lost.
  pub counted_placed : {placement : Placement}
      → Placed capacity counters item placement
      → Counted threshold item (place_of placement counters) (dropped_by placement counters)
      counters (counters_after placement counters item)
  counted_placed (in_own place inside holds) =
      counted_set place 0 (one_more_of (counter_at counters place)) inside holds
      (omega (arith, (saved.held place inside).amounts_fit))
  counted_placed (in_unused absent room) = counted_snoc
  counted_placed (in_replaced place least_at absent full) =
      counted_set place (unreported (counter_at counters place))
      (replacing (counter_at counters place) item) least_at.inside refl (omega arith)

-- In each of the three, what the counters say stays right.
pub saved_placed : {arrived arrived' reported : ℕ → ℕ} {capacity n item : ℕ}
    {counters : List Counter} {placement : Placement}
    → GrowsAt item 1 arrived arrived'
    → Saved arrived reported capacity n counters
    → Placed capacity counters item placement
    → Saved arrived' reported capacity (n + 1) (counters_after placement counters item)
saved_placed one_more saved (in_own place inside holds) =
    saved_own one_more saved place inside holds
saved_placed one_more saved (in_unused absent room) = saved_unused one_more saved absent room
saved_placed one_more saved (in_replaced place least_at absent full) =
    saved_replaced one_more saved place least_at absent full
