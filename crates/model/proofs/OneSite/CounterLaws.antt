-- Lists of counters: where an item is, and where the least count is.
--
--   Found, find_is          the lowest place of the item; the number of counters if it has none
--   LeastAt, least_place_is  a place whose count no other undercuts
use mathlib.Core.Path.{◌≡◌, refl}
use mathlib.Core.Bool.{Bool, true, false, ◌||◌}
use mathlib.Core.List.{List, [], ◌∷◌}
use Prim.Native.Nat.{ℕ, zero, suc, ◌+◌, ◌≤◌, ◌<◌}
use native.Mathlib.Omega.{arith}
use lib.Dec.{eqb, ltb}
use lib.ListN.{length}
use borrow.Author.Tests.{ltb-true, ltb-false, eqb-true, eqb-false}
use Rattle.laws.proofs.Tests.{both_true}
use Rattle.laws.proofs.Lists.{all_cons}
use Rattle.model.specs.Counters.{Counter, no_counter, counter_at, find, precedes, least_from, least_place}

-- ---- Where an item is

-- The lowest place that holds the item, or the number of counters.
pub record Found (item : ℕ) (counters : List Counter) (place : ℕ) : Type 0 where
  pub within : place ≤ length counters
  pub holds : place < length counters → (counter_at counters place).item ≡ item
  pub lowest : (j : ℕ) → j < place → (counter_at counters j).item ≡ item → ⊥

found_later : (item : ℕ) (counter : Counter) (counters : List Counter) (place : ℕ)
    → eqb counter.item item ≡ false
    → Found item counters place
    → Found item (counter ∷ counters) (suc place)
found_later item counter counters place differs later = record {
  within = omega arith;
  holds = λ inside. later.holds (omega arith);
  lowest = not_before;
}
  where
    not_before : (j : ℕ) → j < suc place → (counter_at (counter ∷ counters) j).item ≡ item → ⊥
    not_before zero before same = eqb-false counter.item item differs same
    not_before (suc j) before same = later.lowest j (omega arith) same

-- `find` answers it.
pub find_is : (item : ℕ) (counters : List Counter) → Found item counters (find item counters)
find_is item [] = record {
  within = omega arith;
  holds = λ inside. absurd (omega arith);
  lowest = λ j before same. omega arith;
}
find_is item (counter ∷ counters) =
    by_first (eqb counter.item item) refl (find_is item counters)
  where
    by_first : (same : Bool) → eqb counter.item item ≡ same
        → Found item counters (find item counters)
        → Found item (counter ∷ counters) (find item (counter ∷ counters))
    by_first true same later = rw (same, find) (record {
      within = omega arith;
      holds = λ inside. eqb-true counter.item item same;
      lowest = λ j before held. omega arith;
    })
    by_first false differs later =
        rw (differs, find) (found_later item counter counters _ differs later)

-- ---- Where the least count is

-- No counter has a smaller count than the one at this place.
pub record LeastAt (counters : List Counter) (place : ℕ) : Type 0 where
  pub inside : place < length counters
  pub least : (j : ℕ) → j < length counters
      → (counter_at counters place).count ≤ (counter_at counters j).count

-- The result of a scan of the counters from a place on: the best so far stays, or one of these is
-- better.
data Best (place best : ℕ) (least : Counter) (counters : List Counter) (r : ℕ) : Type 0 where
  kept : r ≡ best
      → ((j : ℕ) → j < length counters → least.count ≤ (counter_at counters j).count)
      → Best place best least counters r
  moved : (q : ℕ) → r ≡ place + q
      → LeastAt counters q
      → (counter_at counters q).count ≤ least.count
      → Best place best least counters r

count_of_precedes : (x y : Counter) → precedes x y ≡ true → x.count ≤ y.count
count_of_precedes x y first = by_count (ltb x.count y.count) refl
  where
    by_count : (less : Bool) → ltb x.count y.count ≡ less → x.count ≤ y.count
    by_count true less = omega (arith, ltb-true x.count y.count less)
    by_count false not-less =
        let equal : eqb x.count y.count ≡ true =
        (both_true _ _ (rw not-less at first)).first_true in
        omega (arith, eqb-true x.count y.count equal)

or_first_false : (a b : Bool) → (a || b) ≡ false → a ≡ false
or_first_false true b none = none
or_first_false false b none = refl

count_of_not_precedes : (x y : Counter) → precedes x y ≡ false → y.count ≤ x.count
count_of_not_precedes x y later =
    ltb-false x.count y.count (or_first_false _ _ later)

-- The least of some counters is the least with one more in front, if its count is no larger.
least_cons : (counter : Counter) (counters : List Counter) (q : ℕ)
    → LeastAt counters q
    → (counter_at counters q).count ≤ counter.count
    → LeastAt (counter ∷ counters) (suc q)
least_cons counter counters q least_at no-larger = record {
  inside = omega arith;
  least =
      all_cons (λ x. (counter_at counters q).count ≤ x.count) no_counter counter counters no-larger
      least_at.least;
}

-- The first counter is the least if no other undercuts it.
least_first : (counter : Counter) (counters : List Counter)
    → ((j : ℕ) → j < length counters → counter.count ≤ (counter_at counters j).count)
    → LeastAt (counter ∷ counters) 0
least_first counter counters each = record {
  inside = omega arith;
  least = all_cons (λ x. counter.count ≤ x.count) no_counter counter counters (omega arith) each;
}

least_from_is : (place best : ℕ) (least : Counter) (counters : List Counter)
    → Best place best least counters (least_from place best least counters)
least_from_is place best least [] = kept refl (λ j below. absurd (omega arith))
least_from_is place best least (counter ∷ counters) =
    by_order (precedes counter least) refl
    (least_from_is (place + 1) place counter counters)
    (least_from_is (place + 1) best least counters)
  where
    -- This counter is the best so far.
    taken : (r : ℕ) → counter.count ≤ least.count
        → Best (place + 1) place counter counters r
        → Best place best least (counter ∷ counters) r
    taken r better (kept r-is each) =
        moved 0 (omega arith) (least_first counter counters each) better
    taken r better (moved q r-is least_at no-larger) =
        moved (suc q) (omega arith) (least_cons counter counters q least_at no-larger) (omega arith)

    -- The best so far stays.
    passed_over : (r : ℕ) → least.count ≤ counter.count
        → Best (place + 1) best least counters r
        → Best place best least (counter ∷ counters) r
    passed_over r no-better (kept r-is each) =
        kept r-is
        (all_cons (λ x. least.count ≤ x.count) no_counter counter counters no-better each)
    passed_over r no-better (moved q r-is least_at no-larger) =
        moved (suc q) (omega arith) (least_cons counter counters q least_at (omega arith)) no-larger

    by_order : (first : Bool) → precedes counter least ≡ first
        → Best (place + 1) place counter counters (least_from (place + 1) place counter counters)
        → Best (place + 1) best least counters (least_from (place + 1) best least counters)
        → Best place best least (counter ∷ counters)
        (least_from place best least (counter ∷ counters))
    by_order true first if-taken if-not =
        rw (first, least_from) (taken _ (count_of_precedes counter least first) if-taken)
    by_order false later if-taken if-not =
        rw (later, least_from) (passed_over _ (count_of_not_precedes counter least later) if-not)

-- `least_place` answers such a place, of at least one counter.
pub least_place_is : (counters : List Counter)
    → 1 ≤ length counters
    → LeastAt counters (least_place counters)
least_place_is [] some = absurd (omega arith)
least_place_is (counter ∷ counters) some =
    by_best (least_from 1 0 counter counters) (least_from_is 1 0 counter counters)
  where
    by_best : (r : ℕ) → Best 1 0 counter counters r → LeastAt (counter ∷ counters) r
    by_best r (kept r-is each) = rw r-is (least_first counter counters each)
    by_best r (moved q r-is least_at no-larger) =
        let r-is-suc : r ≡ suc q = omega arith in
        rw r-is-suc (least_cons counter counters q least_at no-larger)
