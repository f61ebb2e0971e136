-- Space-Saving at one site: what its counters say of the arrivals of each item (PROOF.md S1 to S4),
-- and that an arrival counted in its own or in an unused counter keeps it; Replacement has the
-- third way.
--
-- `arrived item` is the item's arrivals at this site, `reported item` the sum of the site's item
-- reports of it; n is the site's arrivals.
--
--   CounterOk, NotHeld, Saved     of one counter; of an item without one; of the whole list
--   saved_fresh                   of no counters
--   saved_own, saved_unused       an arrival is counted
use mathlib.Core.Path.{◌≡◌, refl, sym, ◌∙◌}
use mathlib.Core.List.{List, [], ◌∷◌, ◌++◌}
use Prim.Native.Nat.{ℕ, ◌+◌, ◌*◌, ◌≤◌, ◌<◌}
use native.Mathlib.Omega.{arith}
use lib.ListN.{length, set, length-set}
use Rattle.laws.proofs.Lists.{length_snoc, all_set, all_snoc}
use Rattle.laws.proofs.Sums.{sum_of, sum_of_nil, sum_of_set, sum_of_snoc}
use Rattle.model.specs.Counters.{Counter, no_counter, counter_at, one_more_of, first_of}
use Rattle.model.proofs.OneSite.DistinctItems.{Absent, Apart, apart_set, apart_snoc, absent_of_set, absent_before_set, absent_of_snoc}

-- ---- What holds

-- S2 and S3 of one counter, and that its overestimate is at most n / capacity.
pub record CounterOk (arrived reported : ℕ → ℕ) (capacity n : ℕ) (x : Counter) : Type 0 where
  pub amounts_fit : x.overestimate + x.reported ≤ x.count
  pub arrived_le_count : arrived x.item ≤ x.count
  pub reported_low : reported x.item + x.count
      ≤ arrived x.item + x.overestimate + x.reported
  pub reported_high : x.reported ≤ reported x.item
  pub overestimate_low : capacity * x.overestimate ≤ n

-- S4 of an item without a counter: it arrived at most as often as the least count says, and not at
-- all while a counter is unused.
pub record NotHeld (arrived reported : ℕ → ℕ) (capacity : ℕ)
    (counters : List Counter) (item : ℕ) : Type 0 where
  pub reported_le : reported item ≤ arrived item
  pub arrived_le_counts : (j : ℕ) → j < length counters → arrived item ≤
      (counter_at counters j).count
  pub none_arrived : length counters < capacity → arrived item ≡ 0

-- S1 to S4 of the counters of a site with n arrivals.
pub record Saved (arrived reported : ℕ → ℕ) (capacity n : ℕ)
    (counters : List Counter) : Type 0 where
  pub within : length counters ≤ capacity
  pub counts_add_up : sum_of (λ x. x.count) counters ≡ n
  pub apart : Apart counters
  pub held : (j : ℕ) → j < length counters
      → CounterOk arrived reported capacity n (counter_at counters j)
  pub not_held : (item : ℕ) → Absent item counters
      → NotHeld arrived reported capacity counters item

-- No counter, no arrival.
pub saved_fresh : (capacity : ℕ) → Saved (λ item. 0) (λ item. 0) capacity 0 []
saved_fresh capacity = record {
  within = omega arith;
  counts_add_up = sum_of_nil (λ x. x.count);
  apart = record { same_place = λ i j i<. absurd (omega arith) };
  held = λ j j<. absurd (omega arith);
  not_held = λ item absent. record {
    reported_le = omega arith;
    arrived_le_counts = λ j j<. absurd (omega arith);
    none_arrived = λ unused. refl;
  };
}

-- ---- An arrival is counted

-- A function that grows by some amount at one item.
pub record GrowsAt (item amount : ℕ) (f f' : ℕ → ℕ) : Type 0 where
  pub grown : f' item ≡ f item + amount
  pub same : (other : ℕ) → (other ≡ item → ⊥) → f' other ≡ f other

module _ {arrived arrived' reported : ℕ → ℕ} {capacity n item : ℕ} {counters : List Counter}
    (one_more : GrowsAt item 1 arrived arrived')
    (saved : Saved arrived reported capacity n counters) where
  -- A counter of another item.
  pub other_ok : (x : Counter)
      → (x.item ≡ item → ⊥)
      → CounterOk arrived reported capacity n x
      → CounterOk arrived' reported capacity (n + 1) x
  other_ok x differs ok =
      let unchanged : arrived' x.item ≡ arrived x.item = one_more.same x.item differs in
      record {
        amounts_fit = ok.amounts_fit;
        arrived_le_count = omega arith;
        reported_low = omega arith;
        reported_high = ok.reported_high;
        overestimate_low = omega arith;
      }

  -- Of another item without a counter, before and after: the counts never fell.
  pub others_not_held : (other : ℕ)
      → (item ≡ other → ⊥)
      → NotHeld arrived reported capacity counters other
      → (after : List Counter)
      → ((j : ℕ) → j < length after → arrived other ≤ (counter_at after j).count)
      → (length after < capacity → length counters < capacity)
      → NotHeld arrived' reported capacity after other
  others_not_held other differs before after larger unused =
      let unchanged : arrived' other ≡ arrived other =
      one_more.same other (λ same. differs (sym same)) in
      record {
        reported_le = omega arith;
        arrived_le_counts = λ j j<. omega (arith, larger j j<);
        none_arrived = λ room. omega (arith, before.none_arrived (unused room));
      }

  -- The item's own counter gains one count.
  pub saved_own : (place : ℕ)
      → place < length counters
      → (counter_at counters place).item ≡ item
      → Saved arrived' reported capacity (n + 1)
      (set counters place (one_more_of (counter_at counters place)))
  saved_own place inside holds = record {
    within = omega (arith, length-set counters place x);
    counts_add_up = omega (arith, sum_of_set (λ x. x.count) no_counter counters place x inside);
    apart = apart_set counters place x inside saved.apart elsewhere;
    held = all_set (CounterOk arrived' reported capacity (n + 1)) no_counter counters place x inside
        x_ok (λ j j< other. other_ok _ (λ same. elsewhere j j< other (cc)) (saved.held j j<));
    not_held = others;
  }
    where
      x : Counter
      x = one_more_of (counter_at counters place)

      elsewhere : (j : ℕ) → j < length counters → (j ≡ place → ⊥)
          → (counter_at counters j).item ≡ (counter_at counters place).item → ⊥
      elsewhere j j< other same = other (saved.apart.same_place j place j< inside same)

      x_ok : CounterOk arrived' reported capacity (n + 1) x
      x_ok =
          let ok : CounterOk arrived reported capacity n (counter_at counters place) =
          saved.held place inside in
          let grown : arrived' (counter_at counters place).item
          ≡ arrived (counter_at counters place).item + 1 = rw holds one_more.grown in
          record {
            amounts_fit = omega arith;
            arrived_le_count = omega arith;
            reported_low = omega arith;
            reported_high = ok.reported_high;
            overestimate_low = omega arith;
          }

      others : (other : ℕ) → Absent other (set counters place x)
          → NotHeld arrived' reported capacity (set counters place x) other
      others other absent =
          let differs : (counter_at counters place).item ≡ other → ⊥ =
          (absent_of_set counters place x inside other absent).not_new in
          let before : NotHeld arrived reported capacity counters other =
          saved.not_held other
          (absent_before_set counters place x inside other absent differs) in
          others_not_held other (λ same. differs (holds ∙ same)) before (set counters place x)
          (all_set (λ y. arrived other ≤ y.count) no_counter counters place x inside
          (omega (arith, before.arrived_le_counts place inside))
          (λ j j< _. before.arrived_le_counts j j<))
          (λ room. omega (arith, length-set counters place x))

  -- The item takes an unused counter: it never arrived before.
  pub saved_unused : Absent item counters
      → length counters < capacity
      → Saved arrived' reported capacity (n + 1) (counters ++ (first_of item ∷ []))
  saved_unused absent room = record {
    within = omega (arith, length_snoc counters x);
    counts_add_up = omega (arith, sum_of_snoc (λ x. x.count) counters x);
    apart = apart_snoc counters x saved.apart absent;
    held = all_snoc (CounterOk arrived' reported capacity (n + 1)) no_counter counters x x_ok
        (λ j j<. other_ok _ (absent.nowhere j j<) (saved.held j j<));
    not_held = others;
  }
    where
      x : Counter
      x = first_of item

      x_ok : CounterOk arrived' reported capacity (n + 1) x
      x_ok =
          let before : NotHeld arrived reported capacity counters item =
          saved.not_held item absent in
          let none : arrived item ≡ 0 = before.none_arrived room in
          record {
            amounts_fit = omega arith;
            arrived_le_count = omega (arith, one_more.grown);
            reported_low = omega (arith, one_more.grown);
            reported_high = omega arith;
            overestimate_low = omega arith;
          }

      others : (other : ℕ) → Absent other (counters ++ (x ∷ []))
          → NotHeld arrived' reported capacity (counters ++ (x ∷ [])) other
      others other gone =
          let was = absent_of_snoc counters x other gone in
          let before : NotHeld arrived reported capacity counters other =
          saved.not_held other was.absent_before in
          let none : arrived other ≡ 0 = before.none_arrived room in
          others_not_held other was.not_new before (counters ++ (x ∷ []))
          (all_snoc (λ y. arrived other ≤ y.count) no_counter counters x (omega arith)
          before.arrived_le_counts)
          (λ _. room)
