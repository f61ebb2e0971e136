-- How many items the list holds after a run (PROOF.md section 3): each listed item has its share of
-- the arrivals, and an arrival is of one item only.
--
-- Letters: e epsilon, p phi, n all arrivals, l the items listed.
--
--   list_size_of_estimates     the bounds on the list's length, from those on estimates alone
use Rattle.std.specs.Prelude.{if◌then◌else◌}
use mathlib.Core.Path.{◌≡◌, refl, ap}
use mathlib.Core.Bool.{Bool, true, false}
use mathlib.Core.List.{List, [], ◌∷◌, ◌++◌}
use Prim.Native.Nat.{ℕ, zero, suc, ◌+◌, ◌-◌, ◌*◌, ◌/◌, ◌≤◌, ◌<◌}
use native.Mathlib.Nat.{mul-le-mul_left, mul-le-mul_right, le_of_mul-le-mul_right, le-div_iff_mul-le}
use native.Mathlib.Omega.{arith}
use native.Mathlib.Decide.{ℕ_discrete, dec_lt}
use lib.Dec.{eqb, leb}
use lib.ListN.{length, get_or}
use borrow.Author.Tests.{eq-eqb, ne_eqb, leb-true}
use Rattle.laws.proofs.Arithmetic.{mul_gap}
use Rattle.laws.proofs.Tests.{both_true}
use Rattle.model.specs.declared.Settings.{Settings}
use Rattle.model.specs.declared.Arrival.{Arrival}
use Rattle.model.specs.Coordinator.{Coordinator}
use Rattle.model.specs.Reading.{is_listed, listed_from, heavy_hitters, needed_side, held_side}
use Rattle.model.specs.Runs.{Run}
use Rattle.model.specs.Claims.{one_if, counted, count_of, Estimates, ListSize}
use Rattle.model.proofs.Thresholds.SettingsLaws.{Settled}
use Rattle.model.proofs.BetweenArrivals.ListLaws.{list_law}

-- ---- Arrivals of several items

-- The arrivals of so many items from one on.
abbrev count_among : ℕ → ℕ → List Arrival → ℕ
count_among zero item arrivals = 0
count_among (suc more) item arrivals = count_of item arrivals + count_among more (item + 1) arrivals

-- How often an item is among so many from one on.
abbrev times_among : ℕ → ℕ → ℕ → ℕ
times_among zero first item = 0
times_among (suc more) first item = one_if (eqb item first) + times_among more (first + 1) item

not_among : (more first item : ℕ) → item < first → times_among more first item ≡ 0
not_among zero first item less = refl
not_among (suc more) first item less =
    rw (ne_eqb item first (λ same. omega arith))
    (omega (arith, not_among more (first + 1) item (omega arith)))

-- At most once.
once_among : (more first item : ℕ) → times_among more first item ≤ 1
once_among zero first item = omega arith
once_among (suc more) first item =
    by_item (ℕ_discrete item first) (once_among more (first + 1) item)
  where
    by_item : Dec (item ≡ first) → times_among more (first + 1) item ≤ 1
        → times_among (suc more) first item ≤ 1
    by_item (yes same) later =
        rw (eq-eqb item first same)
        (omega (arith, not_among more (first + 1) item (omega arith)))
    by_item (no differ) later = rw (ne_eqb item first differ) (omega arith)

count_among_nil : (more first : ℕ) → count_among more first [] ≡ 0
count_among_nil zero first = refl
count_among_nil (suc more) first = omega (arith, count_among_nil more (first + 1))

count_among_cons : (more first : ℕ) (arrival : Arrival) (arrivals : List Arrival)
    → count_among more first (arrival ∷ arrivals)
    ≡ times_among more first arrival.item + count_among more first arrivals
count_among_cons zero first arrival arrivals = refl
count_among_cons (suc more) first arrival arrivals =
    omega (arith, count_among_cons more (first + 1) arrival arrivals)

-- So several items together have no more arrivals than there are.
count_among_le : (more first : ℕ) (arrivals : List Arrival)
    → count_among more first arrivals ≤ counted arrivals
count_among_le more first [] = omega (arith, count_among_nil more first)
count_among_le more first (arrival ∷ arrivals) =
    omega (
      arith,
      count_among_cons more first arrival arrivals,
      once_among more first arrival.item,
      count_among_le more first arrivals,
    )

-- ---- The list

module _ (settings : Settings) (c : Coordinator) where
  -- A listed item passes the second test of the list rule.
  listed_side : (item : ℕ) → is_listed settings c item ≡ true
      → needed_side settings c ≤ held_side c item
  listed_side item listed =
      leb-true (needed_side settings c) (held_side c item)
      (both_true (leb 1 c.total) (leb (needed_side settings c) (held_side c item)) listed
      ).second_true

  -- No more items are listed than there are.
  length_among : (more first : ℕ) → length (listed_from more first settings c) ≤ more
  length_among zero first = omega arith
  length_among (suc more) first =
      by_list (is_listed settings c first) (listed_from more (first + 1) settings c)
      (length_among more (first + 1))
    where
      by_list : (listed : Bool) (rest : List ℕ) → length rest ≤ more
          → length ((if listed then first ∷ [] else []) ++ rest) ≤ suc more
      by_list true rest later = omega arith
      by_list false rest later = omega arith

  module _ (arrivals : List Arrival)
      (estimate_le : (item : ℕ) → get_or c.estimates item 0 ≤ count_of item arrivals) where
    -- Of the listed items among so many: each has its share, so all together have theirs.
    shares_among : (more first : ℕ)
        → length (listed_from more first settings c) * needed_side settings c
        ≤ 2000 * count_among more first arrivals
    shares_among zero first = omega arith
    shares_among (suc more) first =
        by_list (is_listed settings c first) refl (listed_from more (first + 1) settings c)
        (shares_among more (first + 1))
      where
        by_list : (listed : Bool) → is_listed settings c first ≡ listed
            → (rest : List ℕ)
            → length rest * needed_side settings c ≤ 2000 * count_among more (first + 1) arrivals
            → length ((if listed then first ∷ [] else []) ++ rest) * needed_side settings c
            ≤ 2000 * count_among (suc more) first arrivals
        by_list true listed rest later =
            omega (arith, listed_side first listed, estimate_le first)
        by_list false unlisted rest later =
            let same : length ((if false then first ∷ [] else []) ++ rest) * needed_side settings c
            ≡ length rest * needed_side settings c = refl in
            omega (arith, same)

    shares_all : length (heavy_hitters settings c) * needed_side settings c
        ≤ 2000 * counted arrivals
    shares_all =
        omega (
          arith,
          shares_among settings.universe 0,
          count_among_le settings.universe 0 arrivals,
        )

-- ---- After a run

module _ {settings : Settings} {run : Run} (fit : Settled settings)
    (near : Estimates settings run) where
  abbrev n : ℕ
  n = counted run.accepted

  abbrev c : Coordinator
  c = run.network.coordinator

  abbrev l : ℕ
  l = length (heavy_hitters settings c)

  abbrev share : ℕ
  share = 2 * settings.phi - settings.epsilon

  abbrev others : ℕ
  others = 3000 - settings.epsilon

  shares : l * needed_side settings c ≤ 2000 * n
  shares = shares_all settings c run.accepted near.estimate_le

  -- (3000 - e) × n ≤ 3000 × total, so l × (2p - e) × (3000 - e) × n
  -- ≤ 3000 × l × (2p - e) × total ≤ 6,000,000 × n.
  shares_times : l * (share * others) * n ≤ 6000000 * n
  shares_times =
      let split : others + settings.epsilon ≡ 3000 = omega (arith, fit.epsilon.at_most) in
      let few : others * n ≤ 3000 * c.total =
      omega (arith, ap (λ (z : ℕ). z * n) split, near.total_near) in
      omega (arith, shares, mul-le-mul_left (l * share) few)

  shares_of_all : l * (share * others) ≤ 6000000
  shares_of_all = by_count (dec_lt 0 n)
    where
      by_count : Dec (0 < n) → l * (share * others) ≤ 6000000
      by_count (yes some) = le_of_mul-le-mul_right {k = n} shares_times some
      by_count (no none) =
          let empty : l ≡ 0 =
          ap length ((list_law settings c).empty_at_start (omega (arith, near.total_le))) in
          omega (arith, ap (λ (z : ℕ). z * (share * others)) empty)

  -- (e - 2) × (2998 - e) is not negative, so e × (3000 - e) is 2 × 2998 at least.
  shares_large : 5996 ≤ share * others
  shares_large =
      let split : others + settings.epsilon ≡ 3000 = omega (arith, fit.epsilon.at_most) in
      let share-le : settings.epsilon ≤ share = omega (arith, fit.phi_epsilon) in
      let below : settings.epsilon ≤ 2998 = omega (arith, fit.epsilon.at_most) in
      omega (
        arith,
        ap (λ (z : ℕ). settings.epsilon * z) split,
        mul_gap fit.epsilon.at_least below,
        mul-le-mul_right others share-le,
      )

  -- The bounds on the list's length.
  pub list_size_of_estimates : ListSize settings run
  list_size_of_estimates =
      let by-shares : l ≤ 6000000 / (share * others) =
      (le-div_iff_mul-le {k = share * others} (omega (arith, shares_large))).1 shares_of_all in
      record {
        shares = omega (arith, shares);
        shares_of_all = omega (arith, shares_of_all);
        at_most = omega (arith, by-shares, length_among settings c settings.universe 0);
        at_most_thousand =
            omega (arith, shares_of_all, mul-le-mul_left l shares_large);
      }
