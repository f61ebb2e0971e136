-- Arrivals counted: one more arrival, and the arrivals below, at and above a value.
--
--   count_of_snoc, below_snoc, above_snoc, counted_snoc  one more arrival
--   below_above     at or below a value, and above it: all arrivals
--   below_mono      more are below a larger value
--   up_to_one_more  a histogram with one more arrival
use mathlib.Core.Path.{◌≡◌, refl, sym, ◌∙◌}
use mathlib.Core.Bool.{Bool, true, false}
use mathlib.Core.List.{List, [], ◌∷◌, ◌++◌}
use Prim.Native.Nat.{ℕ, zero, suc, ◌+◌, ◌≤◌, ◌<◌}
use native.Mathlib.Omega.{arith}
use native.Mathlib.Decide.{ℕ_discrete, dec_lt}
use lib.Dec.{eqb, ltb, leb-suc-suc}
use lib.ListN.{length, replicate}
use borrow.Author.Tests.{lt-ltb, le-ltb, eq-eqb, ne_eqb}
use Rattle.laws.proofs.Lists.{length_snoc}
use Rattle.model.specs.declared.Arrival.{Arrival}
use Rattle.model.specs.Site.{one_more_at, up_to}
use Rattle.model.specs.Claims.{one_if, counted, count_of, below, above}

-- ---- Tests as numbers

-- A test counts 0 or 1.
pub one_if_le : (test : Bool) → one_if test ≤ 1
one_if_le true = omega arith
one_if_le false = omega arith

-- Equality as a test is symmetric.
pub eqb_sym : (a b : ℕ) → eqb a b ≡ eqb b a
eqb_sym a b = by_order (ℕ_discrete a b)
  where
    by_order : Dec (a ≡ b) → eqb a b ≡ eqb b a
    by_order (yes same) = eq-eqb a b same ∙ sym (eq-eqb b a (sym same))
    by_order (no differ) = ne_eqb a b differ ∙ sym (ne_eqb b a (λ same. differ (sym same)))

-- ---- One more arrival

-- One more arrival is one more.
pub counted_snoc : (arrivals : List Arrival) (arrival : Arrival)
    → counted (arrivals ++ (arrival ∷ [])) ≡ counted arrivals + 1
counted_snoc arrivals arrival = length_snoc arrivals arrival

-- It counts for its item alone.
pub count_of_snoc : (item : ℕ) (arrivals : List Arrival) (arrival : Arrival)
    → count_of item (arrivals ++ (arrival ∷ []))
    ≡ count_of item arrivals + one_if (eqb arrival.item item)
count_of_snoc item [] arrival = omega arith
count_of_snoc item (first ∷ arrivals) arrival = omega (arith, count_of_snoc item arrivals arrival)

-- It is below every larger value.
pub below_snoc : (value : ℕ) (arrivals : List Arrival) (arrival : Arrival)
    → below value (arrivals ++ (arrival ∷ []))
    ≡ below value arrivals + one_if (ltb arrival.value value)
below_snoc value [] arrival = omega arith
below_snoc value (first ∷ arrivals) arrival = omega (arith, below_snoc value arrivals arrival)

-- It is above every smaller value.
pub above_snoc : (value : ℕ) (arrivals : List Arrival) (arrival : Arrival)
    → above value (arrivals ++ (arrival ∷ []))
    ≡ above value arrivals + one_if (ltb value arrival.value)
above_snoc value [] arrival = omega arith
above_snoc value (first ∷ arrivals) arrival = omega (arith, above_snoc value arrivals arrival)

-- ---- Below and above

-- No value is below 0.
pub below_zero : (arrivals : List Arrival) → below 0 arrivals ≡ 0
below_zero [] = refl
below_zero (arrival ∷ arrivals) =
    rw (le-ltb arrival.value 0 (omega arith)) (omega (arith, below_zero arrivals))

-- What is below a value is below a larger one.
pub below_mono : (v w : ℕ) (arrivals : List Arrival) → v ≤ w → below v arrivals ≤ below w arrivals
below_mono v w [] v≤w = omega arith
below_mono v w (arrival ∷ arrivals) v≤w =
    by_value (dec_lt arrival.value v) (below_mono v w arrivals v≤w)
  where
    by_value : Dec (arrival.value < v)
        → below v arrivals ≤ below w arrivals
        → below v (arrival ∷ arrivals) ≤ below w (arrival ∷ arrivals)
    by_value (yes less) others =
        rw (lt-ltb arrival.value v less, lt-ltb arrival.value w (omega arith)) (omega arith)
    by_value (no more) others =
        rw (le-ltb arrival.value v (omega arith)) (omega arith)

-- An arrival is at or below a value, or above it.
pub below_above : (value : ℕ) (arrivals : List Arrival)
    → below (value + 1) arrivals + above value arrivals ≡ counted arrivals
below_above value [] = refl
below_above value (arrival ∷ arrivals) =
    by_value (dec_lt value arrival.value) (below_above value arrivals)
  where
    by_value : Dec (value < arrival.value)
        → below (value + 1) arrivals + above value arrivals ≡ counted arrivals
        → below (value + 1) (arrival ∷ arrivals) + above value (arrival ∷ arrivals)
        ≡ counted (arrival ∷ arrivals)
    by_value (yes larger) others =
        rw (
          lt-ltb value arrival.value larger,
          le-ltb arrival.value (value + 1) (omega arith),
        ) (omega arith)
    by_value (no smaller) others =
        rw (
          le-ltb value arrival.value (omega arith),
          lt-ltb arrival.value (value + 1) (omega arith),
        ) (omega arith)

-- ---- Histograms

-- A histogram of zeros counts nothing.
pub up_to_zeros : (value n : ℕ) → up_to value (replicate n 0) ≡ 0
up_to_zeros zero zero = refl
up_to_zeros zero (suc n) = refl
up_to_zeros (suc value) zero = refl
up_to_zeros (suc value) (suc n) = omega (arith, up_to_zeros value n)

-- One more arrival in a histogram counts from its value on.
pub up_to_one_more : (w : ℕ) (histogram : List ℕ) (value : ℕ)
    → value < length histogram
    → up_to w (one_more_at histogram value) ≡ up_to w histogram + one_if (ltb value (w + 1))
up_to_one_more w [] value inside = absurd (omega arith)
up_to_one_more zero (count ∷ counts) zero inside = omega arith
up_to_one_more zero (count ∷ counts) (suc value) inside =
    rw (le-ltb (suc value) (zero + 1) (omega arith)) (omega arith)
up_to_one_more (suc w) (count ∷ counts) zero inside =
    rw (lt-ltb zero (suc w + 1) (omega arith)) (omega arith)
up_to_one_more (suc w) (count ∷ counts) (suc value) inside =
    let next : suc w + 1 ≡ suc (w + 1) = omega arith in
    rw (next, leb-suc-suc (suc value) (w + 1))
    (omega (arith, up_to_one_more w counts value (omega arith)))
