-- Laws of a list of numbers walked from place 0 on: whether all are within a limit, and their sum.
--
--   Checked, checked_start, checked_on, checked_off, checked_end   the walk of `all_within`
--   Summed, summed_start, summed_on, summed_end                    the walk of `sum`
--   within_at           all within a limit: the number at any place is
--   length_halves, halves_at, halves_within    their higher halves, and what these decide
use mathlib.Core.Path.{◌≡◌, refl, ap, ◌∙◌}
use mathlib.Core.Bool.{Bool, true, false, ◌&&◌}
use mathlib.Core.List.{List, [], ◌∷◌}
use Prim.Native.Nat.{ℕ, zero, suc, ◌+◌, ◌*◌, ◌/◌, ◌≤◌, ◌<◌}
use native.Mathlib.Numerals.{add-one}
use native.Mathlib.Omega.{arith}
use lib.Dec.{leb}
use lib.ListN.{length, get_or, drop, drop_of_length-le}
use lib.Seq.{drop-cons}
use borrow.Author.Tests.{leb-true, le-leb, lt-leb}
use Rattle.laws.proofs.Tests.{both_true}
use Rattle.model.specs.SiteMemory.{sum}
use Rattle.model.specs.CoordinatorMemory.{all_within}
use Rattle.coordinator_memory.specs.Consistency.{half_range, higher_halves}

-- The list from a place on begins with the number there.
drop_on : (numbers : List ℕ) (i : ℕ)
    → i < length numbers
    → drop i numbers ≡ get_or numbers i 0 ∷ drop (i + 1) numbers
drop_on numbers i inside = rw (add-one i) (drop-cons numbers i 0 inside)

-- ---- All within a limit

-- The first i numbers are within the limit: those after them decide.
pub record Checked (limit : ℕ) (numbers : List ℕ) (i : ℕ) : Type 0 where
  pub place : i ≤ length numbers
  pub rest_decides : all_within limit numbers ≡ all_within limit (drop i numbers)

module _ (limit : ℕ) (numbers : List ℕ) where
  pub checked_start : Checked limit numbers 0
  checked_start = record { place = omega arith; rest_decides = refl }

  pub checked_on : (i : ℕ)
      → Checked limit numbers i
      → i < length numbers
      → get_or numbers i 0 ≤ limit
      → Checked limit numbers (i + 1)
  checked_on i checked inside small = record {
    place = omega arith;
    rest_decides = checked.rest_decides
        ∙ ap (all_within limit) (drop_on numbers i inside)
        ∙ ap (λ (test : Bool). test && all_within limit (drop (i + 1) numbers))
        (le-leb (get_or numbers i 0) limit small);
  }

  pub checked_off : (i : ℕ)
      → Checked limit numbers i
      → i < length numbers
      → limit < get_or numbers i 0
      → all_within limit numbers ≡ false
  checked_off i checked inside large =
      checked.rest_decides
      ∙ ap (all_within limit) (drop_on numbers i inside)
      ∙ ap (λ (test : Bool). test && all_within limit (drop (i + 1) numbers))
      (lt-leb (get_or numbers i 0) limit large)

  pub checked_end : (i : ℕ)
      → Checked limit numbers i
      → length numbers ≤ i
      → all_within limit numbers ≡ true
  checked_end i checked past =
      checked.rest_decides ∙ ap (all_within limit) (drop_of_length-le numbers past)

pub within_at : (limit : ℕ) (numbers : List ℕ)
    → all_within limit numbers ≡ true
    → (i : ℕ)
    → get_or numbers i 0 ≤ limit
within_at limit [] all i = omega arith
within_at limit (x ∷ xs) all zero =
    leb-true x limit (both_true (leb x limit) (all_within limit xs) all).first_true
within_at limit (x ∷ xs) all (suc i) =
    within_at limit xs (both_true (leb x limit) (all_within limit xs) all).second_true i

-- ---- Their higher halves

pub length_halves : (numbers : List ℕ) → length (higher_halves numbers) ≡ length numbers
length_halves [] = refl
length_halves (x ∷ xs) = ap suc (length_halves xs)

pub halves_at : (numbers : List ℕ) (i : ℕ)
    → get_or (higher_halves numbers) i 0 ≡ get_or numbers i 0 / half_range
halves_at [] i = omega arith
halves_at (x ∷ xs) zero = refl
halves_at (x ∷ xs) (suc i) = halves_at xs i

-- Their sum is at least each of them: below the limit's, no number is above the limit.
pub halves_within : (limit : ℕ) (numbers : List ℕ)
    → sum (higher_halves numbers) < limit / half_range
    → all_within limit numbers ≡ true
halves_within limit [] below = refl
halves_within limit (x ∷ xs) below =
    rw (le-leb x limit (omega (arith, below))) (halves_within limit xs (omega (arith, below)))

-- ---- The sum

-- The sum of the first i numbers, each at most the limit.
pub record Summed (limit : ℕ) (numbers : List ℕ) (total i : ℕ) : Type 0 where
  pub place : i ≤ length numbers
  pub rest_adds : sum numbers ≡ total + sum (drop i numbers)
  pub small : total ≤ i * limit

module _ (limit : ℕ) (numbers : List ℕ) where
  pub summed_start : Summed limit numbers 0 0
  summed_start = record { place = omega arith; rest_adds = omega arith; small = omega arith }

  pub summed_on : (total i : ℕ)
      → Summed limit numbers total i
      → i < length numbers
      → get_or numbers i 0 ≤ limit
      → Summed limit numbers (total + get_or numbers i 0) (i + 1)
  summed_on total i summed inside within = record {
    place = omega arith;
    rest_adds = omega (arith, summed.rest_adds, ap sum (drop_on numbers i inside));
    small = omega (arith, summed.small);
  }

  pub summed_end : (total i : ℕ)
      → Summed limit numbers total i
      → length numbers ≤ i
      → total ≡ sum numbers
  summed_end total i summed past =
      omega (arith, summed.rest_adds, ap sum (drop_of_length-le numbers past))
