-- Laws of the histogram in a site's memory: sums over its front, and one count more.
--
--   sum_take_suc, get_d_le_sum
--   up_to_sum, up_to_values_at  the arrivals up to a value are a sum over the front
--   Adding, adding_on     the sum of the first counts, place by place
use Prim.Native.Nat.{ℕ, zero, suc, ◌+◌, ◌*◌, ◌<◌, ◌≤◌}
use mathlib.Core.Path.{◌≡◌, refl, ap, ◌∙◌}
use mathlib.Core.List.{List, [], ◌∷◌}
use native.Mathlib.Numerals.{add-one}
use native.Mathlib.Omega.{arith}
use lib.ListN.{length, get_or, take, drop}
use lib.Seq.{get_or-take, get_or-drop, take-take}
use Rattle.model.specs.Limits.{value_count}
use Rattle.model.specs.Site.{up_to}
use Rattle.model.specs.SiteMemory.{sum}
use Rattle.site_counters.specs.Stored.{greatest_word}

-- ---- Sums

pub sum_take_suc : (xs : List ℕ) (i : ℕ)
    → i < length xs
    → sum (take (suc i) xs) ≡ sum (take i xs) + get_or xs i 0
sum_take_suc [] i within = absurd (omega arith)
sum_take_suc (x ∷ xs) zero within = omega arith
sum_take_suc (x ∷ xs) (suc i) within = omega (arith, sum_take_suc xs i (omega arith))

pub get_d_le_sum : (xs : List ℕ) (i : ℕ) → get_or xs i 0 ≤ sum xs
get_d_le_sum [] i = omega arith
get_d_le_sum (x ∷ xs) zero = omega arith
get_d_le_sum (x ∷ xs) (suc i) = omega (arith, get_d_le_sum xs i)

pub up_to_sum : (xs : List ℕ) (value : ℕ) → up_to value xs ≡ sum (take (suc value) xs)
up_to_sum [] value = refl
up_to_sum (x ∷ xs) zero = omega (arith, up_to_sum xs zero)
up_to_sum (x ∷ xs) (suc value) = ap (λ (n : ℕ). x + n) (up_to_sum xs value)

-- ---- The histogram within a memory

-- The histogram that starts at a place.
abbrev pub values_at : List ℕ → ℕ → List ℕ
values_at memory from = take value_count (drop from memory)

module _ (memory : List ℕ) (from : ℕ) (fits : from + value_count ≤ length memory) where
  pub get_d_values_at : (i : ℕ)
      → i < value_count
      → get_or (values_at memory from) i 0 ≡ get_or memory (from + i) 0
  get_d_values_at i within =
      get_or-take value_count (drop from memory) i 0 within ∙ get_or-drop from memory i 0

  -- The arrivals up to a value, as a sum over the memory.
  pub up_to_values_at : (value : ℕ)
      → value < value_count
      → up_to value (values_at memory from) ≡ sum (take (value + 1) (drop from memory))
  up_to_values_at value within =
      up_to_sum (values_at memory from) value
      ∙ rw (add-one value)
      (ap sum (take-take (suc value) value_count (drop from memory) (omega arith)))

-- ---- The sum of the first counts, place by place

-- The first i counts were added up; each is at most the greatest number of 4 bytes.
pub record Adding (counts : List ℕ) (counted i : ℕ) : Type 0 where
  pub counted_is : counted ≡ sum (take i counts)
  pub small : counted ≤ i * greatest_word

module _ (counts : List ℕ) where
  pub adding_on : (counted i : ℕ)
      → Adding counts counted i
      → i < length counts
      → get_or counts i 0 ≤ greatest_word
      → Adding counts (counted + get_or counts i 0) (i + 1)
  adding_on counted i adding inside word = record {
    counted_is = rw (add-one i) (omega (arith, sum_take_suc counts i inside, adding.counted_is));
    small = omega (arith, adding.small);
  }
