-- Halving an interval of values, for a free number of halvings (PROOF.md section 5; document 01:
-- "the desk halves the interval 0 to 1023 until low = high").
--
--   halve test h low high       the value that is left, after at most h halvings
--   halve_is_least              the least value at which the test holds, if high < low + 2 ^ h
use mathlib.Core.Path.{◌≡◌, refl, sym, ap, ◌∙◌}
use mathlib.Core.Bool.{Bool, true, false}
use Prim.Native.Nat.{ℕ, zero, suc, ◌+◌, ◌^◌, ◌≤◌, ◌<◌}
use native.Mathlib.Omega.{arith}
use lib.Dec.{eqb}
use borrow.Author.Tests.{eqb-true, eqb-false, eq-eqb, ne_eqb}
use Rattle.model.specs.Coordinator.{middle}

-- Stops early where low = high; otherwise the half in which the test begins to hold.
pub halve : (ℕ → Bool) → ℕ → ℕ → ℕ → ℕ
halve test zero low high = low
halve test (suc h) low high =
    elim (eqb low high) [
      | true ↦ low
      | false ↦ elim (test (middle low high)) [
        | true ↦ halve test h low (middle low high)
        | false ↦ halve test h (middle low high + 1) high
      ]
    ]

-- ---- One halving

-- An interval of one value is that value.
pub halve_done : (test : ℕ → Bool) (h low high : ℕ) → low ≡ high → halve test h low high ≡ low
unfolding halve
halve_done test zero low high done = refl
halve_done test (suc h) low high done = rw (eq-eqb low high done, halve)

-- The test holds at the middle: the lower half is left.
pub halve_lower : (test : ℕ → Bool) (h low high : ℕ)
    → low < high
    → test (middle low high) ≡ true
    → halve test (suc h) low high ≡ halve test h low (middle low high)
unfolding halve
halve_lower test h low high wide holds =
    rw (ne_eqb low high (λ done. omega arith), halve, holds, halve)

-- It fails there: the upper half is left.
pub halve_upper : (test : ℕ → Bool) (h low high : ℕ)
    → low < high
    → test (middle low high) ≡ false
    → halve test (suc h) low high ≡ halve test h (middle low high + 1) high
unfolding halve
halve_upper test h low high wide fails =
    rw (ne_eqb low high (λ done. omega arith), halve, fails, halve)

-- ---- The value that is left

-- The least value at which a test holds.
pub record Least (test : ℕ → Bool) (value : ℕ) : Type 0 where
  pub holds : test value ≡ true
  pub fails_below : (lower : ℕ) → lower < value → test lower ≡ false

-- A test that goes on holding as values grow.
abbrev pub Rising : (ℕ → Bool) → Type 0
Rising test = (v w : ℕ) → v ≤ w → test v ≡ true → test w ≡ true

module _ (test : ℕ → Bool) (rising : Rising test) where
  fails_of_larger : (v w : ℕ) → v ≤ w → test w ≡ false → test v ≡ false
  fails_of_larger v w v≤w fails = by_test (test v) refl
    where
      by_test : (b : Bool) → test v ≡ b → test v ≡ false
      by_test true holds = cc (rising v w v≤w holds)
      by_test false fails-too = fails-too

  -- Each halving keeps that the test holds at high and fails below low; the interval that is left
  -- has at most half the values, so that h of them leave one.
  pub halve_is_least : (h low high : ℕ)
      → low ≤ high
      → high < low + 2 ^ h
      → test high ≡ true
      → ((lower : ℕ) → lower < low → test lower ≡ false)
      → Least test (halve test h low high)
  halve_is_least zero low high ordered narrow holds fails =
      let done : high ≡ low = omega arith in
      rw (halve_done test zero low high (sym done)) (record {
        holds = rw done at holds;
        fails_below = fails;
      })
  halve_is_least (suc h) low high ordered narrow holds fails =
      by_width (eqb low high) refl (test (middle low high)) refl
      (halve_is_least h low (middle low high)) (halve_is_least h (middle low high + 1) high)
    where
      by_width : (done : Bool) → eqb low high ≡ done
          → (lower : Bool) → test (middle low high) ≡ lower
          → (low ≤ middle low high → middle low high < low + 2 ^ h
          → test (middle low high) ≡ true
          → ((w : ℕ) → w < low → test w ≡ false)
          → Least test (halve test h low (middle low high)))
          → (middle low high + 1 ≤ high → high < middle low high + 1 + 2 ^ h
          → test high ≡ true
          → ((w : ℕ) → w < middle low high + 1 → test w ≡ false)
          → Least test (halve test h (middle low high + 1) high))
          → Least test (halve test (suc h) low high)
      by_width true same lower at-middle in-lower in-upper =
          let done : low ≡ high = eqb-true low high same in
          rw (halve_done test (suc h) low high done) (record {
            holds = ap test done ∙ holds;
            fails_below = fails;
          })
      by_width false differ true at-middle in-lower in-upper =
          let wide : low < high = omega (arith, eqb-false low high differ) in
          rw (halve_lower test h low high wide at-middle)
          (in-lower (omega arith) (omega arith) at-middle fails)
      by_width false differ false at-middle in-lower in-upper =
          let wide : low < high = omega (arith, eqb-false low high differ) in
          rw (halve_upper test h low high wide at-middle)
          (in-upper (omega arith) (omega arith) holds
          (λ w w<. fails_of_larger w (middle low high) (omega arith) at-middle))
