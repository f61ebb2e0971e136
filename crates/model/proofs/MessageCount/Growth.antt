-- How the base grows from close to close, over numbers alone (PROOF.md M4 and M5): while the
-- threshold is 1 no close probes, and later the closes that probe are paid for by that growth.
--
-- Letters: k sites, e epsilon, t a threshold, b its base, t' and n the same after a close; a an
-- anchor, a base from which the base has not yet doubled, and g how often it doubled before.
--
--   Growth          what holds of threshold, base and the number of closes that probed
--   growth_first    the first close that leaves a threshold of 2 or more
--   growth_next     a later one
use mathlib.Core.Path.{◌≡◌}
use Prim.Native.Nat.{ℕ, suc, ◌+◌, ◌*◌, ◌≤◌, ◌<◌}
use native.Mathlib.Nat.{mul-le-mul_left, mul-le-mul_right, mul-le-mul, le_of_mul-le-mul_right}
use native.Mathlib.Omega.{arith}
use native.Mathlib.Decide.{dec_lt}
use Rattle.model.specs.Settings.{digits}
use Rattle.model.proofs.MessageCount.Digits.{digits_le, digits_twice}

-- `closes_probing` is the number of closes so far that left a threshold of 2 or more.
pub data Growth (k e threshold base closes_probing : ℕ) : Type 0 where
  early : threshold ≡ 1 → closes_probing ≡ 0 → Growth k e threshold base closes_probing
  late : (a g : ℕ)
      → 2 ≤ threshold
      → e * base ≤ 4500 * (k * threshold)
      → 1 ≤ a
      → a ≤ base
      → base < 2 * a
      → g + 3 ≤ digits a
      → e * (closes_probing * a) + 4500 * a ≤ (5500 * g + e) * a + 4500 * base
      → Growth k e threshold base closes_probing

-- The first close with a threshold above 1: 6000 × k ≤ 3000 × k × t ≤ e × b, so b ≥ 6, which has
-- three digits.
pub growth_first : (k e t b : ℕ)
    → 1 ≤ k
    → e ≤ 1000
    → 2 ≤ t
    → 3000 * (k * t) ≤ e * b
    → e * b ≤ 4500 * (k * t)
    → Growth k e t b 1
growth_first k e t b some-site e-le two low high =
    let six : 6 ≤ b = omega (arith, mul-le-mul some-site two, mul-le-mul_right b e-le) in
    late b 0 two high (omega arith) (omega arith) (omega arith) (digits_le {m = 6} {n = b} six)
    (omega arith)

-- A later close, from base b to base n with 4500 × (n - b) ≥ 4500 × k × t ≥ e × b ≥ e × a. While
-- n < 2 × a the anchor stays; otherwise n is the new anchor, with one doubling more.
pub growth_next : {k e t b closes : ℕ} (t' n : ℕ)
    → e ≤ 1000
    → b + k * t ≤ n
    → 2 ≤ t'
    → e * n ≤ 4500 * (k * t')
    → 2 ≤ t
    → Growth k e t b closes
    → Growth k e t' n (closes + 1)
growth_next t' n e-le grows two' high two (early one none) = absurd (omega arith)
growth_next {k} {e} {t} {b} {closes} t' n e-le grows two' high two
    (late a g _ top some a≤b b<2a long paid) =
    by_anchor (dec_lt n (2 * a))
  where
    few : e * closes ≤ 5500 * g + e + 4500
    few = le_of_mul-le-mul_right {k = a} (omega arith) some

    by_anchor : Dec (n < 2 * a) → Growth k e t' n (closes + 1)
    by_anchor (yes below) =
        late a g two' high some (omega arith) below long (omega (arith, mul-le-mul_left e a≤b))
    by_anchor (no doubled) =
        let longer : suc (digits a) ≤ digits n =
        digits_twice {n = n} some (omega arith) in
        late n (g + 1) two' high (omega arith) (omega arith) (omega arith) (omega arith)
        (omega (arith, mul-le-mul_right n few, mul-le-mul_right n e-le))
