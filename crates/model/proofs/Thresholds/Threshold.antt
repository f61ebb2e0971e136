-- The threshold that a base gives (PROOF.md T1 to T5), with k sites, epsilon e, base b and t its
-- threshold: t is e × b / (3000 × k) rounded down, at least 1.
--
--   threshold_positive           t is at least 1
--   threshold_low      (T1)      t ≥ 2: 3000 × k × t ≤ e × b
--   threshold_high     (T2)      t ≥ 2: e × b ≤ 4500 × k × t
--   base_of_threshold_one (T3)   t = 1: e × b < 6000 × k
--   threshold_mono     (T4)      a larger base has no smaller threshold
--   threshold_limit    (T5)      a third of a site's limit at most, if b ≤ k × limit
use mathlib.Core.Path.{◌≡◌}
use Prim.Native.Nat.{ℕ, ◌*◌, ◌/◌, ◌≤◌, ◌<◌}
use native.Mathlib.Nat.{mul-le-mul_left, mul-le-mul_right, mul-le-mul, lt-div-mul-add, div-mul-le_self, le_of_mul-le-mul_left, mul-zero, zero-div}
use native.Mathlib.Omega.{arith}
use native.Mathlib.Decide.{dec_lt}
use Rattle.laws.proofs.Arithmetic.{two_thirds_of_div, div_mono}
use Rattle.model.specs.declared.Settings.{Settings}
use Rattle.model.specs.Settings.{threshold_of}

module _ (settings : Settings) where
  -- A threshold is at least 1, also at base 0.
  pub threshold_positive : (base : ℕ) → 1 ≤ threshold_of settings base
  threshold_positive base = omega arith

  -- A fresh coordinator has the threshold that its base gives.
  pub threshold_of_zero : threshold_of settings 0 ≡ 1
  threshold_of_zero = rw (mul-zero, zero-div)

  module _ (some-site : 1 ≤ settings.sites) where
    abbrev unrounded : ℕ → ℕ
    unrounded base = settings.epsilon * base / (3000 * settings.sites)

    -- T1: rounded down, it is no larger than the unrounded quotient.
    pub threshold_low : (base : ℕ)
        → 2 ≤ threshold_of settings base
        → 3000 * (settings.sites * threshold_of settings base) ≤ settings.epsilon * base
    threshold_low base two =
        let quotient : unrounded base ≡ threshold_of settings base = omega arith in
        omega (
          arith,
          rw quotient at (div-mul-le_self (settings.epsilon * base) (3000 * settings.sites)),
        )

    -- T2: from 2 on, it is at least two thirds of the unrounded quotient.
    pub threshold_high : (base : ℕ)
        → 2 ≤ threshold_of settings base
        → settings.epsilon * base ≤ 4500 * (settings.sites * threshold_of settings base)
    threshold_high base two =
        let quotient : unrounded base ≡ threshold_of settings base = omega arith in
        let near : 2 * (settings.epsilon * base)
        ≤ 3 * (unrounded base * (3000 * settings.sites)) =
        two_thirds_of_div (settings.epsilon * base) (3000 * settings.sites)
        (omega arith) (omega arith) in
        omega (arith, rw quotient at near)

    -- T3: a base that gives threshold 1 is small.
    pub base_of_threshold_one : (base : ℕ)
        → threshold_of settings base ≡ 1
        → settings.epsilon * base < 6000 * settings.sites
    base_of_threshold_one base one =
        let quotient : unrounded base ≤ 1 = omega arith in
        omega (
          arith,
          lt-div-mul-add {a = settings.epsilon * base} {b = 3000 * settings.sites} (omega arith),
          mul-le-mul_right settings.sites quotient,
        )

    -- T4: thresholds never fall while the base grows.
    pub threshold_mono : {base base' : ℕ}
        → base ≤ base'
        → threshold_of settings base ≤ threshold_of settings base'
    threshold_mono {base} {base'} less =
        omega (
          arith,
          div_mono (settings.epsilon * base) (settings.epsilon * base') (3000 * settings.sites)
              (omega arith) (mul-le-mul_left settings.epsilon less),
        )

    -- 3000 × k × t ≤ e × b ≤ 1000 × k × limit.
    pub threshold_limit : (limit base : ℕ)
        → settings.epsilon ≤ 1000
        → 3 ≤ limit
        → base ≤ settings.sites * limit
        → 3 * threshold_of settings base ≤ limit
    threshold_limit limit base epsilon-le three few =
        by_threshold (dec_lt (threshold_of settings base) 2)
      where
        by_threshold : Dec (threshold_of settings base < 2) → 3 * threshold_of settings base ≤ limit
        by_threshold (yes one) = omega arith
        by_threshold (no two) =
            le_of_mul-le-mul_left {k = 1000 * settings.sites}
            (omega (arith, threshold_low base (omega arith), mul-le-mul epsilon-le few))
            (omega arith)
