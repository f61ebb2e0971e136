-- The allowance is the definition's quotient: settings that pass their test keep every product
-- within 64 bits, since the sites are few and digits at most 64.
use mathlib.Core.Path.{ap}
use Prim.Native.Nat.{ℕ, ◌+◌, ◌*◌, ◌/◌, ◌≤◌}
use native.Mathlib.Nat.{mul-le-mul}
use native.Mathlib.Omega.{arith}
use Rattle.model.specs.Limits.{most_sites, allowance_factor}
use Rattle.model.proofs.Thresholds.SettingsLaws.{settled}
use Rattle.model.proofs.MessageCount.Digits.{digits_bound}
use Rattle.settings.proofs.allowance_of.Goals as goal
use Rattle.settings.proofs.allowance_of.Goals.{After-count_digits-rounds}

-- The digits of a 64-bit number are at most 64.
few_digits : (c : After-count_digits-rounds) → c.count_digits-rounds.result ≤ 64
few_digits c =
    omega (
      arith,
      c.count_digits-rounds.ensures,
      digits_bound 64 c.args.arrivals
          c.ranges.arrivals.fits,
    )

-- The number n has at most 64 digits.
few_rounds : (c : After-count_digits-rounds)
    → c.args.settings.sites * (c.count_digits-rounds.result + 1)
    ≤ most_sites * 65
few_rounds c =
    let few : c.count_digits-rounds.result + 1 ≤ 65 = omega (arith, few_digits c) in
    let facts = settled c.args.settings c.requires in
    omega (arith, mul-le-mul facts.sites.at_most few)

pub overflow_add-rounds : goal.overflow_add-rounds
overflow_add-rounds c = record { fits = omega (arith, few_digits c) }

pub overflow_mul-result : goal.overflow_mul-result
overflow_mul-result c = record { fits = omega (arith, few_rounds c.before.before) }

pub overflow_mul-result-2 : goal.overflow_mul-result-2
overflow_mul-result-2 c = record { fits = omega (arith, few_rounds c.before.before) }

pub nonzero_div-result : goal.nonzero_div-result
nonzero_div-result c =
    let s = c.args.settings in
    let facts = settled s (c.requires) in
    omega (arith, facts.epsilon.at_least)

pub returns : goal.returns
returns c =
    let s = c.args.settings in
    ap (λ (n : ℕ). allowance_factor s * (s.sites * (n + 1)) / s.epsilon)
    c.count_digits-rounds.ensures
