-- The bounds on messages that the account gives between arrivals, where fewer than k signals came
-- and each site's pending is below the threshold (PROOF.md section 6, "Conclusion").
--
--   messages_firm           e × messages ≤ 39,000 × k + (33,000 + 5500 × ρ) × k × (digits - 2)
--   messages_few            e × messages ≤ (40,000 + 5500 × ρ) × k × (digits of arrivals, plus 1)
--   messages_per_arrival_lem  messages ≤ (5 + ρ) × arrivals
use mathlib.Core.Path.{ap}
use Prim.Native.Nat.{ℕ, ◌+◌, ◌-◌, ◌*◌, ◌≤◌}
use native.Mathlib.Nat.{mul-le-mul_left, mul-le-mul_right, le_of_mul-le-mul_right}
use native.Mathlib.Omega.{arith}
use Rattle.model.specs.Settings.{digits}
use Rattle.model.proofs.MessageCount.Digits.{digits_le}
use Rattle.model.proofs.MessageCount.Growth.{Growth, early, late}
use Rattle.model.proofs.MessageCount.Rounds.{Figures, Account}

module _ {k e ρ : ℕ} {x : Figures}
    (e-le : e ≤ 1000) (account : Account k e ρ x)
    (few_signals : x.signals ≤ k) (few_pending : x.pending ≤ k * x.threshold) where
  abbrev closes_so_far : ℕ
  closes_so_far = account.closes_quiet + account.closes_probing

  -- M2 with arrivals - base ≤ 2 × k × t: at most 2 × k item reports a round.
  reports_few : account.item_reports ≤ 2 * (k * (closes_so_far + 1))
  reports_few =
      le_of_mul-le-mul_right {k = x.threshold}
      (omega (arith, mul-le-mul_right x.threshold few_signals)) account.threshold_positive

  -- Item reports ≤ arrivals, and (4 + ρ) × k × closes + signals ≤ (4 + ρ) × total.
  pub messages_per_arrival_lem : x.messages ≤ (5 + ρ) * x.arrivals
  messages_per_arrival_lem =
      let probing : k * account.closes_probing ≤ x.arrivals = omega arith in
      let total : x.base + x.signals ≤ x.arrivals =
      omega (arith, mul-le-mul_left x.signals account.threshold_positive) in
      omega (arith, mul-le-mul_left ρ probing)

  -- M5 at the end: e × closes that probed ≤ 5500 × (g + 1), and g + 3 ≤ digits.
  probing_few : Growth k e x.threshold x.base account.closes_probing
      → e * account.closes_probing ≤ 5500 * (digits x.arrivals - 2)
  probing_few (early _ none) = omega (arith, ap (λ (z : ℕ). e * z) none)
  probing_few (late a g two top some a≤b b<2a long paid) =
      let few : e * account.closes_probing ≤ 5500 * g + e + 4500 =
      le_of_mul-le-mul_right {k = a} (omega arith) some in
      omega (arith, digits_le {m = a} {n = x.arrivals} (omega arith))

  -- messages ≤ 6 × k × quiet + (6 + ρ) × k × probing + 3 × k, times e: at most
  -- 36,000 × k + (6 + ρ) × 5500 × k × (digits - 2) + 3000 × k.
  pub messages_firm : e * x.messages
      ≤ 39000 * k + (33000 + 5500 * ρ) * (k * (digits x.arrivals - 2))
  messages_firm =
      let few : e * account.closes_probing ≤ 5500 * (digits x.arrivals - 2) =
      probing_few account.growth in
      omega (
        arith,
        ap (λ (z : ℕ). e * z) account.messages_are,
        mul-le-mul_left e reports_few,
        mul-le-mul_left e few_signals,
        mul-le-mul_left k e-le,
        mul-le-mul_left k account.few_quiet,
        mul-le-mul_left k few,
        mul-le-mul_left ρ (mul-le-mul_left k few),
      )

  -- With all digits and one more, in place of those but two.
  pub messages_few : e * x.messages ≤ (40000 + 5500 * ρ) * (k * (digits x.arrivals + 1))
  messages_few =
      let fewer : k * (digits x.arrivals - 2) ≤ k * digits x.arrivals =
      mul-le-mul_left k (omega arith) in
      omega (arith, messages_firm, fewer, mul-le-mul_left ρ fewer)
