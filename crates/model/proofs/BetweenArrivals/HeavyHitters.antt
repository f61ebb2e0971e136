-- What the list promises, from the bounds on estimates alone (PROOF.md section 3, "Listed" and "Not
-- listed below p - e").
--
-- Letters: e epsilon, p phi, n all arrivals, f the item's.
--
--   heavy_of_estimates     an item with p thousandths of the arrivals is listed
--   light_of_estimates     an item below p - e is not
use mathlib.Core.Path.{◌≡◌, refl, ap}
use mathlib.Core.Bool.{Bool, true, false}
use Prim.Native.Nat.{ℕ, ◌+◌, ◌-◌, ◌*◌, ◌≤◌, ◌<◌}
use native.Mathlib.Nat.{mul-le-mul_left, mul-le-mul_right}
use native.Mathlib.Omega.{arith}
use borrow.Author.Tests.{le-leb}
use Rattle.model.specs.declared.Settings.{Settings}
use Rattle.model.specs.Reading.{is_listed, held_side, needed_side}
use Rattle.model.specs.Runs.{Run}
use Rattle.model.specs.Claims.{counted, count_of, Estimates}
use Rattle.model.proofs.Thresholds.SettingsLaws.{Settled}

module _ {settings : Settings} {run : Run} (fit : Settled settings)
    (near : Estimates settings run) (item : ℕ) where
  -- 2p × n ≤ 2000 × f ≤ 2000 × estimate + e × n, and the total is at most n.
  pub heavy_of_estimates : 1 ≤ counted run.accepted
      → settings.phi * counted run.accepted ≤ 1000 * count_of item run.accepted
      → is_listed settings run.network.coordinator item ≡ true
  heavy_of_estimates some heavy =
      rw (
        le-leb 1 run.network.coordinator.total (near.total_positive some),
        le-leb (needed_side settings run.network.coordinator)
            (held_side run.network.coordinator item) held,
      )
    where
      held : needed_side settings run.network.coordinator
          ≤ held_side run.network.coordinator item
      held =
          let split : (2 * settings.phi - settings.epsilon) + settings.epsilon
          ≡ 2 * settings.phi = omega (arith, fit.phi_epsilon) in
          omega (
            arith,
            heavy,
            near.estimate_near item,
            ap (λ (z : ℕ). z * counted run.accepted) split,
            mul-le-mul_left (2 * settings.phi - settings.epsilon) near.total_le,
          )

  -- Were it listed, it would have 6000 × f ≥ (6p - 5e) × n ≥ 6 × (p - e) × n.
  pub light_of_estimates : 1000 * count_of item run.accepted
      < (settings.phi - settings.epsilon) * counted run.accepted
      → is_listed settings run.network.coordinator item ≡ false
  light_of_estimates light = by_list (is_listed settings run.network.coordinator item) refl
    where
      less : 6 * (settings.phi - settings.epsilon) ≤ 6 * settings.phi - 5 * settings.epsilon
      less = omega (arith, fit.phi_epsilon)

      by_list : (listed : Bool) → is_listed settings run.network.coordinator item ≡ listed
          → is_listed settings run.network.coordinator item ≡ false
      by_list true listed =
          absurd (omega (
            arith,
            light,
            near.listed_firm item listed,
            mul-le-mul_right (counted run.accepted) less,
          ))
      by_list false unlisted = unlisted
