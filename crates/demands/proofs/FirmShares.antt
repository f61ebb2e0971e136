-- Request N10: a listed item has a firm share of the arrivals, of every run; what the list call
-- answers in a history is in ListReading.antt.
--
--   listed_firm        every item of the rules' list, after any arrivals
use mathlib.Core.Path.{◌≡◌, sym, ap, ◌∙◌}
use mathlib.Core.Bool.{true}
use mathlib.Core.List.{List}
use Prim.Native.Nat.{ℕ, ◌+◌, ◌-◌, ◌*◌}
use native.Mathlib.Omega.{arith}
use lib.Dec.{ltb}
use Rattle.laws.proofs.Tests.{both_true}
use Rattle.model.specs.declared.Settings.{Settings}
use Rattle.model.specs.declared.Arrival.{Arrival}
use Rattle.model.specs.Refusals.{no_refusal}
use Rattle.model.specs.Settings.{settings_refusal}
use Rattle.model.specs.Coordinator.{Coordinator}
use Rattle.model.specs.Reading.{is_listed, heavy_hitters}
use Rattle.model.specs.Runs.{Run, run_of}
use Rattle.model.specs.Claims.{counted, contains}
use Rattle.model.proofs.Runs.Theorem.{demands_over_runs}
use Rattle.model.proofs.Thresholds.SettingsLaws.{settled}
use Rattle.demands.specs.Reading.{FirmShare}

module _ (settings : Settings) (passes : settings_refusal settings ≡ no_refusal)
    (arrivals : List Arrival) where
  abbrev run : Run
  run = run_of settings arrivals

  abbrev c : Coordinator
  c = run.network.coordinator

  -- Settings that pass have e ≤ p, so 6p - 5e is a true difference, and goes to the other side.
  pub listed_firm : (item : ℕ)
      → contains item (heavy_hitters settings c) ≡ true
      → FirmShare settings item run.accepted
  listed_firm item holds =
      let both = sym ((demands_over_runs.list_law settings c).listed_exactly item) ∙ holds in
      let listed : is_listed settings c item ≡ true =
      (both_true (ltb item settings.universe) (is_listed settings c item) both).second_true in
      let whole : 6 * settings.phi - 5 * settings.epsilon + 5 * settings.epsilon
      ≡ 6 * settings.phi = omega (arith, (settled settings passes).phi_epsilon) in
      omega (
        arith,
        (demands_over_runs.estimates_near settings arrivals passes).listed_firm item listed,
        ap (λ (z : ℕ). z * counted run.accepted) whole,
      )
