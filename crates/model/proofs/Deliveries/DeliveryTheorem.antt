-- Full delivery keeps what specs/DeliveryClaims.antt claims: few messages, and nothing left over.
-- Both from the closed form of a delivery, case by case. PROOF.md section 4.
use mathlib.Core.Path.{◌≡◌, refl, sym, ap, ◌∙◌}
use mathlib.Core.List.{[]}
use Prim.Native.Nat.{ℕ, ◌+◌, ◌≤◌}
use native.Mathlib.Omega.{arith}
use lib.ListN.{length}
use Rattle.model.specs.declared.Settings.{Settings}
use Rattle.model.specs.declared.Arrival.{Arrival}
use Rattle.model.specs.declared.Phase.TheVariants.{Idle}
use Rattle.model.specs.Limits.{closing_messages, most_messages}
use Rattle.model.specs.Site.{reports_item, reports_count}
use Rattle.model.specs.Network.{Network, site_at, delivery_fuel, after_arrival}
use Rattle.model.specs.DeliveryClaims.{delivery, delivery_steps, outcome, delivery_of, delivered_with, Resting, DeliveryClaims}
use Rattle.model.proofs.Deliveries.DeliverySteps.{delivered_is_steps}
use Rattle.model.proofs.Deliveries.ArrivalParts.{first_messages, ArrivalCase, no_count_report, count_reported, closes_one, closes_more, arrival_case, network_then, messages_then, close_count, length_first_messages, length_messages_then}
use Rattle.model.proofs.BetweenArrivals.ReportLaws.{when_le}
use Rattle.model.proofs.Deliveries.AfterArrival.{delivers_after, after_arrival_lem}

-- ---- Few messages

-- An arrival itself sends kind 1 at most once, and kind 2 at most once.
pub first_at_most_two : (settings : Settings) (network : Network) (arrival : Arrival)
    → length (first_messages settings network arrival) ≤ 2
first_at_most_two settings network arrival =
    omega (
      arith,
      length_first_messages settings network arrival,
      when_le (reports_item settings (site_at network arrival.site) arrival),
      when_le (reports_count (site_at network arrival.site)),
    )

-- A close has at most 23 * k messages.
close_at_most : (settings : Settings) (network : Network) (arrival : Arrival)
    (which : ArrivalCase settings network arrival)
    → close_count which ≤ closing_messages settings
close_at_most settings network arrival (no_count_report none) = omega arith
close_at_most settings network arrival (count_reported due few) = omega arith
close_at_most settings network arrival (closes_one due all one) = omega arith
close_at_most settings network arrival (closes_more due all more) = omega arith

few_messages : (settings : Settings) (network : Network) (arrival : Arrival)
    → network.coordinator.phase ≡ Idle
    → length (after_arrival settings network arrival).messages ≤ most_messages settings
few_messages settings network arrival idle =
    let which : ArrivalCase settings network arrival = arrival_case settings network arrival in
    rw (after_arrival_lem settings network arrival idle which)
    (omega (
      arith,
      length_messages_then settings network arrival which,
      first_at_most_two settings network arrival,
      close_at_most settings network arrival which,
    ))

-- ---- A complete delivery

idle_then : (settings : Settings) (network : Network) (arrival : Arrival)
    (which : ArrivalCase settings network arrival)
    → (network_then which).coordinator.phase ≡ Idle
idle_then settings network arrival (no_count_report none) = refl
idle_then settings network arrival (count_reported due few) = refl
idle_then settings network arrival (closes_one due all one) = refl
idle_then settings network arrival (closes_more due all more) = refl

module _ (settings : Settings) (network : Network) (arrival : Arrival)
    (idle : network.coordinator.phase ≡ Idle) where
  abbrev which : ArrivalCase settings network arrival
  which = arrival_case settings network arrival

  -- However many steps more, it ends at the same delivery, with nothing waiting.
  ends_there : (more : ℕ)
      → delivery_steps (delivery_fuel settings + more) settings
      (delivery_of settings network arrival)
      ≡ delivery (network_then which) [] (messages_then which)
  ends_there more =
      (delivers_after settings network arrival idle which).ends (delivery_fuel settings + more) []
      (omega arith)

  more_fuel : (more : ℕ)
      → delivered_with (delivery_fuel settings + more) settings network arrival
      ≡ after_arrival settings network arrival
  more_fuel more =
      delivered_is_steps (delivery_fuel settings + more) settings _ _ _
      ∙ (ap outcome (ends_there more) ∙ sym (after_arrival_lem settings network arrival idle which))

  comes_to_rest : Resting
      (delivery_steps (delivery_fuel settings) settings (delivery_of settings network arrival))
  comes_to_rest =
      rw ((delivers_after settings network arrival idle which).ends (delivery_fuel settings) []
      (omega arith))
      (record { nothing_waits = refl; idle = idle_then settings network arrival which })

-- The claims on full delivery, all proved.
pub delivery_claims : DeliveryClaims
delivery_claims = record {
  few_messages = few_messages;
  is_steps = delivered_is_steps;
  comes_to_rest = comes_to_rest;
  more_fuel = λ settings network arrival more idle. more_fuel settings network arrival idle more;
}
