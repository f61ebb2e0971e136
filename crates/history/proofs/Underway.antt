-- A delivery under way on records and memory, from any sound network, arisen or not: what the model
-- claims in mid-delivery (`SoundClaims`), said of what is held. PROOF.md section 9, "The
-- invariant".
--
--   SoundRest settings state     nothing waits, and what is held is a sound network
--   Underway settings origin arrival past n state
--                                n steps after the arrival at the origin, `past` being the messages
--                                before it
--   in_mid                       what the model claims of it
--   SoundParts, parts_underway   sites and coordinator are sound, numbers small
--   kept_underway, dropped_underway   what no message changes of a site
--   messages_underway            the messages so far are the first of those that it comes to
use mathlib.Core.Path.{◌≡◌, sym, ap, ◌∙◌}
use mathlib.Core.List.{List, [], ◌++◌}
use Prim.Native.Nat.{ℕ, ◌<◌}
use native.Mathlib.Omega.{arith}
use Rattle.model.specs.declared.Settings.{Settings}
use Rattle.model.specs.declared.Arrival.{Arrival}
use Rattle.model.specs.declared.Message.{Message}
use Rattle.model.specs.Refusals.{no_refusal}
use Rattle.model.specs.Settings.{settings_refusal}
use Rattle.model.specs.Site.{Site}
use Rattle.model.specs.Network.{Network, Delivered, site_at, delivery_fuel, after_arrival}
use Rattle.model.specs.Runs.{refusal_in}
use Rattle.model.specs.SoundNetwork.{SoundSite, DroppedWithin, SoundCoordinator, Sound}
use Rattle.model.specs.DeliveryClaims.{Delivery, delivery, delivery_steps, delivery_of}
use Rattle.mid_delivery.specs.SoundClaims.{Reached, InMidDelivery}
use Rattle.model.proofs.Soundness.NeverFewer.{Kept, arrivals_kept, dropped_kept, steps_keep}
use Rattle.mid_delivery.proofs.Soundness.SoundTheorem.{sound_claims}
use Rattle.model.proofs.Soundness.ConsistentCoordinator.{CoordinatorWithin}
use Rattle.history.specs.State.{State, network_of}
use Rattle.history.proofs.DeliveryLogs.{LogGrows, steps_grow}
use Rattle.history.proofs.Decoded.{Lengths}

-- ---- Where a delivery starts, and where it is

-- Nothing waits, and the network that is held is sound.
pub record SoundRest (settings : Settings) (state : State) : Type 0 where
  pub lengths : Lengths settings state.held
  pub sound : Sound settings (network_of settings state.held)
  pub nothing_waits : state.waiting ≡ []

-- After n steps of the delivery that an arrival sets off at a sound network.
pub record Underway
    (settings : Settings)
    (origin : Network)
    (arrival : Arrival)
    (past : List Message)
    (n : ℕ)
    (state : State) : Type 0 where
  pub origin_sound : Sound settings origin
  pub taken : refusal_in settings origin arrival ≡ no_refusal
  pub lengths : Lengths settings state.held
  -- the messages since the arrival
  pub log : List Message
  pub reached : Reached settings (delivery_of settings origin arrival) n
      (delivery (network_of settings state.held) state.waiting log)
  pub messages_are : state.messages ≡ past ++ log

-- Each site and the coordinator by itself, and the limit of its numbers.
pub record SoundParts (settings : Settings) (network : Network) : Type 0 where
  pub sites_sound : (j : ℕ) → j < settings.sites → SoundSite settings (site_at network j)
  pub coordinator_sound : SoundCoordinator settings network.coordinator
  pub within : CoordinatorWithin network.coordinator

-- ---- What it is worth

module _ {settings : Settings} (passes : settings_refusal settings ≡ no_refusal)
    {origin : Network} {arrival : Arrival} {past : List Message} {n : ℕ} {state : State}
    (mid : Underway settings origin arrival past n state)
  where
    abbrev here : Delivery
    here = delivery (network_of settings state.held) state.waiting mid.log

    abbrev final : Delivered
    final = after_arrival settings origin arrival

    -- The model's claims.
    pub in_mid : InMidDelivery settings origin arrival n here
    in_mid =
        sound_claims.in_mid_delivery settings origin arrival n here passes mid.origin_sound
        mid.taken mid.reached

    -- No number is above what it comes to, and that is within the limit.
    pub parts_underway : CoordinatorWithin final.network.coordinator
        → SoundParts settings (network_of settings state.held)
    parts_underway within = record {
      sites_sound = in_mid.sites_sound;
      coordinator_sound = in_mid.coordinator_sound;
      within = record {
        estimates_within = λ item.
            omega (arith, in_mid.estimates_below item, within.estimates_within item);
        values_within = λ value.
            omega (arith, in_mid.values_below value, within.values_within value);
        total_within = in_mid.total_within;
        sum_within = in_mid.sum_within;
      };
    }

    -- What no message changes of a site is what it comes to.
    pub kept_underway : {A : Type 0} {of : Site → A}
        → Kept of
        → (j : ℕ)
        → of (site_at (network_of settings state.held) j) ≡ of (site_at final.network j)
    kept_underway {of = of} kept j =
        sym (steps_keep kept settings (delivery_fuel settings) here j)
        ∙ ap (λ (d : Delivered). of (site_at d.network j)) in_mid.finishes

    -- So a site has forgotten no more than arrived, if that holds then.
    pub dropped_underway : (j : ℕ)
        → DroppedWithin (site_at final.network j)
        → DroppedWithin (site_at (network_of settings state.held) j)
    dropped_underway j few =
        omega (arith, few, kept_underway dropped_kept j, kept_underway arrivals_kept j)

    -- What it comes to adds to the log.
    pub grows : LogGrows here (delivery_steps (delivery_fuel settings) settings here)
    grows = steps_grow (delivery_fuel settings) settings here

    pub messages_underway : final.messages ≡ mid.log ++ grows.more
    messages_underway =
        ap (λ (d : Delivered). d.messages) (sym in_mid.finishes) ∙ grows.log_is
