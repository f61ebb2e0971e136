-- The claims of demand 1 on deliveries: every delivery goes on until it has come to rest, and its
-- steps are few. From the laws of crate `history` (GoesOn.antt). PROOF.md section 9, "Never
-- 5, 6, 7, 9 or 10".
--
--   underway_goes_on          the claim of a delivery from any sound network
--   delivery_goes_on          the claim of a history
use mathlib.Core.Path.{◌≡◌, ap, ◌∙◌}
use mathlib.Core.List.{List}
use Prim.Native.Nat.{ℕ, ◌<◌}
use native.Mathlib.Omega.{arith}
use Rattle.model.specs.declared.Settings.{Settings}
use Rattle.model.specs.declared.Arrival.{Arrival}
use Rattle.model.specs.declared.Message.{Message}
use Rattle.model.specs.Refusals.{no_refusal}
use Rattle.model.specs.Settings.{settings_refusal}
use Rattle.model.specs.Network.{Network, Delivered, site_at, after_arrival}
use Rattle.model.specs.SoundNetwork.{DroppedWithin}
use Rattle.mid_delivery.proofs.Soundness.SoundTheorem.{sound_claims}
use Rattle.model.proofs.Soundness.ConsistentCoordinator.{CoordinatorWithin}
use Rattle.history.specs.State.{State}
use Rattle.history.proofs.Underway.{Underway, in_mid, parts_underway, dropped_underway}
use Rattle.history.proofs.Invariant.{StateOk, head_of_standing, few_of_standing, firm_of_standing}
use Rattle.history.proofs.Accounts.{few_dropped}
use Rattle.history.proofs.Accepted.{held_sound}
use Rattle.history.proofs.GoesOn.{coordinator_accepts, site_accepts, announcement_accepted, deliveries_on, deliveries_ok, rests_at_end}
use Rattle.demands.specs.First.{DeliveryGoesOn}

-- ---- From any sound network

module _ {settings : Settings} (passes : settings_refusal settings ≡ no_refusal)
    {origin : Network} {arrival : Arrival} {past : List Message}
  where
    -- What it comes to is within the limit, so no step is refused.
    pub underway_goes_on : {n : ℕ} {state : State}
        → Underway settings origin arrival past n state
        → CoordinatorWithin (after_arrival settings origin arrival).network.coordinator
        → ((j : ℕ) → j < settings.sites
        → DroppedWithin (site_at (after_arrival settings origin arrival).network j))
        → DeliveryGoesOn settings state
    underway_goes_on {n} {state} mid within few-then =
        let here = in_mid passes mid in
        let parts = parts_underway passes mid within in
        record {
          coordinator_accepts = λ m later words waits.
              coordinator_accepts passes state mid.lengths parts m words
              (here.head_accepted m later waits);
          site_accepts = λ m later words waits.
              site_accepts passes state mid.lengths parts m words
              (λ known. dropped_underway passes mid m.site (few-then m.site known))
              (here.head_accepted m later waits);
          announcement_accepted = announcement_accepted passes state mid.lengths parts;
          rests_at_end = λ none silent.
              ap (λ (there : Delivered). there.network.coordinator.phase)
              (here.ends none silent)
              ∙ (sound_claims.arrival_sound settings origin arrival passes mid.origin_sound
              mid.taken).idle;
          few_steps = λ m after steps.
              let there = deliveries_on passes mid m after steps in
              omega (arith, there.in_all, (in_mid passes there.holds).few_steps);
          firm_steps = λ m after steps.
              let there = deliveries_on passes mid m after steps in
              omega (arith, there.in_all, (in_mid passes there.holds).firm_steps);
        }

-- ---- In a history

module _ {settings : Settings} (passes : settings_refusal settings ≡ no_refusal)
    {n : ℕ} {state : State}
    (ok : StateOk settings n state) where
  -- The claim of demand 1 on deliveries.
  pub delivery_goes_on : DeliveryGoesOn settings state
  delivery_goes_on =
      let parts = held_sound passes ok in
      let head = head_of_standing passes ok.standing in
      record {
        coordinator_accepts = λ m later words waits.
            coordinator_accepts passes state ok.lengths parts m words (head m later waits);
        site_accepts = λ m later words waits.
            site_accepts passes state ok.lengths parts m words
            (few_dropped passes ok.standing m.site) (head m later waits);
        announcement_accepted = announcement_accepted passes state ok.lengths parts;
        rests_at_end = rests_at_end passes ok;
        few_steps = λ m after steps.
            let there = deliveries_ok passes ok m after steps in
            omega (arith, there.in_all, few_of_standing passes there.holds.standing);
        firm_steps = λ m after steps.
            let there = deliveries_ok passes ok m after steps in
            omega (arith, there.in_all, firm_of_standing passes there.holds.standing);
      }
