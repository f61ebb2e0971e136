-- A delivery that came to rest, from any sound network: it is the model's. It does whenever what it
-- comes to is within the coordinator's limit and no message waits for a site that has forgotten
-- more than arrived.
--
--   Ended        what the last call left, and the number of one that was refused
--   finished     no call was refused
--   with_room    no call is refused where the item's estimate has room for the threshold
use mathlib.Core.Path.{◌≡◌, refl, sym, ap, ◌∙◌}
use mathlib.Core.Bool.{true, false}
use mathlib.Core.List.{List, ◌++◌}
use Prim.Native.Nat.{ℕ, ◌+◌, ◌≤◌}
use Rattle.model.specs.declared.Settings.{Settings}
use Rattle.model.specs.declared.Arrival.{Arrival}
use Rattle.model.specs.declared.Message.{Message}
use Rattle.model.specs.Refusals.{no_refusal}
use Rattle.model.specs.Limits.{coordinator_limit}
use Rattle.model.specs.Settings.{settings_refusal}
use Rattle.model.specs.Site.{reports_item}
use Rattle.model.specs.Network.{Network, Delivered, site_at, after_arrival}
use Rattle.model.specs.SoundNetwork.{estimate_of}
use Rattle.mid_delivery.proofs.Soundness.SoundTheorem.{sound_claims}
use Rattle.model.proofs.Soundness.ConsistentCoordinator.{CoordinatorWithin}
use Rattle.history.specs.State.{State, AtRest, network_of}
use Rattle.history.proofs.Underway.{in_mid, parts_underway}
use Rattle.single_outcome.specs.Delivery.{meets_limit, meets_forgotten, stop_of, delivery_in}
use Rattle.single_outcome.proofs.LimitLaws.{final_within}
use Rattle.single_outcome.proofs.EndLaws.{Quiet, AtEnd, HeadWithin, not_blocked, by_end}

-- What a delivery comes to.
pub record Ended
    (settings : Settings)
    (network : Network)
    (arrival : Arrival)
    (past : List Message)
    (after : State)
    (refusal : ℕ) : Type 0 where
  pub network_is : network_of settings after.held ≡ (delivery_in settings network arrival).network
  pub messages_are : after.messages ≡ past ++ (delivery_in settings network arrival).messages
  pub stopped_is : refusal ≡ stop_of settings network arrival
  pub rests : refusal ≡ no_refusal → AtRest after

module _ {settings : Settings} (passes : settings_refusal settings ≡ no_refusal)
    {network : Network} {arrival : Arrival} {past : List Message} {first : State} {taken : ℕ}
    {after : State} {refusal : ℕ}
    (end : AtEnd settings network arrival past first taken after refusal)
    (below : meets_limit settings network arrival ≡ false)
    (few-then : meets_forgotten settings network arrival ≡ false) where
  -- Not refused and quiet: it has come where the model's delivery comes.
  pub finished : refusal ≡ no_refusal
      → Quiet after
      → Ended settings network arrival past after refusal
  finished not_refused quiet =
      let mid = end.mid in
      let there = (in_mid passes mid).ends quiet.nothing_waits quiet.silent in
      let all : delivery_in settings network arrival ≡ after_arrival settings network arrival =
      rw (below, few-then) refl in
      record {
        network_is = ap (λ (d : Delivered). d.network) (there ∙ sym all);
        messages_are =
            mid.messages_are ∙ ap (λ (d : Delivered). past ++ d.messages) (there ∙ sym all);
        stopped_is = rw (below, few-then) not_refused;
        rests = λ _. record {
          nothing_waits = quiet.nothing_waits;
          idle =
              ap (λ (d : Delivered). d.network.coordinator.phase) there
              ∙ (sound_claims.arrival_sound settings network arrival passes mid.origin_sound
              mid.taken).idle;
        };
      }

  -- What it comes to is within the limit, and so is every number on the way.
  pub with_room : CoordinatorWithin network.coordinator
      → (reports_item settings (site_at network arrival.site) arrival ≡ true
      → estimate_of network arrival.item + (site_at network arrival.site).threshold
      ≤ coordinator_limit)
      → HeadWithin settings after
      → Ended settings network arrival past after refusal
  with_room within room few =
      let mid = end.mid in
      by_end refusal end finished
      (λ refused blocked.
      absurd
      (not_blocked passes after mid
      (parts_underway passes mid
      (final_within settings network arrival passes mid.origin_sound within mid.taken room))
      few refusal refused blocked))
