-- A delivery whose first message is kind 1, from any sound network within the limit: the first call
-- is accepted, and where no second one can be, it is the only one.
--
--   report, reported      kind 1, and the network with it handed over
--   at_one                after one step it is there
--   end_one               so it is at the end, where no step follows the first
use mathlib.Core.Path.{◌≡◌, refl, sym, ap, ◌∙◌, subst}
use mathlib.Core.Bool.{false≢true}
use mathlib.Core.List.{List, ◌∷◌}
use Prim.Native.Nat.{ℕ, zero, suc, ◌≤◌}
use native.Mathlib.Omega.{arith}
use lib.ListN.{length, get_or}
use Rattle.model.specs.declared.Settings.{Settings}
use Rattle.model.specs.declared.Arrival.{Arrival}
use Rattle.model.specs.declared.Message.{Message}
use Rattle.model.specs.Refusals.{no_refusal}
use Rattle.model.specs.Settings.{settings_refusal}
use Rattle.model.specs.Messages.{no_message, item_report, to_coordinator}
use Rattle.model.specs.Site.{observed}
use Rattle.model.specs.Coordinator.{takes_item_report, is_announcing}
use Rattle.model.specs.Network.{Network, site_at, with_site, with_coordinator}
use Rattle.model.specs.DeliveryClaims.{Delivery, delivery, delivery_step, delivery_of}
use Rattle.model.proofs.Soundness.ConsistentCoordinator.{CoordinatorWithin}
use Rattle.history.specs.State.{State, network_of}
use Rattle.history.specs.Steps.{Delivers}
use Rattle.history.proofs.Underway.{SoundParts, Underway, in_mid}
use Rattle.history.proofs.DeliveredState.{delivered_on}
use Rattle.history.proofs.GoesOn.{further}
use Rattle.single_outcome.proofs.FirstSteps.{reached_none, reached_one, item_handed}
use Rattle.single_outcome.proofs.EndLaws.{AtEnd, not_blocked, by_end}

-- ---- Kind 1 handed over

abbrev pub report : Network → Arrival → Message
report network arrival =
    item_report arrival.site arrival.item (site_at network arrival.site).threshold

-- The network with the arrival observed at its site.
abbrev pub arrived : Settings → Network → Arrival → Network
arrived settings network arrival =
    with_site network arrival.site
    (observed settings (site_at network arrival.site) arrival).site

-- And then with kind 1 handed over.
abbrev pub reported : Settings → Network → Arrival → Network
reported settings network arrival =
    with_coordinator (arrived settings network arrival)
    (takes_item_report network.coordinator (report network arrival)).coordinator

-- A delivery as a state holds it.
abbrev pub delivery_at : (settings : Settings) {network : Network} {arrival : Arrival}
    {past : List Message} {n : ℕ} (now : State)
    → Underway settings network arrival past n now
    → Delivery
delivery_at settings now mid =
    delivery (network_of settings now.held) now.waiting mid.log

module _ {settings : Settings} (passes : settings_refusal settings ≡ no_refusal)
    {network : Network} {arrival : Arrival} {past : List Message} {first : State} {taken : ℕ}
    {after : State} {refusal : ℕ}
    (within : CoordinatorWithin network.coordinator)
    (end : AtEnd settings network arrival past first taken after refusal)
    (later : List Message)
    (out : (observed settings (site_at network arrival.site) arrival).messages
    ≡ report network arrival ∷ later) where
  abbrev Mid : ℕ → State → Type 0
  Mid n now = Underway settings network arrival past n now

  -- The delivery after one step: kind 1 handed over, these still waiting.
  abbrev one : Delivery
  one = delivery (reported settings network arrival) later (report network arrival ∷ later)

  pub one_step : delivery_step settings (delivery_of settings network arrival) ≡ one
  one_step =
      ap (λ (ms : List Message).
      delivery_step settings (delivery (arrived settings network arrival) ms ms)) out
      ∙ item_handed settings (arrived settings network arrival) arrival.site arrival.item
      (site_at network arrival.site).threshold later (report network arrival ∷ later)
      end.start.origin_sound.idle

  -- After one step it is there.
  pub at_one : (n : ℕ) (now : State) (mid : Mid n now) → n ≡ 1
      → delivery_at settings now mid ≡ one
  at_one n now mid is_one =
      reached_one (ap is_announcing mid.origin_sound.idle) n (delivery_at settings now mid)
      mid.reached is_one
      ∙ one_step

  -- The first call is accepted: the coordinator is as it was given.
  some_step : taken ≡ 0 → ⊥
  some_step none =
      let mid = end.mid in
      let began : delivery_at settings after mid
      ≡ delivery_of settings network arrival =
      reached_none taken (delivery_at settings after mid) mid.reached none in
      let waits : after.waiting ≡ report network arrival ∷ later =
      ap (λ (d : Delivery). d.waiting) began ∙ out in
      let parts : SoundParts settings (network_of settings after.held) = record {
        sites_sound = (in_mid passes mid).sites_sound;
        coordinator_sound = (in_mid passes mid).coordinator_sound;
        within = subst (λ (d : Delivery). CoordinatorWithin d.network.coordinator)
            (sym began) within;
      } in
      by_end refusal end
      (λ not_refused quiet.
      let lengths : 0 ≡ suc (length later) = ap length (sym quiet.nothing_waits ∙ waits) in
      omega arith)
      (not_blocked passes after mid parts
      (λ m behind head way _.
      absurd
      (false≢true
      (sym way
      ∙ ap (λ (ms : List Message). to_coordinator (get_or ms 0 no_message)) (sym head ∙ waits))))
      refusal)

  -- No step follows the first, so it is the only one.
  module _ (stuck : (now then : State) → Mid 1 now → Delivers settings now then → ⊥) where
    record AtMostOne (n : ℕ) (now : State) : Type 0 where
      mid : Mid n now
      few : n ≤ 1

    on : (n : ℕ) (now then : State)
        → AtMostOne n now → Delivers settings now then → AtMostOne (suc n) then
    on zero now then there step = record {
      mid = delivered_on passes now there.mid then step;
      few = omega arith;
    }
    on (suc zero) now then there step = absurd (stuck now then there.mid step)
    on (suc (suc n)) now then there step = absurd (omega (arith, there.few))

    only_one : taken ≡ 1
    only_one =
        let there = further AtMostOne on 0 first
        (record { mid = end.start; few = omega arith }) taken after end.deliveries in
        one_of taken some_step (omega (arith, there.in_all, there.holds.few))
      where
        one_of : (n : ℕ) → (n ≡ 0 → ⊥) → n ≤ 1 → n ≡ 1
        one_of zero some few = absurd (some refl)
        one_of (suc zero) some few = refl
        one_of (suc (suc n)) some few = absurd (omega arith)

    pub end_one : delivery_at settings after end.mid ≡ one
    end_one = at_one taken after end.mid only_one
