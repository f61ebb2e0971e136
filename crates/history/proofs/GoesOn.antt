-- Why a delivery goes on until it has come to rest: the head of the queue is accepted, and so is
-- the wish for a kind 7 while the coordinator announces; from any sound network as long as numbers
-- stay small, and so in a history. PROOF.md section 9, "Never 5, 6, 7, 9 or 10".
--
--   Further, further          what every step of delivery keeps, after so many steps
--   coordinator_accepts, site_accepts, announcement_accepted   sound parts accept the next step
--   deliveries_on, deliveries_ok   steps from any sound network, and in a history
--   rests_at_end              where nothing is to come, the coordinator is idle
use mathlib.Core.Path.{◌≡◌, sym, ap, ◌∙◌, subst}
use mathlib.Core.Bool.{true, false}
use mathlib.Core.List.{List, []}
use Prim.Native.Nat.{ℕ, suc, ◌+◌, ◌≤◌, ◌<◌}
use native.Mathlib.Omega.{arith}
use Rattle.model.specs.declared.Settings.{Settings}
use Rattle.model.specs.declared.Arrival.{Arrival}
use Rattle.model.specs.declared.Message.{Message}
use Rattle.model.specs.declared.Phase.TheVariants.{Idle}
use Rattle.model.specs.Refusals.{◌or_else◌, no_refusal}
use Rattle.model.specs.Settings.{settings_refusal}
use Rattle.model.specs.Messages.{to_coordinator}
use Rattle.model.specs.Site.{site_message_refusal}
use Rattle.model.specs.SiteMemory.{site_words}
use Rattle.model.specs.Coordinator.{Coordinator, is_announcing, coordinator_refusal, announcement_refusal}
use Rattle.model.specs.CoordinatorMemory.{coordinator_words}
use Rattle.model.specs.Network.{Network, site_at}
use Rattle.model.specs.SoundNetwork.{DroppedWithin}
use Rattle.model.specs.DeliveryClaims.{message_refusal}
use Rattle.model.proofs.Thresholds.SettingsLaws.{site_known}
use Rattle.site.specs.Calls as SiteCalls
use Rattle.coordinator.specs.Calls as CoordinatorCalls
use Rattle.history.specs.State.{State, network_of, record_at, site_part, coordinator_part}
use Rattle.history.specs.Steps.{Delivers}
use Rattle.history.specs.Histories.{Deliveries, no_step, delivered, refused_between}
use Rattle.history.proofs.RunSound.{sound_run}
use Rattle.history.proofs.Decoded.{Lengths}
use Rattle.history.proofs.Underway.{SoundParts, Underway}
use Rattle.history.proofs.Invariant.{StateOk, rest_of_standing}
use Rattle.history.proofs.SoundMemory.{coordinator_front, site_message_by_rules}
use Rattle.history.proofs.Refused.{refused_same}
use Rattle.history.proofs.DeliveredState.{delivered_on, delivered_ok}

-- ---- So many steps

-- A fact of a state, m steps further on than n.
pub record Further (P : ℕ → State → Type 0) (n m : ℕ) (after : State) : Type 0 where
  pub steps : ℕ
  pub in_all : steps ≡ n + m
  pub holds : P steps after

-- Kept by each step, it holds after steps of delivery, with refused calls between them.
pub further : {settings : Settings} (P : ℕ → State → Type 0)
    → ((n : ℕ) (before after : State)
    → P n before → Delivers settings before after → P (suc n) after)
    → (n : ℕ) (state : State)
    → P n state
    → (m : ℕ) (after : State)
    → Deliveries settings state m after
    → Further P n m after
further P on n state here m after no_step =
    record { steps = n; in_all = omega arith; holds = here }
further P on n state here m after (delivered m' before after' earlier step) =
    let there = further P on n state here m' before earlier in
    record {
      steps = suc there.steps;
      in_all = omega (arith, there.in_all);
      holds = on there.steps before after there.holds step;
    }
further P on n state here m after (refused_between m' before after' earlier step) =
    let there = further P on n state here m before earlier in
    record {
      steps = there.steps;
      in_all = there.in_all;
      holds = subst (P there.steps) (sym (refused_same before after step)) there.holds;
    }

-- ---- Sound parts accept the next step

module _ {settings : Settings} (passes : settings_refusal settings ≡ no_refusal) (state : State)
    (lengths : Lengths settings state.held)
    (parts : SoundParts settings (network_of settings state.held)) where
  abbrev network : Network
  network = network_of settings state.held

  -- What the rules say of the head of the queue, the coordinator or the site says.
  pub coordinator_accepts : (m : Message) (words : ℕ)
      → message_refusal settings network m ≡ no_refusal
      → to_coordinator m ≡ true
      → coordinator_words settings ≤ words
      → CoordinatorCalls.receive_refusal settings state.held.coordinator m
      (coordinator_part state.held 0 words)
      ≡ no_refusal
  coordinator_accepts m words none way enough =
      let by : message_refusal settings network m
      ≡ coordinator_refusal settings network.coordinator m = rw way in
      coordinator_front passes state.held lengths parts words
      (λ (refusal : ℕ) (c : Coordinator). refusal or_else coordinator_refusal settings c m) enough
      ∙ sym by
      ∙ none

  pub site_accepts : (m : Message) (words : ℕ)
      → (m.site < settings.sites → DroppedWithin (site_at network m.site))
      → message_refusal settings network m ≡ no_refusal
      → to_coordinator m ≡ false
      → site_words settings ≤ words
      → SiteCalls.receive_refusal settings (record_at state.held m.site) m.site m
      (site_part settings state.held m.site words)
      ≡ no_refusal
  site_accepts m words few_dropped head way enough =
      let by : message_refusal settings network m
      ≡ site_message_refusal settings (site_at network m.site) m.site m = rw way in
      let none : site_message_refusal settings (site_at network m.site) m.site m ≡ no_refusal =
      sym by ∙ head in
      let known = site_known settings m.site _ none in
      site_message_by_rules passes state.held lengths parts m.site words known
      (few_dropped known) enough m
      ∙ none

  pub announcement_accepted : (words : ℕ)
      → is_announcing state.held.coordinator.phase ≡ true
      → coordinator_words settings ≤ words
      → CoordinatorCalls.announce_refusal settings state.held.coordinator
      (coordinator_part state.held 0 words)
      ≡ no_refusal
  announcement_accepted words announces enough =
      coordinator_front passes state.held lengths parts words
      (λ (refusal : ℕ) (c : Coordinator). refusal or_else announcement_refusal c) enough
      ∙ rw announces

-- ---- From any sound network

module _ {settings : Settings} (passes : settings_refusal settings ≡ no_refusal)
    {origin : Network} {arrival : Arrival} {past : List Message}
  where
    -- Steps of delivery, with refused calls between them.
    pub deliveries_on : {n : ℕ} {state : State}
        → Underway settings origin arrival past n state
        → (m : ℕ) (after : State)
        → Deliveries settings state m after
        → Further (Underway settings origin arrival past) n m after
    deliveries_on {n} {state} mid =
        further (Underway settings origin arrival past)
        (λ steps before after here step. delivered_on passes before here after step) n state mid

-- ---- In a history

module _ {settings : Settings} (passes : settings_refusal settings ≡ no_refusal)
    {n : ℕ} {state : State}
    (ok : StateOk settings n state) where
  -- The invariant after steps of delivery, with refused calls between them.
  pub deliveries_ok : (m : ℕ) (after : State)
      → Deliveries settings state m after
      → Further (StateOk settings) n m after
  deliveries_ok =
      further (StateOk settings)
      (λ steps before after here step. delivered_ok passes before here after step) n state ok

  pub rests_at_end : state.waiting ≡ []
      → is_announcing state.held.coordinator.phase ≡ false
      → state.held.coordinator.phase ≡ Idle
  rests_at_end none silent =
      let rest = rest_of_standing passes ok.standing none silent in
      ap (λ (there : Network). there.coordinator.phase) rest.network_is
      ∙ (sound_run settings passes state.accepted).sound.idle
