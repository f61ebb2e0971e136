-- The claims of demand 1 on memory and on refusals, of every state that has the invariant. From the
-- laws of crate `history` (Accepted.antt). PROOF.md section 9, "Never 11".
--
--   memory_accepted           neither 4 nor 11, nor 1, 2, 3
--   refused_by_rules          the number that each call then answers
use mathlib.Core.Path.{◌≡◌, ap, ◌∙◌}
use mathlib.Core.List.{List}
use Prim.Native.Nat.{ℕ, ◌≤◌}
use lib.Dec.{leb, ltb}
use lib.ListN.{length}
use Rattle.model.specs.declared.Settings.{Settings}
use Rattle.model.specs.declared.Arrival.{Arrival}
use Rattle.model.specs.Refusals.{when, ◌or_else◌, no_refusal, unknown_item, list_too_short}
use Rattle.model.specs.Settings.{settings_refusal}
use Rattle.model.specs.Coordinator.{Coordinator, coordinator_refusal, announcement_refusal}
use Rattle.model.specs.CoordinatorMemory.{coordinator_words}
use Rattle.model.specs.Network.{Network}
use Rattle.model.specs.NetworkMemory.{sites_words}
use Rattle.model.specs.Reading.{heavy_hitters}
use Rattle.model.specs.Runs.{batch_of}
use Rattle.tracker.specs.Batch.{BatchHeld, BatchSays, log_room}
use Rattle.history.specs.State.{State, AtRest, network_of, fronts, lending}
use Rattle.history.specs.Steps.{batch_call}
use Rattle.history.proofs.Answers.{accepted_choice, or_accepted}
use Rattle.history.proofs.SiteParts.{front_long}
use Rattle.history.proofs.Accounts.{few_dropped}
use Rattle.history.proofs.SoundMemory as Parts
use Rattle.history.proofs.NetworkFronts.{network_front}
use Rattle.history.proofs.Invariant.{StateOk}
use Rattle.history.proofs.Accepted.{held_sound, front_enough, coordinator_front, network_accepted_front}
use Rattle.demands.specs.First.{MemoryAccepted, RefusedByRules}

module _ {settings : Settings} (passes : settings_refusal settings ≡ no_refusal)
    {n : ℕ} {state : State}
    (ok : StateOk settings n state) where
  -- The claim of demand 1 on memory.
  pub memory_accepted : MemoryAccepted settings state
  memory_accepted = record {
    of_site = λ which words known enough.
        Parts.site_accepted passes state.held ok.lengths (held_sound passes ok) which words
        known (few_dropped passes ok.standing which known) enough;
    of_coordinator = λ words.
        coordinator_front passes ok words (λ (refusal : ℕ) (c : Coordinator). refusal);
    of_network = network_accepted_front passes ok;
  }

  batch_front_by_rules : (site_count coordinator_count : ℕ)
      → sites_words settings ≤ site_count
      → coordinator_words settings ≤ coordinator_count
      → AtRest state
      → (arrivals : List Arrival) (log : List ℕ) (answer : BatchHeld)
      → BatchSays
      (batch_call settings (lending state.held (fronts site_count coordinator_count)) arrivals log)
      answer
      → answer.refusal
      ≡ (batch_of settings (log_room log) (network_of settings state.held) arrivals).refusal
  batch_front_by_rules site_count coordinator_count sites_enough enough at_rest arrivals log
      answer says =
      says.refusal
      ∙ accepted_choice _ _ _
      (network_accepted_front passes ok site_count coordinator_count sites_enough enough at_rest)
      ∙ ap (λ (network : Network). (batch_of settings (log_room log) network arrivals).refusal)
      (network_front passes state.held ok.lengths (held_sound passes ok).sites_sound
      site_count coordinator_count
      (front_long (sites_words settings) site_count state.held.site_memory sites_enough
      ok.lengths.sites_long)
      (front_enough passes ok coordinator_count enough))

  -- The claim of demand 1 on the numbers of refusals.
  pub refused_by_rules : RefusedByRules settings state
  refused_by_rules = record {
    arrival = λ which words arrival known enough.
        Parts.arrival_by_rules passes state.held ok.lengths (held_sound passes ok) which
        words known (few_dropped passes ok.standing which known) enough arrival;
    site_message = λ which words m known enough.
        Parts.site_message_by_rules passes state.held ok.lengths (held_sound passes ok) which
        words known (few_dropped passes ok.standing which known) enough m;
    coordinator_message = λ words m.
        coordinator_front passes ok words
        (λ (refusal : ℕ) (c : Coordinator). refusal or_else coordinator_refusal settings c m);
    next_announcement = λ words.
        coordinator_front passes ok words
        (λ (refusal : ℕ) (c : Coordinator). refusal or_else announcement_refusal c);
    list = λ words places enough.
        coordinator_front passes ok words
        (λ (refusal : ℕ) (c : Coordinator).
        refusal
        or_else when (ltb places (length (heavy_hitters settings c))) list_too_short
        or_else no_refusal)
        enough
        ∙ or_accepted _;
    margin = λ words item enough.
        coordinator_front passes ok words
        (λ (refusal : ℕ) (c : Coordinator).
        refusal or_else when (leb settings.universe item) unknown_item or_else no_refusal)
        enough
        ∙ or_accepted _;
    batch = batch_front_by_rules;
  }
