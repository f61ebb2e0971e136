-- Memory that arose is never refused, and so a call is refused by what the rules say of its
-- arrivals or message alone. PROOF.md section 9, "Never 11".
--
--   held_sound, resting_of, sound_rest_of    what the invariant is worth: sound parts; at rest, the
--                             model's run, which is sound
--   few_counted               no site's count is above the limit
--   coordinator_accepted, network_accepted   neither 4 nor 11, nor 1, 2, 3: all memory lent
--   coordinator_front, network_accepted_front   the same of fronts of it
--   batch_by_rules            the number that a batch call then answers
use mathlib.Core.Path.{◌≡◌, refl, sym, ap, ◌∙◌, subst}
use mathlib.Core.List.{List}
use Prim.Native.Nat.{ℕ, ◌≤◌, ◌<◌}
use native.Mathlib.Omega.{arith}
use lib.ListN.{length, length-append}
use borrow.Author.Tests.{le-ltb}
use Rattle.model.specs.declared.Settings.{Settings}
use Rattle.model.specs.declared.Arrival.{Arrival}
use Rattle.model.specs.Refusals.{no_refusal}
use Rattle.model.specs.Limits.{message_limit}
use Rattle.model.specs.Settings.{settings_refusal}
use Rattle.model.specs.Coordinator.{Coordinator, is_announcing}
use Rattle.model.specs.CoordinatorMemory.{coordinator_words, coordinator_in, coordinator_memory_refusal}
use Rattle.model.specs.Network.{Network, site_at}
use Rattle.model.specs.NetworkMemory.{sites_words}
use Rattle.model.specs.Runs.{batch_of}
use Rattle.model.specs.SoundNetwork.{DroppedWithin, Sound}
use Rattle.model.proofs.MessageCount.Counts.{FewCounted}
use Rattle.model.proofs.Soundness.ConsistentCoordinator.{CoordinatorWithin}
use Rattle.model.proofs.Soundness.ConsistentNetwork.{network_consistent_of}
use Rattle.tracker.specs.Batch.{BatchHeld, BatchSays, log_room}
use Rattle.history.specs.State.{Held, held_by, State, AtRest, network_of, held_refusal, part_of, coordinator_part, fronts, lending}
use Rattle.history.specs.Steps.{batch_call}
use Rattle.history.proofs.SiteParts.{front_long}
use Rattle.history.proofs.RunSound.{sound_run, messages_within}
use Rattle.history.proofs.LoggedCounts.{few_of_log}
use Rattle.history.proofs.Underway.{SoundRest}
use Rattle.history.proofs.Accounts.{few_dropped}
use Rattle.history.proofs.SoundMemory as Parts
use Rattle.history.proofs.NetworkFronts.{network_front}
use Rattle.history.proofs.Invariant.{StateOk, Resting, SoundHeld, sound_of_standing, rest_of_standing, run_of_standing}

module _ {settings : Settings} (passes : settings_refusal settings ≡ no_refusal)
    {n : ℕ} {state : State}
    (ok : StateOk settings n state) where
  -- Sites and coordinator are sound, at rest and in mid-delivery.
  pub held_sound : SoundHeld settings state
  held_sound = sound_of_standing passes ok.standing

  -- At rest the state is the model's run.
  pub resting_of : AtRest state → Resting settings state
  resting_of rest =
      rest_of_standing passes ok.standing rest.nothing_waits (ap is_announcing rest.idle)

  -- And so its network is sound.
  pub sound_rest_of : AtRest state → SoundRest settings state
  sound_rest_of at_rest = record {
    lengths = ok.lengths;
    sound = subst (Sound settings) (sym (resting_of at_rest).network_is)
        (sound_run settings passes state.accepted).sound;
    nothing_waits = at_rest.nothing_waits;
  }

  -- ---- Memory

  -- The coordinator's own record and memory.
  pub coordinator_accepted :
      coordinator_memory_refusal settings state.held.coordinator state.held.coordinator_memory
      ≡ no_refusal
  coordinator_accepted = Parts.coordinator_accepted passes state.held ok.lengths held_sound

  -- What was logged is among the messages, and these are the first of a run's.
  pub few_counted : FewCounted settings.sites state.held.sites.messages
  few_counted =
      let begins = run_of_standing passes ok.standing in
      let few : length state.log ≤ message_limit =
      omega (
        arith,
        ok.log_length,
        ok.logged_within,
        ap length begins.messages_are,
        length-append state.messages begins.later,
        messages_within settings passes state.accepted,
      ) in
      subst (FewCounted settings.sites) (sym ok.counts_are)
      (few_of_log state.log settings.sites few)

  -- The records that are held, with other memories.
  abbrev memories : List ℕ → List ℕ → Held
  memories = held_by state.held.sites state.held.coordinator

  -- Memories that hold the network that is held, at rest.
  network_accepted_in : (site_memory coordinator_memory : List ℕ)
      → sites_words settings ≤ length site_memory
      → coordinator_words settings ≤ length coordinator_memory
      → network_of settings (memories site_memory coordinator_memory)
      ≡ network_of settings state.held
      → AtRest state
      → held_refusal settings (memories site_memory coordinator_memory) ≡ no_refusal
  network_accepted_in site_memory coordinator_memory sites_long coordinator_long same at_rest =
      let sound = subst (Sound settings) (sym same) (sound_rest_of at_rest).sound in
      let within = subst (λ (network : Network). CoordinatorWithin network.coordinator)
      (sym same) held_sound.within in
      let few : (j : ℕ) → j < settings.sites
      → DroppedWithin (site_at (network_of settings (memories site_memory coordinator_memory)) j) =
      subst
      (λ (network : Network). (j : ℕ) → j < settings.sites → DroppedWithin (site_at network j))
      (sym same) (few_dropped passes ok.standing) in
      rw (
        passes,
        le-ltb (length site_memory) (sites_words settings) sites_long,
        le-ltb (length coordinator_memory) (coordinator_words settings) coordinator_long,
        network_consistent_of settings state.held.sites state.held.coordinator
            site_memory coordinator_memory sound few within few_counted,
      )

  -- All of both memories.
  pub network_accepted : AtRest state
      → held_refusal settings state.held ≡ no_refusal
  network_accepted =
      network_accepted_in state.held.site_memory state.held.coordinator_memory
      ok.lengths.sites_long ok.lengths.coordinator_long refl

  -- ---- Fronts of the memories

  -- As many numbers as the coordinator's own, or more.
  pub front_enough : (words : ℕ)
      → coordinator_words settings ≤ words
      → coordinator_words settings ≤ length (coordinator_part state.held 0 words)
  front_enough words enough =
      front_long (coordinator_words settings) words state.held.coordinator_memory enough
      ok.lengths.coordinator_long

  -- What a call on the coordinator comes to there, by the whole memory.
  pub coordinator_front : {A : Type 0} (words : ℕ) (of : ℕ → Coordinator → A)
      → coordinator_words settings ≤ words
      → of
      (coordinator_memory_refusal settings state.held.coordinator
      (coordinator_part state.held 0 words))
      (coordinator_in settings state.held.coordinator (coordinator_part state.held 0 words))
      ≡ of no_refusal (network_of settings state.held).coordinator
  coordinator_front = Parts.coordinator_front passes state.held ok.lengths held_sound

  pub network_accepted_front : (site_count coordinator_count : ℕ)
      → sites_words settings ≤ site_count
      → coordinator_words settings ≤ coordinator_count
      → AtRest state
      → held_refusal settings (lending state.held (fronts site_count coordinator_count))
      ≡ no_refusal
  network_accepted_front site_count coordinator_count sites_enough enough =
      let sites_long = front_long (sites_words settings) site_count state.held.site_memory
      sites_enough ok.lengths.sites_long in
      let coordinator_long = front_enough coordinator_count enough in
      network_accepted_in (part_of state.held 0 site_count)
      (coordinator_part state.held 0 coordinator_count) sites_long coordinator_long
      (network_front passes state.held ok.lengths held_sound.sites_sound site_count
      coordinator_count sites_long coordinator_long)

  -- ---- The numbers that calls answer

  -- All of both memories lent.
  pub batch_by_rules : AtRest state
      → (arrivals : List Arrival) (log : List ℕ) (answer : BatchHeld)
      → BatchSays (batch_call settings state.held arrivals log) answer
      → answer.refusal
      ≡ (batch_of settings (log_room log) (network_of settings state.held) arrivals).refusal
  batch_by_rules at_rest arrivals log answer says =
      says.refusal ∙ rw (network_accepted at_rest)
