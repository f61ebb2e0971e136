-- Every state of a history can be saved and read back: its parts are sound and within the limits,
-- in mid-delivery too.
--
--   saves           saving is accepted
--   again           what reading hands back
--   closing         the claim
use mathlib.Core.Path.{◌≡◌, sym, subst}
use mathlib.Core.Bool.{true}
use mathlib.Core.List.{List}
use Prim.Native.Nat.{ℕ, ◌≤◌}
use native.Mathlib.Omega.{arith}
use lib.ListN.{length, take}
use borrow.Author.Tests.{le-ltb}
use Rattle.model.specs.declared.Settings.{Settings}
use Rattle.model.specs.Refusals.{no_refusal}
use Rattle.model.specs.Settings.{settings_refusal}
use Rattle.model.specs.CoordinatorMemory.{coordinator_words}
use Rattle.model.specs.Network.{Network}
use Rattle.model.specs.NetworkMemory.{sites_words}
use Rattle.model.specs.Held.{held_consistent}
use Rattle.model.proofs.Soundness.ConsistentNetwork.{SitesRead, bench_consistent_of}
use Rattle.snapshot_file.specs.Answers.{LoadAnswer, SaveAnswer}
use Rattle.snapshot_file.specs.Layout.{file_length}
use Rattle.snapshot_file.specs.File.{save_refusal}
use Rattle.snapshot_file.specs.Calls.{SaveSays, LoadSays}
use Rattle.snapshot_file.proofs.Theorem.{file_claims}
use Rattle.history.specs.State.{Held, State, network_of, fronts, lending}
use Rattle.history.proofs.SiteParts.{front_long}
use Rattle.history.proofs.Underway.{SoundParts}
use Rattle.history.proofs.Accounts.{few_dropped}
use Rattle.history.proofs.NetworkFronts.{network_front}
use Rattle.history.proofs.Accepted.{held_sound, few_counted}
use Rattle.history.proofs.Lasting.{Lasting, all_sites}
use Rattle.history.proofs.MachineNumbers.{of_machine}
use Rattle.history.proofs.Reopened.{back, held_again}
use Rattle.demands.specs.Closing.{Again, Closing}

module _ {settings : Settings} (passes : settings_refusal settings ≡ no_refusal)
    {n : ℕ} (state : State) (start : Held) (now : Lasting settings start n state) where
  -- What is asked of each part, of the network that is held.
  record Fit (network : Network) : Type 0 where
    read : SitesRead settings settings.sites network.sites
    parts : SoundParts settings network

  fit : Fit (network_of settings state.held)
  fit = record {
    read = record {
      all_read = all_sites passes state start now;
      each_sound = (held_sound passes now.ok).sites_sound;
      each_within = few_dropped passes now.ok.standing;
    };
    parts = held_sound passes now.ok;
  }

  -- ---- Fronts of the memories

  module _ (site_count coordinator_count : ℕ) (sites_enough : sites_words settings ≤ site_count)
      (enough : coordinator_words settings ≤ coordinator_count) where
    abbrev lent : Held
    lent = lending state.held (fronts site_count coordinator_count)

    sites_long : sites_words settings ≤ length lent.site_memory
    sites_long =
        front_long (sites_words settings) site_count state.held.site_memory sites_enough
        now.ok.lengths.sites_long

    coordinator_long : coordinator_words settings ≤ length lent.coordinator_memory
    coordinator_long =
        front_long (coordinator_words settings) coordinator_count state.held.coordinator_memory
        enough now.ok.lengths.coordinator_long

    consistent : held_consistent settings lent ≡ true
    consistent =
        let there : Fit (network_of settings lent) =
        subst Fit
        (sym (network_front passes state.held now.ok.lengths
        (held_sound passes now.ok).sites_sound site_count coordinator_count sites_long
        coordinator_long))
        fit in
        bench_consistent_of settings lent.sites lent.coordinator lent.site_memory
        lent.coordinator_memory there.read there.parts.coordinator_sound
        there.parts.within (few_counted passes now.ok)

    saves : (room : ℕ) → file_length settings ≤ room → save_refusal settings lent room ≡ no_refusal
    saves room long =
        rw (
          passes,
          le-ltb (length lent.site_memory) (sites_words settings) sites_long,
          le-ltb (length lent.coordinator_memory) (coordinator_words settings) coordinator_long,
          le-ltb room (file_length settings) long,
          consistent,
        )

  -- ---- The claim

  -- Saved from fronts of both memories, and read into others.
  module _ (site_count coordinator_count : ℕ) (bytes written : List ℕ) (saved : SaveAnswer)
      (site_memory coordinator_memory site_after coordinator_after : List ℕ) (loaded : LoadAnswer)
      (save_says : SaveSays settings
      (lending state.held (fronts site_count coordinator_count)) bytes written saved)
      (save_accepted : saved.refusal ≡ no_refusal)
      (load_says : LoadSays (take saved.length written) site_memory coordinator_memory site_after
      coordinator_after loaded)
      (load-accepted : loaded.refusal ≡ no_refusal) where
    again : Again settings state.held site_memory coordinator_memory site_after coordinator_after
        loaded
    again = record {
      settings_are =
          (back passes state start now site_count coordinator_count bytes written saved site_memory
          coordinator_memory site_after coordinator_after loaded save_says save_accepted load_says
          load-accepted).settings_are;
      held_is =
          held_again passes state start now site_count coordinator_count bytes written saved
          site_memory coordinator_memory site_after coordinator_after loaded save_says save_accepted
          load_says load-accepted;
    }

  pub closing : Closing settings state
  closing = record {
    saved = λ site_count coordinator_count room sites_enough enough.
        saves site_count coordinator_count sites_enough enough room;
    read = λ site_count coordinator_count site_room coordinator_room sites_enough enough sites-room
        room.
        file_claims.saved_accepted settings
        (lending state.held (fronts site_count coordinator_count)) (file_length settings) site_room
        coordinator_room
        (saves site_count coordinator_count sites_enough enough (file_length settings)
        (omega arith))
        (of_machine passes state start now site_count coordinator_count
        (sites_long site_count coordinator_count sites_enough enough))
        sites-room room;
    goes_on = again;
  }
