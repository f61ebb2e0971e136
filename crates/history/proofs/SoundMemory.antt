-- Records and memory that hold sound parts are never refused, arisen or not, but for a site that
-- has forgotten more than arrived: each call is refused by what the rules say of its arrival or
-- message alone. PROOF.md section 9, "Never 11".
--
--   coordinator_accepted, coordinator_front    the coordinator's own memory, and a front of it
--   site_accepted                              a site's own record and part
--   arrival_by_rules, site_message_by_rules    the number that a call on a site then answers
use mathlib.Core.Path.{◌≡◌, ap, ◌∙◌}
use Prim.Native.Nat.{ℕ, ◌≤◌, ◌<◌}
use lib.ListN.{length}
use borrow.Author.Tests.{le-ltb, lt-leb}
use Rattle.model.specs.declared.Settings.{Settings}
use Rattle.model.specs.declared.Arrival.{Arrival}
use Rattle.model.specs.declared.Message.{Message}
use Rattle.model.specs.Refusals.{no_refusal}
use Rattle.model.specs.Settings.{settings_refusal}
use Rattle.model.specs.Site.{Site, line_refusal, site_message_refusal}
use Rattle.model.specs.SiteMemory.{site_words, site_in, site_memory_refusal}
use Rattle.model.specs.Coordinator.{Coordinator}
use Rattle.model.specs.CoordinatorMemory.{coordinator_words, coordinator_in, coordinator_memory_refusal}
use Rattle.model.specs.Network.{site_at}
use Rattle.model.specs.SoundNetwork.{DroppedWithin}
use Rattle.model.proofs.Soundness.ConsistentCoordinator.{coordinator_consistent_of}
use Rattle.site.specs.Calls as SiteCalls
use Rattle.history.specs.State.{Held, network_of, record_at, site_part, coordinator_part}
use Rattle.history.proofs.SiteParts.{front_long}
use Rattle.history.proofs.CoordinatorFronts.{on_front}
use Rattle.history.proofs.Decoded.{Lengths, site_part_lem, site_memory_accepted}
use Rattle.history.proofs.Underway.{SoundParts}

module _ {settings : Settings} (passes : settings_refusal settings ≡ no_refusal) (held : Held)
    (lengths : Lengths settings held) (parts : SoundParts settings (network_of settings held)) where
  -- ---- The coordinator

  -- Its own record and memory.
  pub coordinator_accepted :
      coordinator_memory_refusal settings held.coordinator held.coordinator_memory ≡ no_refusal
  coordinator_accepted =
      rw (
        passes,
        le-ltb (length held.coordinator_memory) (coordinator_words settings)
            lengths.coordinator_long,
        coordinator_consistent_of settings (network_of settings held).coordinator
            parts.coordinator_sound parts.within,
      )

  -- What a call comes to on a front of as many numbers as its own, or more.
  pub coordinator_front : {A : Type 0} (words : ℕ) (of : ℕ → Coordinator → A)
      → coordinator_words settings ≤ words
      → of
      (coordinator_memory_refusal settings held.coordinator (coordinator_part held 0 words))
      (coordinator_in settings held.coordinator (coordinator_part held 0 words))
      ≡ of no_refusal (network_of settings held).coordinator
  coordinator_front words of enough =
      on_front settings held.coordinator words held.coordinator_memory
      (front_long (coordinator_words settings) words held.coordinator_memory enough
      lengths.coordinator_long)
      of
      ∙ ap (λ (refusal : ℕ). of refusal (network_of settings held).coordinator)
      coordinator_accepted

  -- ---- A site

  module _ (which words : ℕ) (known : which < settings.sites)
      (few_dropped : DroppedWithin (site_at (network_of settings held) which))
      (enough : site_words settings ≤ words) where
    -- A site's own record, with at least its own numbers.
    pub site_accepted : site_memory_refusal settings (record_at held which)
        (site_part settings held which words)
        ≡ no_refusal
    site_accepted =
        site_memory_accepted passes held lengths parts.sites_sound which known few_dropped words
        enough

    site_here : site_in settings (record_at held which) (site_part settings held which words)
        ≡ site_at (network_of settings held) which
    site_here = site_part_lem passes held lengths parts.sites_sound which known words enough

    -- The number for an arrival is the rules'.
    pub arrival_by_rules : (arrival : Arrival)
        → SiteCalls.observe_refusal settings (record_at held which) arrival
        (site_part settings held which words)
        ≡ line_refusal settings (site_at (network_of settings held) which) arrival
    arrival_by_rules arrival =
        rw site_accepted (ap (λ (site : Site). line_refusal settings site arrival) site_here)

    -- The number for a message is the rules'.
    pub site_message_by_rules : (m : Message)
        → SiteCalls.receive_refusal settings (record_at held which) which m
        (site_part settings held which words)
        ≡ site_message_refusal settings (site_at (network_of settings held) which) which m
    site_message_by_rules m =
        rw (site_accepted, lt-leb settings.sites which known)
        (ap (λ (site : Site). site_message_refusal settings site which m) site_here)
