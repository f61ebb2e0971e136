-- The state that the two start calls leave: fresh records, and memory that holds a fresh network.
--
--   start_ok     the invariant of that state
use mathlib.Core.Path.{◌≡◌, refl, sym, ap, ◌∙◌, subst}
use mathlib.Core.List.{List, ◌++◌}
use Prim.Native.Nat.{ℕ, ◌≤◌}
use native.Mathlib.Omega.{arith}
use lib.ListN.{length, drop, replicate, length-replicate, replicate-append-replicate}
use lib.Seq.{take_at}
use Rattle.laws.proofs.FlatMemory.{length_overwritten}
use Rattle.model.specs.declared.Settings.{Settings}
use Rattle.model.specs.Refusals.{no_refusal}
use Rattle.model.specs.Limits.{most_sites, value_count}
use Rattle.model.specs.Settings.{settings_refusal}
use Rattle.model.specs.Site.{fresh_site}
use Rattle.model.specs.SiteMemory.{site_record}
use Rattle.model.specs.Coordinator.{Coordinator, fresh_coordinator}
use Rattle.model.specs.CoordinatorMemory.{coordinator_words, coordinator_in, coordinator_record, coordinator_memory}
use Rattle.model.specs.Network.{fresh_network}
use Rattle.model.specs.NetworkMemory.{sites_words, sites_in, fresh_sites}
use Rattle.model.proofs.Thresholds.TestedMemory.{length_tested}
use Rattle.model.proofs.Thresholds.SettingsLaws.{Settled, settled}
use Rattle.model.proofs.MessageCount.CountLaws.{names_none}
use Rattle.coordinator_kinds.proofs.MemoryLaws.{written_coordinator}
use Rattle.site_start.specs.Starts.{SitesStart}
use Rattle.site_start.specs.Starts as SiteStarts
use Rattle.coordinator.specs.Calls.{CoordinatorStart}
use Rattle.coordinator.specs.Calls as CoordinatorCalls
use Rattle.history.specs.State.{State, network_of}
use Rattle.history.specs.Histories.{start_state}
use Rattle.history.specs.Start.{StartedFresh}
use Rattle.history.proofs.Answers.{accepted_choice}
use Rattle.history.proofs.FreshSites.{sites_in_fresh}
use Rattle.history.proofs.Decoded.{Lengths}
use Rattle.history.proofs.DecodedCoordinator.{length_coordinator_memory}
use Rattle.history.proofs.Invariant.{StateOk, resting}

-- ---- The two memories

module _ (settings : Settings) (passes : settings_refusal settings ≡ no_refusal)
    (sitesBefore coordinatorBefore : List ℕ)
    (sites_long : sites_words settings ≤ length sitesBefore)
    (coordinator_long : coordinator_words settings ≤ length coordinatorBefore) where
  abbrev fresh : Coordinator
  fresh = fresh_coordinator settings

  abbrev fresh_state : State
  fresh_state =
      start_state fresh_sites (coordinator_record fresh) (SiteStarts.cleared settings sitesBefore)
      (coordinator_memory fresh coordinatorBefore)

  fit : Settled settings
  fit = settled settings passes

  estimates_long : length fresh.estimates ≡ settings.universe
  estimates_long = length-replicate {A = ℕ} settings.universe 0

  values_long : length fresh.histogram ≡ value_count
  values_long = length-replicate {A = ℕ} value_count 0

  network_fresh : network_of settings fresh_state.held ≡ fresh_network settings
  network_fresh =
      let zeros = replicate {A = ℕ} (sites_words settings) 0 in
      let sites : sites_in settings.sites settings fresh_sites.records
      (SiteStarts.cleared settings sitesBefore)
      ≡ replicate settings.sites fresh_site =
      sites_in_fresh settings settings.sites most_sites (drop (length zeros) sitesBefore)
      fit.sites.at_most in
      let coordinator : coordinator_in settings (coordinator_record fresh)
      (coordinator_memory fresh coordinatorBefore)
      ≡ fresh =
      written_coordinator settings fresh coordinatorBefore estimates_long values_long in
      λ i. record { sites = sites i; coordinator = coordinator i }

  lengths_fresh : Lengths settings fresh_state.held
  lengths_fresh =
      let zeros = replicate {A = ℕ} (sites_words settings) 0 in
      let few : length zeros ≡ sites_words settings =
      length-replicate {A = ℕ} (sites_words settings) 0 in
      record {
        all_records = length-replicate most_sites (site_record fresh_site);
        sites_long =
            omega (arith, length_overwritten zeros sitesBefore (omega (arith, few)), sites_long);
        coordinator_long =
            omega (
              arith,
              length_coordinator_memory settings fresh coordinatorBefore estimates_long values_long
                  coordinator_long,
              coordinator_long,
            );
      }

  fresh_ok : StateOk settings 0 fresh_state
  fresh_ok = record {
    lengths = lengths_fresh;
    standing = resting refl (record {
      nothing_waits = refl;
      accepted_are = refl;
      network_is = network_fresh;
      messages_are = refl;
    });
    counts_are = refl;
    log_named = names_none;
    log_length = refl;
    logged_within = omega arith;
  }

  fresh_start : StartedFresh settings fresh_state.held
  fresh_start =
      let zeros = replicate {A = ℕ} (sites_words settings) 0 in
      let both : fresh.estimates ++ fresh.histogram ≡ replicate (coordinator_words settings) 0 =
      replicate-append-replicate {A = ℕ} settings.universe value_count 0 in
      let width : length (fresh.estimates ++ fresh.histogram) ≡ coordinator_words settings =
      ap length both ∙ length-replicate {A = ℕ} (coordinator_words settings) 0 in
      record {
        sites = refl;
        coordinator = refl;
        site_memory =
            take_at zeros (drop (length zeros) sitesBefore) (sites_words settings)
            (length-replicate {A = ℕ} (sites_words settings) 0);
        coordinator_memory =
            take_at (fresh.estimates ++ fresh.histogram)
            (drop (length (fresh.estimates ++ fresh.histogram)) coordinatorBefore)
            (coordinator_words settings) width
            ∙ both;
      }

-- ---- The start calls

module _ (settings : Settings) (sitesBefore sites_after coordinatorBefore coordinator_after : List
    ℕ)
    (sites : SitesStart) (coordinator : CoordinatorStart)
    (sites-say : SiteStarts.StartSitesSays settings sitesBefore sites_after sites)
    (sites_accepted : sites.refusal ≡ no_refusal)
    (coordinator-says : CoordinatorCalls.StartCoordinatorSays settings coordinatorBefore
    coordinator_after
    coordinator)
    (coordinator_accepted : coordinator.refusal ≡ no_refusal) where
  none_sites : SiteStarts.start_refusal settings sitesBefore ≡ no_refusal
  none_sites = sym sites-say.refusal ∙ sites_accepted

  none_coordinator : CoordinatorCalls.start_refusal settings (length coordinatorBefore) ≡ no_refusal
  none_coordinator = sym coordinator-says.refusal ∙ coordinator_accepted

  -- A start that is accepted had settings that pass.
  pub start_passes : settings_refusal settings ≡ no_refusal
  start_passes =
      (length_tested settings (sites_words settings) (length sitesBefore) _ none_sites
      ).settings_accepted

  sites_long : sites_words settings ≤ length sitesBefore
  sites_long =
      (length_tested settings (sites_words settings) (length sitesBefore) _ none_sites).memory_long

  coordinator_long : coordinator_words settings ≤ length coordinatorBefore
  coordinator_long =
      (length_tested settings (coordinator_words settings) (length coordinatorBefore) _
      none_coordinator).memory_long

  -- The answers and memories are those of a fresh start.
  state_is : start_state sites.sites coordinator.coordinator sites_after coordinator_after
      ≡ fresh_state settings start_passes sitesBefore coordinatorBefore sites_long coordinator_long
  state_is =
      let site_memory : sites_after ≡ SiteStarts.cleared settings sitesBefore =
      sites-say.memory ∙ accepted_choice _ _ _ none_sites in
      let memory : coordinator_after
      ≡ coordinator_memory (fresh_coordinator settings) coordinatorBefore =
      coordinator-says.memory ∙ accepted_choice _ _ _ none_coordinator in
      λ i. start_state (sites-say.sites i) (coordinator-says.coordinator i) (site_memory i)
      (memory i)

  -- Fresh records, and zeros in both memories.
  pub start_fresh : StartedFresh settings
      (start_state sites.sites coordinator.coordinator sites_after coordinator_after).held
  start_fresh =
      subst (λ (state : State). StartedFresh settings state.held) (sym state_is)
      (fresh_start settings start_passes sitesBefore coordinatorBefore sites_long
      coordinator_long)

  -- The invariant of the first state.
  pub start_ok : StateOk settings 0
      (start_state sites.sites coordinator.coordinator sites_after coordinator_after)
  start_ok =
      subst (StateOk settings 0) (sym state_is)
      (fresh_ok settings start_passes sitesBefore coordinatorBefore sites_long coordinator_long)
