-- The call `begin` does what its definition says.
--
--   sites_start, coordinator_start    within the program's limits the start calls are accepted
--   begin_refused, begin_started      the two answers
use mathlib.Core.Path.{◌≡◌, sym, ap, ◌∙◌}
use mathlib.Core.List.{List}
use Prim.Native.Nat.{ℕ, ◌-◌, ◌≤◌}
use native.Mathlib.Nat.{mul-le-mul}
use native.Mathlib.Omega.{arith}
use lib.ListN.{length, length-drop}
use borrow.Author.Tests.{eq-eqb, ne_eqb, le-ltb}
use Rattle.model.specs.declared.Settings.{Settings}
use Rattle.model.specs.Refusals.{no_refusal}
use Rattle.model.specs.SiteMemory.{site_words}
use Rattle.model.specs.Coordinator.{fresh_coordinator}
use Rattle.model.specs.CoordinatorMemory.{coordinator_words, coordinator_memory}
use Rattle.model.specs.NetworkMemory.{sites_words}
use Rattle.model.specs.Lines.{Fields, read_fields}
use Rattle.model.proofs.BetweenArrivals.ReportLaws.{value_count_is}
use Rattle.worklist_reader.specs.Promises.{SettingsReadOutcome, SettingsSays, bytes_after}
use Rattle.site_start.specs.Starts as SiteStarts
use Rattle.coordinator.specs.Calls as CoordinatorCalls
use Rattle.drawtrack_steps.specs.declared.Session.{Session}
use Rattle.drawtrack_steps.specs.declared.Moved.{Moved}
use Rattle.drawtrack_steps.specs.Outcome.{Buffers, buffers, with_out, outcome, RefuseSays, refused_of}
use Rattle.drawtrack_start.specs.Limits.{site_room}
use Rattle.drawtrack_start.specs.Start.{start_refusal_of}
use Rattle.drawtrack_start.proofs.StartLaws.{Served, served}
use Rattle.drawtrack_session.specs.Begin.{begin_refusal_of, fresh_session, first_session, started_of, begin_of}

-- ---- The start calls

-- Within the program's limits they are accepted.
module _ (settings : Settings) (site_memory memory : List ℕ)
    (fit : Served settings (length site_memory) (length memory)) where
  sites_few : sites_words settings ≤ site_room
  sites_few =
      let words : site_words settings ≤ 1424 = omega (arith, fit.few_counters, value_count_is) in
      omega (arith, mul-le-mul fit.few_sites words)

  pub sites_start : SiteStarts.start_refusal settings site_memory ≡ no_refusal
  sites_start =
      rw (
        fit.passes,
        le-ltb (length site_memory) (sites_words settings)
            (omega (arith, sites_few, fit.sites_long)),
      )

  pub coordinator_start : CoordinatorCalls.start_refusal settings (length memory) ≡ no_refusal
  coordinator_start =
      rw (
        fit.passes,
        le-ltb (length memory) (coordinator_words settings)
            (omega (arith, fit.few_items, value_count_is, fit.coordinator_long)),
      )

-- ---- The two answers

module _ (input : List ℕ) (given : Buffers) (read : SettingsReadOutcome)
    (says : SettingsSays input read)
    (session : Session) (session-is : session ≡ fresh_session read.settings read.used)
    (refusal : ℕ)
    (refusal-says : refusal
    ≡ start_refusal_of read.refusal read.settings (length input - read.used)
    (length given.site_memory) (length given.coordinator_memory)) where
  abbrev found : Fields
  found = read_fields 6 input

  rest_length : length input - read.used ≡ length (bytes_after input found)
  rest_length = sym (length-drop read.used input) ∙ ap length says.rest

  refusal_is : refusal ≡ begin_refusal_of input found given
  refusal_is =
      refusal-says
      ∙ (λ i. start_refusal_of (says.refusal i) (says.settings i) (rest_length i)
      (length given.site_memory) (length given.coordinator_memory))

  first_is : session ≡ first_session input found
  first_is = session-is ∙ (λ i. fresh_session (says.settings i) (says.used i))

  pub begin_refused : (after : List ℕ) (moved : Moved)
      → RefuseSays session refusal given.out after moved
      → (refusal ≡ no_refusal → ⊥)
      → outcome moved (with_out given after) ≡ begin_of input given
  begin_refused after moved refuses refused =
      let rule = begin_refusal_of input found given in
      refuses.is given
      ∙ (λ i. refused_of (first_is i) (refusal_is i) given)
      ∙ sym (rw (ne_eqb rule 0 (λ none. refused (refusal_is ∙ none))))

  pub begin_started : (site_after coordinator_after : List ℕ)
      (sites : SiteStarts.SitesStart) (coordinator : CoordinatorCalls.CoordinatorStart)
      → SiteStarts.StartSitesSays read.settings given.site_memory site_after sites
      → CoordinatorCalls.StartCoordinatorSays read.settings given.coordinator_memory
      coordinator_after
      coordinator
      → refusal ≡ no_refusal
      → outcome (record { session = session; written = 0 })
      (buffers site_after coordinator_after given.log given.list given.out)
      ≡ begin_of input given
  begin_started site_after coordinator_after sites coordinator sites-say coordinator-says none =
      let settings = read.settings in
      let fit = served read.refusal settings (length input - read.used)
      (length given.site_memory) (length given.coordinator_memory)
      (sym refusal-says ∙ none) in
      let sites_then : site_after ≡ SiteStarts.cleared settings given.site_memory =
      sites-say.memory
      ∙ rw (eq-eqb (SiteStarts.start_refusal settings given.site_memory) 0
      (sites_start settings given.site_memory given.coordinator_memory fit)) in
      let coordinator_then : coordinator_after
      ≡ coordinator_memory (fresh_coordinator settings) given.coordinator_memory =
      coordinator-says.memory
      ∙ rw (eq-eqb (CoordinatorCalls.start_refusal settings (length given.coordinator_memory)) 0
      (coordinator_start settings given.site_memory given.coordinator_memory fit)) in
      let rule = begin_refusal_of input found given in
      (λ i. outcome (record { session = session-is i; written = 0 })
      (buffers (sites_then i) (coordinator_then i) given.log given.list given.out))
      ∙ (λ i. started_of (fresh_session (says.settings i) (says.used i)) given)
      ∙ sym (rw (eq-eqb rule 0 (sym refusal_is ∙ none)))
