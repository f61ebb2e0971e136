-- The state after a batch call at rest: at rest again, the model's run with the arrivals that the
-- batch accepted, and the messages of its log. PROOF.md section 9, "The invariant".
--
--   batch_ok        the invariant of that state
--   batch_resting   it is at rest
use mathlib.Core.Path.{◌≡◌, refl, sym, ap, ◌∙◌, subst}
use mathlib.Core.List.{List, ◌++◌}
use Prim.Native.Nat.{ℕ, ◌+◌, ◌*◌, ◌≤◌}
use native.Mathlib.Omega.{arith}
use lib.ListN.{length, take, length-append}
use borrow.Author.Tests.{eq-eqb}
use Rattle.model.specs.declared.Settings.{Settings}
use Rattle.model.specs.declared.Arrival.{Arrival}
use Rattle.model.specs.declared.Message.{Message}
use Rattle.model.specs.Refusals.{no_refusal}
use Rattle.model.specs.Settings.{settings_refusal}
use Rattle.model.specs.SiteMemory.{site_words}
use Rattle.model.specs.CoordinatorMemory.{coordinator_in, coordinator_record, coordinator_memory}
use Rattle.model.specs.Network.{Network}
use Rattle.model.specs.NetworkMemory.{sites_in, sites_memory, site_records}
use Rattle.model.specs.Draws.{draws_of}
use Rattle.model.specs.Runs.{Run, run_from, run_of, Batch, batch_of}
use Rattle.model.specs.SoundNetwork.{Sound}
use Rattle.model.specs.MessageCounts.{none_counted, counted_up}
use Rattle.model.proofs.Thresholds.SettingsLaws.{Settled, settled}
use Rattle.model.proofs.Runs.RunLaws.{run_from_append, run_from_draws}
use Rattle.model.proofs.MessageCount.CountLaws.{counted_up_append, NamesBelow, names_append, names_last}
use Rattle.site_memory.proofs.SitesMemoryLaws.{AllStorable, all_storable, length_site_records, length_sites_memory}
use Rattle.site_memory.proofs.SitesReading.{sites_in_sites_memory}
use Rattle.coordinator_kinds.proofs.MemoryLaws.{written_coordinator}
use Rattle.tracker.specs.Batch.{BatchCall, BatchHeld, BatchSays, start_refusal, batch_in, unless_refused, log_room, messages_in}
use Rattle.history.specs.State.{Held, State, AtRest, network_of, network_written}
use Rattle.history.specs.Steps.{batch_call, after_batch}
use Rattle.history.proofs.RunSound.{sound_run, run_names}
use Rattle.history.proofs.BatchRuns.{BatchRun, batch_run}
use Rattle.history.proofs.HandedOut.{messages_in_written}
use Rattle.history.proofs.Decoded.{Lengths}
use Rattle.history.proofs.DecodedCoordinator.{length_coordinator_memory}
use Rattle.history.proofs.Invariant.{StateOk, Resting, resting}
use Rattle.history.proofs.Accepted.{resting_of, network_accepted}

-- ---- A whole network written

module _ {settings : Settings} (passes : settings_refusal settings ≡ no_refusal) (held : Held)
    (lengths : Lengths settings held) (network : Network) (sound : Sound settings network)
    (counts : List ℕ) where
  fit : Settled settings
  fit = settled settings passes

  sites_fit : AllStorable settings network.sites
  sites_fit = all_storable sound.all_sites sound.sites_sound

  long : length network.sites * site_words settings ≤ length held.site_memory
  long = rw sound.all_sites lengths.sites_long

  -- It is read back as it was written.
  pub network_written_lem : network_of settings (network_written settings held network counts) ≡
      network
  network_written_lem =
      let enough : length network.sites ≤ length held.sites.records =
      omega (arith, sound.all_sites, lengths.all_records, fit.sites.at_most) in
      let sites : sites_in settings.sites settings
      (site_records network.sites held.sites.records)
      (sites_memory settings network.sites held.site_memory)
      ≡ network.sites =
      ap (λ (k : ℕ).
      sites_in k settings (site_records network.sites held.sites.records)
      (sites_memory settings network.sites held.site_memory))
      (sym sound.all_sites)
      ∙ sites_in_sites_memory settings network.sites held.sites.records held.site_memory
      sites_fit enough long in
      let coordinator : coordinator_in settings (coordinator_record network.coordinator)
      (coordinator_memory network.coordinator held.coordinator_memory)
      ≡ network.coordinator =
      written_coordinator settings network.coordinator held.coordinator_memory
      sound.coordinator_sound.numbers.estimates_length
      sound.coordinator_sound.numbers.histogram_length in
      λ i. record { sites = sites i; coordinator = coordinator i }

  -- Writing keeps the lengths of records and memories.
  pub lengths_written : Lengths settings (network_written settings held network counts)
  lengths_written = record {
    all_records =
        length_site_records network.sites held.sites.records
        ∙ lengths.all_records;
    sites_long =
        omega (
          arith,
          length_sites_memory settings network.sites held.site_memory sites_fit long,
          lengths.sites_long,
        );
    coordinator_long =
        omega (
          arith,
          length_coordinator_memory settings network.coordinator held.coordinator_memory
              sound.coordinator_sound.numbers.estimates_length
              sound.coordinator_sound.numbers.histogram_length
              lengths.coordinator_long,
          lengths.coordinator_long,
        );
  }

-- ---- The model's batch

module _ {settings : Settings} (passes : settings_refusal settings ≡ no_refusal)
    {n : ℕ} (before : State)
    (ok : StateOk settings n before) (at_rest : AtRest before)
    (arrivals : List Arrival) (log : List ℕ) where
  abbrev call : BatchCall
  call = batch_call settings before.held arrivals log

  abbrev batch : Batch
  batch = batch_in call

  pub rest : Resting settings before
  rest = resting_of passes ok at_rest

  -- The start refuses no network that arose.
  pub none : start_refusal call ≡ no_refusal
  none = network_accepted passes ok at_rest

  -- The batch is a run over what it accepted.
  pub as_run : BatchRun settings (run_of settings before.accepted) arrivals batch
  as_run =
      subst (λ (network : Network).
      BatchRun settings (run_of settings before.accepted) arrivals
      (batch_of settings (log_room log) network arrivals))
      (sym rest.network_is)
      (batch_run settings (log_room log) arrivals (run_of settings before.accepted))

  -- The draws accepted then.
  abbrev accepted_then : List Arrival
  accepted_then = before.accepted ++ draws_of (take batch.accepted arrivals)

  run_on : run_of settings accepted_then
      ≡ run_from settings (run_of settings before.accepted) (take batch.accepted arrivals)
  run_on =
      run_from_append settings _ before.accepted (draws_of (take batch.accepted arrivals))
      ∙ run_from_draws settings _ (take batch.accepted arrivals)

  network_then : batch.network ≡ (run_of settings accepted_then).network
  network_then = as_run.network_is ∙ ap (λ (run : Run). run.network) (sym run_on)

  -- The network that the batch comes to is a run's, and so sound.
  pub sound_then : Sound settings batch.network
  sound_then =
      subst (Sound settings) (sym network_then) (sound_run settings passes accepted_then).sound

  -- What the network counts then.
  abbrev counts : List ℕ
  counts = counted_up before.held.sites.messages batch.messages

  -- The state, by the model's batch.
  abbrev pub after : State
  after = record {
    held = network_written settings before.held batch.network counts;
    waiting = before.waiting;
    accepted = accepted_then;
    messages = before.messages ++ batch.messages;
    log = before.log ++ batch.messages;
    logged = before.logged + length batch.messages;
  }

  resting_then : Resting settings after
  resting_then = record {
    nothing_waits = at_rest.nothing_waits;
    accepted_are =
        ap (λ (run : Run). run.accepted) run_on
        ∙ as_run.run_accepted
        ∙ ap (λ (front : List Arrival). front ++ draws_of (take batch.accepted arrivals))
        rest.accepted_are;
    network_is =
        network_written_lem passes before.held ok.lengths batch.network sound_then counts
        ∙ network_then;
    messages_are =
        ap (λ (front : List Message). front ++ batch.messages) rest.messages_are
        ∙ sym as_run.run_messages
        ∙ ap (λ (run : Run). run.messages) (sym run_on);
  }

  -- Its messages are a run's last ones, and so name sites of the network.
  pub names_then : NamesBelow settings.sites batch.messages
  names_then =
      names_last before.messages
      (subst (NamesBelow settings.sites) (sym resting_then.messages_are)
      (run_names settings passes accepted_then))

  after_ok : StateOk settings 0 after
  after_ok = record {
    lengths =
        lengths_written passes before.held ok.lengths batch.network sound_then counts;
    standing = resting refl resting_then;
    counts_are =
        ap (λ (past : List ℕ). counted_up past batch.messages) ok.counts_are
        ∙ sym (counted_up_append none_counted before.log batch.messages);
    log_named = names_append ok.log_named names_then;
    log_length =
        omega (arith, ok.log_length, length-append before.log batch.messages);
    logged_within =
        omega (arith, ok.logged_within, length-append before.messages batch.messages);
  }

  -- ---- The state after the call

  module _ (answer : BatchHeld) (says : BatchSays call answer) where
    done : {A : Type 0} (x y z : A) → x ≡ unless_refused call y z → x ≡ y
    done x y z is = is ∙ rw (eq-eqb (start_refusal call) 0 none)

    -- What the call answers and leaves is what its contract says of the model's batch.
    pub after_is : after_batch before arrivals answer ≡ after
    after_is =
        let sites = done answer.held.sites _ _ says.sites in
        let coordinator = done answer.held.coordinator _ _ says.coordinator in
        let site_memory = done answer.held.site_memory _ _ says.site_memory in
        let memory = done answer.held.coordinator_memory _ _ says.coordinator_memory in
        let taken = done answer.accepted _ _ says.accepted in
        let written = done answer.written _ _ says.written in
        let read : messages_in answer.written answer.log ≡ batch.messages =
        (λ i. messages_in (written i) (done answer.log _ _ says.log i))
        ∙ messages_in_written batch.messages _ in
        λ i. record {
          held = record {
            sites = sites i;
            coordinator = coordinator i;
            site_memory = site_memory i;
            coordinator_memory = memory i;
          };
          waiting = before.waiting;
          accepted = before.accepted ++ draws_of (take (taken i) arrivals);
          messages = before.messages ++ read i;
          log = before.log ++ read i;
          logged = before.logged + written i;
        }

    -- The invariant after a batch call at rest.
    pub batch_ok : StateOk settings 0 (after_batch before arrivals answer)
    batch_ok = subst (StateOk settings 0) (sym after_is) after_ok

    pub batch_resting : Resting settings (after_batch before arrivals answer)
    batch_resting = subst (Resting settings) (sym after_is) resting_then
