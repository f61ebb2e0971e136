-- The batch call arrival by arrival: what is held when some arrivals are still to come, from the
-- start of the call to its end.
--
--   given_of call, opened_in call     what the call was given, and what it holds before an arrival
--   batch_rest, batch_rest_on        the batch with the arrivals still to come
--   Walked                           either refused when it started, or a batch that goes on
--   walked_open, walked_step         from the start on, arrival by arrival
--   walked_asks                      what one arrival asks
--   walked_done, walked_stopped      the end: no arrival is left, or one was refused
use Rattle.std.specs.Prelude.{if◌then◌else◌}
use mathlib.Core.Path.{◌≡◌, refl, sym, ap, ◌∙◌, subst⁻¹}
use mathlib.Core.Bool.{Bool, true, false}
use mathlib.Core.List.{List, [], ◌∷◌, ◌++◌, append-nil}
use Prim.Native.Nat.{ℕ, ◌+◌, ◌≤◌, ◌<◌}
use native.Mathlib.Omega.{arith}
use native.Mathlib.Decide.{ℕ_discrete}
use lib.ListN.{length}
use borrow.Author.Tests.{eq-eqb, ne_eqb}
use Rattle.model.specs.declared.Settings.{Settings}
use Rattle.model.specs.declared.Arrival.{Arrival}
use Rattle.model.specs.Choice.{is_zero}
use Rattle.model.specs.Refusals.{no_refusal}
use Rattle.model.specs.Network.{Network}
use Rattle.model.specs.MessageCounts.{counted_up}
use Rattle.model.specs.Runs.{Batch, batch_from, fresh_batch}
use Rattle.coordinator_kinds.proofs.MemoryLaws.{memory_kept}
use Rattle.site_memory.proofs.SitesReading.{site_records_sites_in, sites_memory_sites_in}
use Rattle.model.specs.Held.{Held, no_record, network_of}
use Rattle.tracker_queue.specs.Log.{log_room}
use Rattle.tracker_delivery.specs.Holding.{WithLog}
use Rattle.tracker_memory.proofs.SoundLaws.{Passing, passing}
use Rattle.tracker.specs.Batch.{BatchCall, BatchHeld, batch_held, start_refusal, batch_in, BatchSays}
use Rattle.tracker_steps.specs.Steps.{BatchOutcome, opened, OpenBatchSays, run_limit, one_refusal, batch_one, BatchHolds, BatchReady, OneAsks, OneSays}
use Rattle.tracker_steps.proofs.BatchLaws.{ready_next}

-- ---- The batch with the arrivals still to come

abbrev pub given_of : BatchCall → WithLog
given_of call = record { held = call.held; log = call.log }

-- Before the first arrival.
abbrev pub opened_in : BatchCall → ℕ → BatchHeld
opened_in call refusal =
    batch_held (opened refusal call.held.sites call.held.coordinator)
    call.held.site_memory call.held.coordinator_memory call.log

abbrev pub batch_rest : Settings → ℕ → Batch → List Arrival → Batch
batch_rest settings room batch rest =
    if is_zero batch.refusal then batch_from settings room batch rest else batch

pub batch_rest_on : (settings : Settings) (room : ℕ) (batch : Batch) (arrival : Arrival)
    (rest : List Arrival)
    → batch.refusal ≡ no_refusal
    → batch_rest settings room batch (arrival ∷ rest)
    ≡ batch_rest settings room (batch_one settings room batch arrival) rest
batch_rest_on settings room batch arrival rest goes =
    by_refusal (ℕ_discrete (one_refusal settings room batch arrival) 0)
  where
    by_refusal : Dec (one_refusal settings room batch arrival ≡ 0)
        → batch_rest settings room batch (arrival ∷ rest)
        ≡ batch_rest settings room (batch_one settings room batch arrival) rest
    by_refusal (yes none) =
        rw (goes, eq-eqb (one_refusal settings room batch arrival) 0 none, batch_from)
    by_refusal (no refused) =
        let stops = ne_eqb (one_refusal settings room batch arrival) 0 refused in
        rw (goes, stops, batch_from, stops)

-- ---- The call so far

pub record Goes (call : BatchCall) (rest : List Arrival) (now : BatchHeld) : Type 0 where
  pub start_accepted : start_refusal call ≡ no_refusal
  pub batch : Batch
  pub holds : BatchHolds call.settings (given_of call) batch now
  pub ready : batch.refusal ≡ no_refusal → BatchReady call.settings (given_of call) batch
  -- no more are accepted than were there
  pub accepted_few : batch.accepted + length rest ≤ length call.arrivals
  pub comes_to : batch_rest call.settings (log_room call.log) batch rest ≡ batch_in call

pub record Refused (call : BatchCall) (now : BatchHeld) : Type 0 where
  pub start_refused : start_refusal call ≡ no_refusal → ⊥
  pub now_is : now ≡ opened_in call (start_refusal call)

pub data Walked (call : BatchCall) (rest : List Arrival) (now : BatchHeld) : Type 0 where
  refused : Refused call now → Walked call rest now
  goes : Goes call rest now → Walked call rest now

-- ---- The start

module _ (call : BatchCall) (none : start_refusal call ≡ no_refusal) where
  abbrev given : Held
  given = call.held

  abbrev network : Network
  network = network_of call.settings given

  pub passes : Passing call.settings given.sites given.coordinator given.site_memory
      given.coordinator_memory
  passes =
      passing call.settings given.sites given.coordinator given.site_memory
      given.coordinator_memory none

  -- What was given, read and written again, is what was given.
  holds_first : BatchHolds call.settings (given_of call) (fresh_batch network)
      (opened_in call no_refusal)
  holds_first = record {
    refusal = refl;
    accepted = refl;
    holds = record {
      records = sym (site_records_sites_in call.settings.sites call.settings
          given.sites.records given.site_memory);
      counted = refl;
      coordinator = refl;
      written = refl;
      waiting = refl;
      site_memory = sym (sites_memory_sites_in no_record call.settings.sites call.settings
          given.sites.records given.site_memory passes.few_counters
          passes.all_records passes.fits.sites_fit.long_enough);
      coordinator_memory = memory_kept call.settings given.coordinator
          given.coordinator_memory passes.fits.coordinator_long;
      log = refl;
    };
  }

  ready_first : BatchReady call.settings (given_of call) (fresh_batch network)
  ready_first = record {
    fits = record {
      settings_accepted = passes.fits.sites_fit.settings_accepted;
      all_records = passes.all_records;
      site_memory_long = passes.fits.sites_fit.long_enough;
      coordinator_memory_long = passes.fits.coordinator_long;
      few_counted = passes.few_counted.each_within;
    };
    sound = passes.sound;
    bounded = passes.bounded;
    messages_within = omega arith;
  }

walked_start : (call : BatchCall)
    → Walked call call.arrivals (opened_in call (start_refusal call))
walked_start call = by_refusal (ℕ_discrete (start_refusal call) 0)
  where
    by_refusal : Dec (start_refusal call ≡ 0)
        → Walked call call.arrivals (opened_in call (start_refusal call))
    by_refusal (yes none) = goes (record {
      start_accepted = none;
      batch = fresh_batch (network call none);
      holds = subst⁻¹ (λ (n : ℕ).
          BatchHolds call.settings (given_of call) (fresh_batch (network call none))
          (opened_in call n)) none (holds_first call none);
      ready = λ _. ready_first call none;
      accepted_few = omega arith;
      comes_to = refl;
    })
    by_refusal (no some) = refused (record { start_refused = some; now_is = refl })

-- The memory as the start's tests left it, which only read it.
pub walked_open : (call : BatchCall) (answer : BatchOutcome)
    (site_memory coordinator_memory : List ℕ)
    → OpenBatchSays call.settings call.held.sites call.held.coordinator
    call.held.site_memory call.held.coordinator_memory answer site_memory coordinator_memory
    → Walked call call.arrivals (batch_held answer site_memory coordinator_memory call.log)
walked_open call answer site_memory coordinator_memory says =
    rw (says.site_memory_kept, says.coordinator_memory_kept, says.answered) (walked_start call)

-- ---- Arrival by arrival

module _ {call : BatchCall} {now : BatchHeld} (in-run : length call.arrivals < run_limit) where
  -- A call that was refused when it started has that refusal.
  not_refused : Refused call now → now.refusal ≡ no_refusal → ⊥
  not_refused failed none =
      failed.start_refused
      (sym (ap (λ (n : BatchHeld). n.refusal) failed.now_is) ∙ none)

  abbrev asks_of : {arrival : Arrival} {rest : List Arrival} (on : Goes call (arrival ∷ rest) now)
      → now.refusal ≡ no_refusal
      → OneAsks call.settings now
  asks_of on none = record {
    given = given_of call;
    batch = on.batch;
    ready = on.ready (sym on.holds.refusal ∙ none);
    accepted_within = omega (arith, on.accepted_few, in-run);
    holds = on.holds;
  }

  pub walked_asks : {arrival : Arrival} {rest : List Arrival}
      → Walked call (arrival ∷ rest) now
      → now.refusal ≡ no_refusal
      → OneAsks call.settings now
  walked_asks (refused failed) none = absurd (not_refused failed none)
  walked_asks (goes on) none = asks_of on none

  pub walked_step : {arrival : Arrival} {rest : List Arrival} {next : BatchHeld}
      → Walked call (arrival ∷ rest) now
      → now.refusal ≡ no_refusal
      → OneSays call.settings arrival now next
      → Walked call rest next
  walked_step (refused failed) none says = absurd (not_refused failed none)
  walked_step {arrival} {rest} (goes on) none says =
      let u = asks_of on none in
      let room = log_room call.log in
      let was : on.batch.refusal ≡ no_refusal = sym on.holds.refusal ∙ none in
      goes (record {
        start_accepted = on.start_accepted;
        batch = batch_one call.settings room on.batch arrival;
        holds = says.next u;
        ready = λ none_then.
            ready_next u arrival
            (none_of_next call.settings room on.batch arrival none_then);
        accepted_few =
            omega (
              arith,
              one_more call.settings room on.batch arrival,
              on.accepted_few,
            );
        comes_to =
            sym (batch_rest_on call.settings room on.batch arrival rest was) ∙ on.comes_to;
      })
    where
      one_more : (settings : Settings) (room : ℕ) (batch : Batch) (x : Arrival)
          → (batch_one settings room batch x).accepted ≤ batch.accepted + 1
      one_more settings room batch x = by_test (is_zero (one_refusal settings room batch x)) refl
        where
          by_test : (none : Bool) → is_zero (one_refusal settings room batch x) ≡ none
              → (batch_one settings room batch x).accepted ≤ batch.accepted + 1
          by_test true none = rw none (omega arith)
          by_test false some = rw some (omega arith)

      -- A batch that goes on after an arrival has accepted it.
      none_of_next : (settings : Settings) (room : ℕ) (batch : Batch) (x : Arrival)
          → (batch_one settings room batch x).refusal ≡ no_refusal
          → one_refusal settings room batch x ≡ no_refusal
      none_of_next settings room batch x none_then =
          by_refusal (ℕ_discrete (one_refusal settings room batch x) 0)
        where
          by_refusal : Dec (one_refusal settings room batch x ≡ 0)
              → one_refusal settings room batch x ≡ no_refusal
          by_refusal (yes is) = is
          by_refusal (no some) =
              rw (ne_eqb (one_refusal settings room batch x) 0 some) at none_then

-- ---- The end

module _ {call : BatchCall} {now : BatchHeld} where
  says_refused : Refused call now → BatchSays call now
  says_refused failed =
      let test = ne_eqb (start_refusal call) 0 failed.start_refused in
      rw failed.now_is (record {
        refusal = rw test;
        accepted = rw test;
        written = rw test;
        sites = rw test;
        coordinator = rw test;
        site_memory = rw test;
        coordinator_memory = rw test;
        log = rw test;
      })

  says_batch : start_refusal call ≡ no_refusal
      → (batch : Batch)
      → BatchHolds call.settings (given_of call) batch now
      → batch ≡ batch_in call
      → BatchSays call now
  says_batch none batch holds is =
      let test = eq-eqb (start_refusal call) 0 none in
      let all : batch.messages ++ [] ≡ batch.messages = append-nil batch.messages in
      let records = holds.holds.records in
      let counted : now.held.sites.messages
      ≡ counted_up call.held.sites.messages batch.messages =
      rw all at holds.holds.counted in
      let written : now.written ≡ length batch.messages =
      rw all at holds.holds.written in
      let log = rw all at holds.holds.log in
      record {
        refusal = rw (test, ← is) holds.refusal;
        accepted = rw test (holds.accepted ∙ ap (λ (b : Batch). b.accepted) is);
        written = rw (test, ← is) written;
        sites = rw (test, ← is) (λ i. record { records = records i; messages = counted i });
        coordinator = rw (test, ← is) holds.holds.coordinator;
        site_memory = rw (test, ← is) holds.holds.site_memory;
        coordinator_memory = rw (test, ← is) holds.holds.coordinator_memory;
        log = rw (test, ← is) log;
      }

  pub walked_done : Walked call [] now → BatchSays call now
  walked_done (refused failed) = says_refused failed
  walked_done (goes on) =
      says_batch on.start_accepted on.batch on.holds
      (sym (rest_none (is_zero on.batch.refusal)) ∙ on.comes_to)
    where
      rest_none : (test : Bool) → (if test then on.batch else on.batch) ≡ on.batch
      rest_none true = refl
      rest_none false = refl

  pub walked_stopped : {rest : List Arrival} → Walked call rest now
      → (now.refusal ≡ no_refusal → ⊥)
      → BatchSays call now
  walked_stopped (refused failed) some = says_refused failed
  walked_stopped {rest} (goes on) some =
      let stopped = ne_eqb on.batch.refusal 0 (λ none. some (on.holds.refusal ∙ none)) in
      let stays : batch_rest call.settings (log_room call.log) on.batch rest ≡ on.batch =
      rw stopped in
      says_batch on.start_accepted on.batch on.holds (sym stays ∙ on.comes_to)
