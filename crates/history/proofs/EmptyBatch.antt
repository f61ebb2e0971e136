-- A batch call that accepts no draw leaves everything as it was: refused, or with no arrivals, or
-- with touches alone. For every state, arisen or not.
--
--   NothingDone, nothing_done    a batch of the model that accepts no draw
--   batch_same                   the state after such a call
use mathlib.Core.Path.{◌≡◌, refl, sym, ap, ◌∙◌}
use mathlib.Core.Bool.{Bool, true, false}
use mathlib.Core.List.{List, [], append-nil}
use Prim.Native.Nat.{ℕ, ◌+◌}
use native.Mathlib.Omega.{arith}
use lib.ListN.{length, take}
use borrow.Author.Tests.{eq-eqb, eqb-true}
use Rattle.model.specs.declared.Settings.{Settings}
use Rattle.model.specs.declared.Arrival.{Arrival}
use Rattle.model.specs.Choice.{is_zero}
use Rattle.model.specs.Refusals.{no_refusal}
use Rattle.model.specs.Draws.{draws_of}
use Rattle.model.specs.Network.{Network}
use Rattle.model.specs.Runs.{Run, run_from, Batch, batch_of}
use Rattle.model.proofs.Runs.RunLaws.{run_from_draws}
use Rattle.model.proofs.Soundness.ConsistentNetwork.{Passes, passes_of}
use Rattle.site_memory.proofs.SitesReading.{enough_records, used_within, site_records_sites_in, sites_memory_sites_in}
use Rattle.coordinator_kinds.proofs.MemoryLaws.{memory_kept}
use Rattle.tracker.specs.Batch.{BatchCall, BatchSays, start_refusal, batch_in, unless_refused, BatchHeld}
use Rattle.history.specs.State.{Held, State, network_of, no_record}
use Rattle.history.specs.Steps.{batch_call, after_batch}
use Rattle.history.proofs.BatchRuns.{run_at, batch_run}

-- ---- A batch of the model that accepts no draw

-- The network is as it was, and nothing was sent.
pub record NothingDone (network : Network) (batch : Batch) : Type 0 where
  pub network_same : batch.network ≡ network
  pub no_messages : batch.messages ≡ []

-- A batch that accepts no draw did nothing: it is a run over its draws, which are none.
pub nothing_done : (settings : Settings) (room : ℕ) (network : Network) (arrivals : List Arrival)
    → draws_of (take (batch_of settings room network arrivals).accepted arrivals) ≡ []
    → NothingDone network (batch_of settings room network arrivals)
nothing_done settings room network arrivals none =
    let batch = batch_of settings room network arrivals in
    let run = batch_run settings room arrivals (run_at network) in
    let idle : run_from settings (run_at network) (take batch.accepted arrivals)
    ≡ run_at network =
    sym (run_from_draws settings (run_at network) (take batch.accepted arrivals))
    ∙ ap (run_from settings (run_at network)) none in
    record {
      network_same = run.network_is ∙ ap (λ (r : Run). r.network) idle;
      no_messages = sym run.run_messages ∙ ap (λ (r : Run). r.messages) idle;
    }

-- ---- The state after the call

module _ (before : State) (given : Settings) (arrivals : List Arrival) (log : List ℕ)
    (answer : BatchHeld)
    (says : BatchSays (batch_call given before.held arrivals log) answer)
    (nothing : draws_of (take answer.accepted arrivals) ≡ []) where
  abbrev call : BatchCall
  call = batch_call given before.held arrivals log

  abbrev held : Held
  held = before.held

  -- What a batch call hands back, by whether it is refused when it starts.
  by_start : {A : Type 0} (done kept x : A)
      → x ≡ unless_refused call done kept
      → (start_refusal call ≡ no_refusal → done ≡ kept)
      → x ≡ kept
  by_start {A} done kept x is same = by_test (is_zero (start_refusal call)) refl
    where
      by_test : (none : Bool) → is_zero (start_refusal call) ≡ none → x ≡ kept
      by_test true none = is ∙ rw none (same (eqb-true (start_refusal call) 0 none))
      by_test false some = is ∙ rw some

  -- Where it was not refused, the model's batch accepts no draw.
  idle_batch : start_refusal call ≡ no_refusal
      → NothingDone (network_of given held) (batch_in call)
  idle_batch none =
      nothing_done given _ (network_of given held) arrivals
      (ap (λ (n : ℕ). draws_of (take n arrivals))
      (sym (rw (eq-eqb (start_refusal call) 0 none) at says.accepted))
      ∙ nothing)

  passes : start_refusal call ≡ no_refusal
      → Passes given held.sites held.coordinator held.site_memory held.coordinator_memory
  passes none =
      passes_of given held.sites held.coordinator held.site_memory
      held.coordinator_memory none

  sites_same : answer.held.sites ≡ held.sites
  sites_same =
      by_start _ _ answer.held.sites says.sites
      (λ none.
      let done = idle_batch none in
      let records = site_records_sites_in given.sites given held.sites.records
      held.site_memory in
      rw (done.network_same, done.no_messages)
      (λ i. record {
        records = records i;
        messages = held.sites.messages;
      }))

  coordinator_same : answer.held.coordinator ≡ held.coordinator
  coordinator_same =
      by_start _ _ answer.held.coordinator says.coordinator
      (λ none. rw (idle_batch none).network_same)

  site_memory_same : answer.held.site_memory ≡ held.site_memory
  site_memory_same =
      by_start _ _ answer.held.site_memory says.site_memory
      (λ none.
      let ok = passes none in
      let k = given.sites in
      let records = held.sites.records in
      let all = ok.sound.all_sites in
      rw (idle_batch none).network_same
      (sites_memory_sites_in no_record k given records held.site_memory
      (λ j known. used_within no_record k given records held.site_memory all j known
      (ok.sound.sites_sound j known))
      (enough_records k given records held.site_memory all)
      ok.sites_long))

  coordinator_memory_same : answer.held.coordinator_memory ≡ held.coordinator_memory
  coordinator_memory_same =
      by_start _ _ answer.held.coordinator_memory says.coordinator_memory
      (λ none.
      rw (idle_batch none).network_same
      (sym (memory_kept given held.coordinator held.coordinator_memory
      (passes none).coordinator_long)))

  nothing_written : answer.written ≡ 0
  nothing_written =
      by_start _ _ answer.written says.written
      (λ none. ap length (idle_batch none).no_messages)

  -- Records, memory and bookkeeping are as they were.
  pub batch_same : after_batch before arrivals answer ≡ before
  batch_same =
      rw (nothing, nothing_written)
      (λ i. record {
        held = record {
          sites = sites_same i;
          coordinator = coordinator_same i;
          site_memory = site_memory_same i;
          coordinator_memory = coordinator_memory_same i;
        };
        waiting = before.waiting;
        accepted = append-nil before.accepted i;
        messages = append-nil before.messages i;
        log = append-nil before.log i;
        logged = add_zero before.logged i;
      })
    where
      add_zero : (n : ℕ) → n + 0 ≡ n
      add_zero n = omega arith
