-- What stops a batch: by 5, 6, 7 or 8 an arrival that the rules refuse, which leaves no trace in a
-- run; by nothing the end of its arrivals.
--
--   StopsAt, stops_at         of a batch that goes on
--   BatchStops, batch_stops   of a whole batch
--   not_of_arrival            a batch refused when it starts is refused by none of these
use Rattle.std.specs.Prelude.{if◌then◌else◌}
use mathlib.Core.Path.{◌≡◌, refl, sym, ap, ◌∙◌}
use mathlib.Core.Bool.{Bool, true, false, false≢true, not}
use mathlib.Core.List.{List, [], ◌∷◌}
use Prim.Native.Nat.{ℕ, zero, suc, ◌+◌, ◌-◌}
use native.Mathlib.Omega.{arith}
use lib.Dec.{ltb}
use lib.ListN.{length, take}
use borrow.Author.Tests.{eqb-true, eqb-false}
use Rattle.model.specs.declared.Settings.{Settings}
use Rattle.model.specs.declared.Arrival.{Arrival}
use Rattle.model.specs.Choice.{is_zero}
use Rattle.model.specs.Refusals.{when, ◌or_else◌, no_refusal, log_too_short, memory_too_short, memory_inconsistent}
use Rattle.model.specs.Limits.{most_messages}
use Rattle.model.specs.Settings.{settings_refusal}
use Rattle.model.specs.Draws.{is_draw}
use Rattle.model.specs.Network.{Network, after_line}
use Rattle.model.specs.NetworkMemory.{network_too_short, network_consistent}
use Rattle.model.specs.Runs.{Run, line_refusal_in, is_taken_in, run_one, run_from, Batch, batch_refusal, batch_from, batch_of}
use Rattle.model.proofs.Thresholds.RefusalLaws.{both_accepted}
use Rattle.model.proofs.Touches.DrawLaws.{refused_left, LineTaken, line_taken}
use Rattle.tracker.specs.Batch.{BatchCall, start_refusal}
use Rattle.history.proofs.BatchRuns.{next_batch}
use Rattle.demands.specs.Given.{of_arrival}

-- 14 is not of an arrival, so a refusal of a batch that is of its arrival is the rules' own.
not_of_log : (drawn short : Bool)
    → of_arrival
    (if drawn then (when short log_too_short or_else no_refusal) else no_refusal) ≡ false
not_of_log true true = refl
not_of_log true false = refl
not_of_log false short = refl

rules_refuse : (own later : ℕ)
    → of_arrival later ≡ false
    → of_arrival (own or_else later) ≡ true
    → own ≡ no_refusal → ⊥
rules_refuse zero later not-of of none = false≢true (sym not-of ∙ of)
rules_refuse (suc own) later not-of of none = omega (arith, none)

module _ (settings : Settings) (room : ℕ) where
  -- So many more arrivals were taken, and what stopped it there.
  pub record StopsAt (run : Run) (arrivals : List Arrival) (batch after : Batch) : Type 0 where
    pub taken : ℕ
    pub accepted_is : after.accepted ≡ batch.accepted + taken
    -- the next one leaves no trace
    pub no_trace : of_arrival after.refusal ≡ true
        → run_from settings run (take (suc taken) arrivals)
        ≡ run_from settings run (take taken arrivals)
    pub all_taken : after.refusal ≡ no_refusal
        → taken ≡ length arrivals

  -- By recursion on the arrivals: each is accepted, or stops the batch.
  pub stops_at : (arrivals : List Arrival) (run : Run) (batch : Batch)
      → batch.network ≡ run.network
      → StopsAt run arrivals batch (batch_from settings room batch arrivals)
  stops_at [] run batch same = record {
    taken = 0;
    accepted_is = omega arith;
    no_trace = λ of. refl;
    all_taken = λ none. refl;
  }
  stops_at (arrival ∷ arrivals) run batch same =
      by_refusal (is_zero refusal) refl (stops_at arrivals)
    where
      free : ℕ
      free = room - length batch.messages

      refusal : ℕ
      refusal = batch_refusal settings batch.network (room - length batch.messages) arrival

      by_refusal : (none : Bool) → is_zero refusal ≡ none
          → ((next : Run) (b : Batch) → b.network ≡ next.network
          → StopsAt next arrivals b (batch_from settings room b arrivals))
          → StopsAt run (arrival ∷ arrivals) batch
          (batch_from settings room batch (arrival ∷ arrivals))
      by_refusal true none later =
          let one : LineTaken settings run arrival =
          line_taken settings run arrival
          (ap (λ (network : Network). line_refusal_in settings network arrival) (sym same)
          ∙ (both_accepted _ _ (eqb-true refusal 0 none)).first_accepted) in
          let on = later (run_one settings run arrival) (next_batch settings room batch arrival)
          (ap (λ (network : Network). (after_line settings network arrival).network) same
          ∙ one.network_is) in
          rw (none, batch_from) (record {
            taken = suc on.taken;
            accepted_is = on.accepted_is ∙ omega arith;
            no_trace = λ of. on.no_trace of;
            all_taken = λ stopped. ap suc (on.all_taken stopped);
          })
      by_refusal false some later =
          rw (some, batch_from) (record {
            taken = 0;
            accepted_is = omega arith;
            no_trace = λ of.
                let own = rules_refuse (line_refusal_in settings batch.network arrival) _
                (not_of_log (is_draw arrival) (ltb free (most_messages settings))) of in
                let left : is_taken_in settings run.network arrival ≡ false =
                refused_left settings run.network arrival
                (λ none. own
                (ap (λ (network : Network). line_refusal_in settings network arrival) same
                ∙ none)) in
                rw left;
            all_taken = λ none. absurd (eqb-false refusal 0 some none);
          })

-- ---- A whole batch

-- What stopped it, after those that it accepted.
pub record BatchStops (settings : Settings) (run : Run) (arrivals : List Arrival) (batch : Batch)
    : Type 0 where
  pub no_trace : of_arrival batch.refusal ≡ true
      → run_from settings run (take (suc batch.accepted) arrivals)
      ≡ run_from settings run (take batch.accepted arrivals)
  pub all_accepted : batch.refusal ≡ no_refusal
      → batch.accepted ≡ length arrivals

pub batch_stops : (settings : Settings) (room : ℕ) (arrivals : List Arrival) (run : Run)
    → BatchStops settings run arrivals (batch_of settings room run.network arrivals)
batch_stops settings room arrivals run =
    let at = stops_at settings room arrivals run _ refl in
    let as_many : (batch_of settings room run.network arrivals).accepted ≡ at.taken =
    at.accepted_is ∙ omega arith in
    record {
      no_trace = rw as_many at.no_trace;
      all_accepted = λ none. as_many ∙ at.all_taken none;
    }

-- ---- Refused when it starts

-- 1, 2, 3, 4 and 11; the settings pass, so 4 or 11.
pub not_of_arrival : (call : BatchCall)
    → settings_refusal call.settings ≡ no_refusal
    → (start_refusal call ≡ no_refusal → ⊥)
    → of_arrival (start_refusal call) ≡ false
not_of_arrival call passes refused =
    by_row
    (network_too_short call.settings call.held.site_memory call.held.coordinator_memory)
    (not (network_consistent call.settings call.held.sites call.held.coordinator
    call.held.site_memory call.held.coordinator_memory)) (rw passes)
  where
    by_row : (short inconsistent : Bool)
        → start_refusal call
        ≡ (when short memory_too_short or_else when inconsistent memory_inconsistent
        or_else no_refusal)
        → of_arrival (start_refusal call) ≡ false
    by_row true inconsistent is = ap of_arrival is
    by_row false true is = ap of_arrival is
    by_row false false is = ap of_arrival is
