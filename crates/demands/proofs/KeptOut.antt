-- Of the draws that a call is handed none is lost: it decides on them, or keeps them out, and it
-- keeps none out unless it is refused. From the contracts alone, of every state.
--
--   nothing_lost     the claim
use Rattle.std.specs.Prelude.{if◌then◌else◌}
use mathlib.Core.Path.{◌≡◌, refl, sym, ap, ◌∙◌}
use mathlib.Core.Bool.{Bool, true, false}
use mathlib.Core.List.{[]}
use Prim.Native.Nat.{ℕ, suc}
use lib.ListN.{length, drop, take-append-drop}
use lib.Seq.{drop-length}
use borrow.Author.Tests.{eqb-true, eqb-false}
use Rattle.model.specs.declared.Settings.{Settings}
use Rattle.model.specs.Choice.{is_zero}
use Rattle.model.specs.Refusals.{no_refusal}
use Rattle.model.specs.Held.{network_of}
use Rattle.tracker.specs.Batch.{BatchCall, BatchHeld, BatchSays, start_refusal, log_room}
use Rattle.history.specs.State.{State}
use Rattle.history.specs.Steps.{batch, single, Refuses, arrival_left, site_message_refused, coordinator_message_refused, announcement_refused, batch_takes_none, Step, arrives, delivers, refuses}
use Rattle.history.proofs.Answers.{accepted_choice, refused_choice}
use Rattle.history.proofs.BatchRuns.{run_at}
use Rattle.demands.specs.Given.{of_arrival, decided_count, kept_out, Handed, no_draw, draw_handed, batch_handed, own_draw, own_batch, handed_refused, handed_by, refusal_of_refused, kept_out_by, refusal_by, NothingLost}
use Rattle.demands.proofs.BatchStops.{batch_stops}

-- A batch that is not refused accepts all its arrivals, and so keeps none out.
batch_none_kept_out : (call : BatchCall) (answer : BatchHeld)
    → BatchSays call answer
    → answer.refusal ≡ no_refusal
    → kept_out call.arrivals answer ≡ []
batch_none_kept_out call answer says none = by_start (is_zero (start_refusal call)) refl
  where
    by_start : (test : Bool) → is_zero (start_refusal call) ≡ test
        → kept_out call.arrivals answer ≡ []
    by_start true started =
        let accepts = eqb-true (start_refusal call) 0 started in
        let network = network_of call.settings call.held in
        let all : answer.accepted ≡ length call.arrivals =
        says.accepted
        ∙ accepted_choice _ _ _ accepts
        ∙ (batch_stops call.settings (log_room call.log) call.arrivals (run_at network)
        ).all_accepted (sym (accepted_choice _ _ _ accepts) ∙ sym says.refusal ∙ none) in
        let count : decided_count answer ≡ answer.accepted =
        ap (λ (refusal : ℕ).
        if of_arrival refusal then suc answer.accepted else answer.accepted) none in
        ap (λ (n : ℕ). drop n call.arrivals) (count ∙ all) ∙ drop-length call.arrivals
    by_start false some =
        let refused = eqb-false (start_refusal call) 0 some in
        absurd (refused (sym (says.refusal ∙ refused_choice _ _ _ refused) ∙ none))

-- A call that is none of the list keeps out none of its draws.
own_none_kept_out : (own : Bool) (handed : Handed)
    → drop handed.count handed.arrivals ≡ []
    → drop (if own then handed else no_draw).count (if own then handed else no_draw).arrivals
    ≡ []
own_none_kept_out true handed none = none
own_none_kept_out false handed none = refl

refused_none_kept_out : (settings : Settings) {before after : State} (step : Refuses before after)
    → refusal_of_refused step ≡ no_refusal
    → drop (handed_refused settings step).count (handed_refused settings step).arrivals ≡ []
refused_none_kept_out settings
    (arrival_left given which arrival start words part answer says touches) none =
    own_none_kept_out (own_draw settings given which arrival start)
    (draw_handed arrival answer.refusal) (rw none)
refused_none_kept_out settings (site_message_refused _ _ _ _ _ _ _ _ _) none = refl
refused_none_kept_out settings (coordinator_message_refused _ _ _ _ _ _ _ _) none = refl
refused_none_kept_out settings (announcement_refused _ _ _ _ _ _) none = refl
refused_none_kept_out settings
    (batch_takes_none given slices arrivals log answer says nothing) none =
    own_none_kept_out (own_batch settings given slices) (batch_handed arrivals answer)
    (batch_none_kept_out _ answer says none)

none_kept_out : {settings : Settings} {before after : State} (step : Step settings before after)
    → refusal_by step ≡ no_refusal
    → kept_out_by step ≡ []
none_kept_out (arrives (batch site_count coordinator_count arrivals log answer rest says)) none =
    batch_none_kept_out _ answer says none
none_kept_out (arrives (single arrival words part answer rest is_draw_lem says accepts)) none = refl
none_kept_out (delivers step) none = refl
none_kept_out {settings} (refuses step) none = refused_none_kept_out settings step none

-- The claim.
pub nothing_lost : {settings : Settings} {before after : State}
    (step : Step settings before after)
    → NothingLost step
nothing_lost step = record {
  all_named = take-append-drop (handed_by step).count (handed_by step).arrivals;
  none_kept_out = none_kept_out step;
}
