-- Every history has one without its touches, from the same start, that comes to the same state.
--
--   drawn_step        a step adds the draws among the lines that it accepts
--   moved             what is told of a history does not depend on how its state is written
--   StepWithout, step_without    the same step without touches, or none
--   left_out          of every history
use Rattle.std.specs.Prelude.{if◌then◌else◌}
use mathlib.Core.Path.{◌≡◌, refl, sym, ap, ◌∙◌, subst, subst_refl, path_j}
use mathlib.Core.Bool.{Bool, true, false}
use mathlib.Core.List.{List, [], ◌∷◌, ◌++◌, append-nil}
use Prim.Native.Nat.{ℕ}
use lib.ListN.{length, take, drop}
use lib.Seq.{take-append_seam}
use borrow.Author.Tests.{eqb-true}
use Rattle.model.specs.declared.Settings.{Settings}
use Rattle.model.specs.declared.Arrival.{Arrival}
use Rattle.model.specs.Choice.{is_zero}
use Rattle.model.specs.Refusals.{no_refusal}
use Rattle.model.specs.Settings.{settings_refusal}
use Rattle.model.specs.Draws.{draws_of}
use Rattle.model.proofs.Touches.DrawLists.{draws_of_draw, draws_of_touch, draws_of_append, draws_of_twice}
use Rattle.tracker.specs.Batch.{BatchHeld}
use Rattle.history.specs.State.{Held, State, Slices, fronts, lending, put_back, carried_to}
use Rattle.history.specs.Steps.{batch_call, after_batch, batch, single, to_coordinator_lem, to_site, next_announcement, Refuses, arrival_left, site_message_refused, coordinator_message_refused, announcement_refused, batch_takes_none, Step, arrives, delivers, refuses}
use Rattle.history.specs.Histories.{Reachable, started, stepped, reopened, held_at_start}
use Rattle.history.proofs.Refused.{refused_same}
use Rattle.demands.specs.Touches.{touches_by, accepted_by, accepted_in, without_touches, answer_without, LeftOut}
use Rattle.demands.proofs.CallWithout.{says_without}

-- ---- The draws among the lines

-- The state after a call that accepts no draw has the draws of before.
no_draws : {before after : State} (step : Refuses before after) → draws_of (touches_by step) ≡ []
no_draws (arrival_left given which arrival start words part answer says touches) =
    by_refusal (is_zero answer.refusal) refl
  where
    by_refusal : (none : Bool) → is_zero answer.refusal ≡ none
        → draws_of (if is_zero answer.refusal then arrival ∷ [] else []) ≡ []
    by_refusal true none =
        rw none (draws_of_touch arrival [] (touches (eqb-true answer.refusal 0 none)))
    by_refusal false some = rw some
no_draws (site_message_refused _ _ _ _ _ _ _ _ _) = refl
no_draws (coordinator_message_refused _ _ _ _ _ _ _ _) = refl
no_draws (announcement_refused _ _ _ _ _ _) = refl
no_draws (batch_takes_none given slices arrivals log answer says none) = none

drawn_step : {settings : Settings} (before after : State) (step : Step settings before after)
    → after.accepted ≡ before.accepted ++ draws_of (accepted_by step)
drawn_step before after (arrives (batch _ _ arrivals log answer _ _)) = refl
drawn_step before after (arrives (single arrival words part answer rest is_draw_lem says accepts)) =
    ap (λ (xs : List Arrival). before.accepted ++ xs) (sym (draws_of_draw arrival [] is_draw_lem))
drawn_step before after (delivers (to_coordinator_lem _ _ _ _ _ _ _ _ _)) =
    sym (append-nil before.accepted)
drawn_step before after (delivers (to_site _ _ _ _ _ _ _ _)) =
    sym (append-nil before.accepted)
drawn_step before after (delivers (next_announcement _ _ _ _)) =
    sym (append-nil before.accepted)
drawn_step before after (refuses step) =
    ap (λ (state : State). state.accepted) (refused_same before after step)
    ∙ sym (append-nil before.accepted)
    ∙ ap (λ (xs : List Arrival). before.accepted ++ xs) (sym (no_draws step))

draws_in : {settings : Settings} (state : State) (history : Reachable settings state)
    → state.accepted ≡ draws_of (accepted_in history)
draws_in state (started _ _ _ _ _ _ _ _ _ _ _ _) = refl
draws_in state (stepped before after earlier step) =
    drawn_step before after step
    ∙ ap (λ (xs : List Arrival). xs ++ draws_of (accepted_by step)) (draws_in before earlier)
    ∙ sym (draws_of_append (accepted_in earlier) (accepted_by step))
draws_in state (reopened before _ _ _ _ _ _ _ _ _ _ earlier _ _ _ _) = draws_in before earlier

-- ---- A state written otherwise

-- What is told of a history, of one that is moved along a path of its state.
moved : {A : Type 0} {settings : Settings} {one other : State} (is : one ≡ other)
    (tell : (state : State) → Reachable settings state → A) (history : Reachable settings one)
    → tell other (subst (Reachable settings) is history) ≡ tell one history
moved {A} {settings} {one} is tell history =
    path_j
    (λ (other : State) (p : one ≡ other).
    tell other (subst (Reachable settings) p history) ≡ tell one history)
    (ap (tell one) (subst_refl (Reachable settings) history)) is

-- ---- Step by step

-- A history that goes on by the step without its touches, or not at all.
record StepWithout {settings : Settings} {before after : State}
    (earlier : Reachable settings before) (step : Step settings before after) : Type 0 where
  on : Reachable settings after
  same_start : held_at_start on ≡ held_at_start earlier
  accepts_draws : accepted_in on ≡ accepted_in earlier ++ draws_of (accepted_by step)

module _ {settings : Settings} {before : State} (earlier : Reachable settings before) where
  -- By a step that comes to the same state, perhaps written otherwise.
  by_step : {after : State} (step : Step settings before after) (there : State)
      (other : Step settings before there)
      → there ≡ after
      → accepted_by other ≡ draws_of (accepted_by step)
      → StepWithout earlier step
  by_step {after} step there other is draws =
      let on = stepped before there earlier other in
      record {
        on = subst (Reachable settings) is on;
        same_start = moved is (λ (state : State) (h : Reachable settings state). held_at_start h)
            on;
        accepts_draws =
            moved is (λ (state : State) (h : Reachable settings state). accepted_in h) on
            ∙ ap (λ (xs : List Arrival). accepted_in earlier ++ xs) draws;
      }

  -- By no step: the state is as it was.
  by_none : {after : State} (step : Step settings before after)
      → before ≡ after
      → draws_of (accepted_by step) ≡ []
      → StepWithout earlier step
  by_none step is none = record {
    on = subst (Reachable settings) is earlier;
    same_start =
        moved is (λ (state : State) (h : Reachable settings state). held_at_start h) earlier;
    accepts_draws =
        moved is (λ (state : State) (h : Reachable settings state). accepted_in h) earlier
        ∙ sym (append-nil (accepted_in earlier))
        ∙ ap (λ (xs : List Arrival). accepted_in earlier ++ xs) (sym none);
  }

-- The lines that a batch without its touches accepts.
taken_without : (arrivals : List Arrival) (accepted : ℕ)
    → take (length (draws_of (take accepted arrivals))) (without_touches accepted arrivals)
    ≡ draws_of (take accepted arrivals)
taken_without arrivals accepted =
    take-append_seam (draws_of (take accepted arrivals)) (drop accepted arrivals)

-- The state after it is the same.
state_without : (before : State) (slices : Slices) (arrivals : List Arrival) (answer : BatchHeld)
    → after_batch before (without_touches answer.accepted arrivals)
    (put_back before.held slices (answer_without arrivals answer))
    ≡ after_batch before arrivals (put_back before.held slices answer)
state_without before slices arrivals answer =
    let after = after_batch before arrivals (put_back before.held slices answer) in
    let draws : draws_of
    (take (length (draws_of (take answer.accepted arrivals)))
    (without_touches answer.accepted arrivals))
    ≡ draws_of (take answer.accepted arrivals) =
    ap draws_of (taken_without arrivals answer.accepted)
    ∙ draws_of_twice (take answer.accepted arrivals) in
    λ i. record {
      held = after.held;
      waiting = after.waiting;
      accepted = before.accepted ++ draws i;
      messages = after.messages;
      log = after.log;
      logged = after.logged;
    }

step_without : {settings : Settings} {before : State} (earlier : Reachable settings before)
    (after : State) (step : Step settings before after)
    → StepWithout earlier step
step_without {settings} {before} earlier after
    (arrives (batch site_count coordinator_count arrivals log answer rest says)) =
    let slices = fronts site_count coordinator_count in
    by_step earlier
    (arrives (batch site_count coordinator_count arrivals log answer rest says)) _
    (arrives
    (batch site_count coordinator_count (without_touches answer.accepted arrivals) log
    (answer_without arrivals answer) rest
    (says_without (batch_call settings (lending before.held slices) arrivals log) answer says)))
    (state_without before slices arrivals answer) (taken_without arrivals answer.accepted)
step_without earlier after
    (arrives (single arrival words part answer rest is_draw_lem says accepts)) =
    let step = arrives (single arrival words part answer rest is_draw_lem says accepts) in
    by_step earlier step _ step refl (sym (draws_of_draw arrival [] is_draw_lem))
step_without earlier after (delivers step) =
    by_step earlier (delivers step) after (delivers step) refl refl
step_without earlier after (refuses step) = refused_without step
  where
    refused_without : (refused : Refuses _ after) → StepWithout earlier (refuses refused)
    refused_without refused =
        by_none earlier (refuses refused) (sym (refused_same _ after refused)) (no_draws refused)

-- ---- Every history

record Without {settings : Settings} {state : State} (history : Reachable settings state)
    : Type 0 where
  other : Reachable settings state
  same_start : held_at_start other ≡ held_at_start history
  accepts_draws : accepted_in other ≡ draws_of (accepted_in history)

without : {settings : Settings} (state : State) (history : Reachable settings state)
    → Without history
without state
    (started site_memory site_count site_part sites memory count part coordinator
    sites-say sites_accepted coordinator-says coordinator_accepted) =
    record {
      other =
          started site_memory site_count site_part sites memory count part coordinator
          sites-say sites_accepted coordinator-says coordinator_accepted;
      same_start = refl;
      accepts_draws = refl;
    }
without state (stepped before after earlier step) =
    let front = without before earlier in
    let next = step_without front.other after step in
    record {
      other = next.on;
      same_start = next.same_start ∙ front.same_start;
      accepts_draws =
          next.accepts_draws
          ∙ ap (λ (xs : List Arrival). xs ++ draws_of (accepted_by step)) front.accepts_draws
          ∙ sym (draws_of_append (accepted_in earlier) (accepted_by step));
    }
-- A closing stands in both histories.
without {settings} state
    (reopened before site_count coordinator_count bytes written saved site_memory memory site_after
    after loaded earlier save_says save_accepted load_says load-accepted) =
    let front = without before earlier in
    record {
      other =
          reopened before site_count coordinator_count bytes written saved site_memory memory
          site_after after loaded front.other save_says save_accepted load_says load-accepted;
      same_start =
          ap (λ (start : Held). carried_to settings start site_memory memory) front.same_start;
      accepts_draws = front.accepts_draws;
    }

-- The claim.
pub left_out : (settings : Settings) (state : State)
    → settings_refusal settings ≡ no_refusal
    → (history : Reachable settings state)
    → LeftOut settings history
left_out settings state passes history =
    let found = without state history in
    record {
      draws_are = draws_in state history;
      without = found.other;
      same_start = found.same_start;
      accepts_draws = found.accepts_draws;
    }
