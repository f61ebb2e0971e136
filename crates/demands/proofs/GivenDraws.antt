-- The rules over all draws that were given come to the same as over those accepted, since a refused
-- draw leaves no trace.
--
--   step_given       a step with the draws that it was given
--   as_given         the claim of every history
use Rattle.std.specs.Prelude.{if◌then◌else◌}
use mathlib.Core.Path.{◌≡◌, refl, sym, ap, ◌∙◌, subst}
use mathlib.Core.Bool.{Bool, true, false, ◌&&◌, ◌||◌}
use mathlib.Core.List.{List, [], ◌∷◌}
use Prim.Native.Nat.{ℕ, suc}
use lib.Dec.{eqb, ltb, leb}
use lib.ListN.{take}
use borrow.Author.Tests.{eqb-true, ltb-true}
use Rattle.laws.proofs.Tests.{both_true}
use Rattle.model.specs.declared.Settings.{Settings}
use Rattle.model.specs.declared.Arrival.{Arrival}
use Rattle.model.specs.Choice.{is_zero}
use Rattle.model.specs.Refusals.{no_refusal}
use Rattle.model.specs.Settings.{settings_refusal}
use Rattle.model.specs.Draws.{is_draw, draws_of}
use Rattle.model.specs.Runs.{Run, run_from, run_of}
use Rattle.model.proofs.Runs.RunLaws.{run_from_append, run_from_draws}
use Rattle.site.specs.Calls.{Observation, ObserveSays}
use Rattle.tracker.specs.Batch.{BatchHeld, BatchSays}
use Rattle.history.specs.State.{Held, State, record_at, part_of, site_start, Slices, fronts, lending}
use Rattle.history.specs.Steps.{batch_call, batch, single, to_coordinator_lem, to_site, next_announcement, Refuses, arrival_left, site_message_refused, coordinator_message_refused, announcement_refused, batch_takes_none, Step, arrives, delivers, refuses}
use Rattle.history.specs.Histories.{Reachable, started, stepped, reopened}
use Rattle.history.proofs.Invariant.{StateOk, run_of_standing}
use Rattle.history.proofs.Refused.{refused_same}
use Rattle.history.proofs.Arisen.{arisen}
use Rattle.demands.specs.Given.{of_arrival, decided_count, Handed, no_draw, draw_handed, batch_handed, same_settings, own_draw, own_batch, handed_refused, given_by, given_in, AsGiven}
use Rattle.demands.proofs.RefusedDraws.{touch_no_trace, draw_no_trace, batch_no_trace, touches_no_trace, refused_batch_no_trace}

-- ---- The same settings

-- Six numbers that are the same, from the last one on.
settings_same : (one other : Settings) → same_settings one other ≡ true → one ≡ other
settings_same one other same =
    let sites = eqb one.sites other.sites in
    let epsilon = eqb one.epsilon other.epsilon in
    let phi = eqb one.phi other.phi in
    let rank = eqb one.rank other.rank in
    let capacity = eqb one.capacity other.capacity in
    let all-six = both_true (sites && epsilon && phi && rank && capacity)
    (eqb one.universe other.universe) same in
    let five = both_true (sites && epsilon && phi && rank) capacity all-six.first_true in
    let four = both_true (sites && epsilon && phi) rank five.first_true in
    let three = both_true (sites && epsilon) phi four.first_true in
    let two = both_true sites epsilon three.first_true in
    λ i. record {
      sites = eqb-true one.sites other.sites two.first_true i;
      epsilon = eqb-true one.epsilon other.epsilon two.second_true i;
      phi = eqb-true one.phi other.phi three.second_true i;
      rank = eqb-true one.rank other.rank four.second_true i;
      capacity = eqb-true one.capacity other.capacity five.second_true i;
      universe = eqb-true one.universe other.universe all-six.second_true i;
    }

-- ---- Choices

module _ (settings : Settings) (run : Run) where
  -- A call that is none of the list is handed no draw.
  own_given : (own : Bool) (handed : Handed)
      → (own ≡ true → run_from settings run (take handed.count handed.arrivals) ≡ run)
      → run_from settings run
      (take (if own then handed else no_draw).count (if own then handed else no_draw).arrivals)
      ≡ run
  own_given true handed there = there refl
  own_given false handed there = refl

  -- One arrival more, where it leaves no trace.
  one_more : (of : Bool) (m : ℕ) (arrivals : List Arrival)
      → (of ≡ true
      → run_from settings run (take (suc m) arrivals) ≡ run_from settings run (take m arrivals))
      → run_from settings run (take (if of then suc m else m) arrivals)
      ≡ run_from settings run (take m arrivals)
  one_more true m arrivals there = there refl
  one_more false m arrivals there = refl

-- ---- Each call

module _ {settings : Settings} (passes : settings_refusal settings ≡ no_refusal)
    {n : ℕ} (before : State)
    (ok : StateOk settings n before) where
  abbrev held : Held
  held = before.held

  abbrev run : Run
  run = run_of settings before.accepted

  -- A refused draw, if it is one of the list.
  refused_draw_given : (given : Settings) (which : ℕ) (arrival : Arrival) (start words : ℕ)
      (part : List ℕ) (answer : Observation)
      → ObserveSays given (record_at held which) arrival (part_of held start words) part answer
      → own_draw settings given which arrival start ≡ true
      → of_arrival answer.refusal ≡ true
      → run_from settings run (arrival ∷ []) ≡ run
  refused_draw_given given which arrival start words part answer says own of =
      let names = eqb which arrival.site || leb settings.sites arrival.site in
      let known = ltb which settings.sites in
      let same = same_settings given settings in
      let place = both_true (same && known && names) (eqb start (site_start settings which)) own in
      let named = both_true (same && known) names place.first_true in
      let two = both_true same known named.first_true in
      draw_no_trace passes before ok which arrival words part answer
      (ltb-true which settings.sites two.second_true) named.second_true
      (subst (λ (from : ℕ).
      ObserveSays settings (record_at held which) arrival (part_of held from words) part answer)
      (eqb-true start (site_start settings which) place.second_true)
      (subst (λ (theirs : Settings).
      ObserveSays theirs (record_at held which) arrival (part_of held start words) part answer)
      (settings_same given settings two.first_true) says))
      of

  -- The same, or a touch.
  draw_given : (given : Settings) (which : ℕ) (arrival : Arrival) (start words : ℕ)
      (part : List ℕ) (answer : Observation)
      → ObserveSays given (record_at held which) arrival (part_of held start words) part answer
      → (answer.refusal ≡ no_refusal → is_draw arrival ≡ false)
      → own_draw settings given which arrival start ≡ true
      → (is_zero answer.refusal || of_arrival answer.refusal) ≡ true
      → run_from settings run (arrival ∷ []) ≡ run
  draw_given given which arrival start words part answer says touches own decided =
      by_test (is_zero answer.refusal) refl decided
    where
      by_test : (none : Bool) → is_zero answer.refusal ≡ none
          → (none || of_arrival answer.refusal) ≡ true
          → run_from settings run (arrival ∷ []) ≡ run
      by_test true none of =
          touch_no_trace passes before ok arrival (touches (eqb-true answer.refusal 0 none))
      by_test false some of =
          refused_draw_given given which arrival start words part answer says own of

  -- A batch call that accepts no draw, if it is one of the list.
  refused_batch_given : (given : Settings) (slices : Slices) (arrivals : List Arrival)
      (log : List ℕ) (answer : BatchHeld)
      → BatchSays (batch_call given (lending held slices) arrivals log) answer
      → draws_of (take answer.accepted arrivals) ≡ []
      → own_batch settings given slices ≡ true
      → run_from settings run (take (decided_count answer) arrivals) ≡ run
  refused_batch_given given slices arrivals log answer says nothing own =
      let same = same_settings given settings in
      let front = both_true (same && is_zero slices.site_from) (is_zero slices.coordinator_from)
      own in
      let two = both_true same (is_zero slices.site_from) front.first_true in
      let are-fronts : slices ≡ fronts slices.site_count slices.coordinator_count =
      λ i. record {
        site_from = eqb-true slices.site_from 0 two.second_true i;
        site_count = slices.site_count;
        coordinator_from = eqb-true slices.coordinator_from 0 front.second_true i;
        coordinator_count = slices.coordinator_count;
      } in
      let none : run_from settings run (take answer.accepted arrivals) ≡ run =
      touches_no_trace passes before ok (take answer.accepted arrivals) nothing in
      one_more settings run (of_arrival answer.refusal) answer.accepted arrivals
      (λ of.
      refused_batch_no_trace passes before ok slices.site_count slices.coordinator_count
      arrivals log answer
      (subst (λ (theirs : Slices).
      BatchSays (batch_call settings (lending held theirs) arrivals log) answer) are-fronts
      (subst (λ (theirs : Settings).
      BatchSays (batch_call theirs (lending held slices) arrivals log) answer)
      (settings_same given settings two.first_true) says))
      nothing of
      ∙ sym none)
      ∙ none

  refused_given : (after : State) (step : Refuses before after)
      → run_from settings run
      (take (handed_refused settings step).count (handed_refused settings step).arrivals)
      ≡ run
  refused_given after
      (arrival_left given which arrival start words part answer says touches) =
      own_given settings run (own_draw settings given which arrival start)
      (draw_handed arrival answer.refusal)
      (λ own.
      one_more settings run (is_zero answer.refusal || of_arrival answer.refusal) 0
      (arrival ∷ []) (draw_given given which arrival start words part answer says touches own))
  refused_given after (site_message_refused _ _ _ _ _ _ _ _ _) = refl
  refused_given after (coordinator_message_refused _ _ _ _ _ _ _ _) = refl
  refused_given after (announcement_refused _ _ _ _ _ _) = refl
  refused_given after (batch_takes_none given slices arrivals log answer says nothing) =
      own_given settings run (own_batch settings given slices) (batch_handed arrivals answer)
      (refused_batch_given given slices arrivals log answer says nothing)

  -- The rules over what the step was given come to what they say of the arrivals accepted then.
  pub step_given : (after : State) (step : Step settings before after)
      → run_from settings run (given_by step) ≡ run_of settings after.accepted
  step_given after
      (arrives (batch site_count coordinator_count arrivals log answer rest says)) =
      one_more settings run (of_arrival answer.refusal) answer.accepted arrivals
      (batch_no_trace passes before ok site_count coordinator_count arrivals log answer rest
      says)
      ∙ sym (run_from_draws settings run (take answer.accepted arrivals))
      ∙ sym (run_from_append settings _ before.accepted
      (draws_of (take answer.accepted arrivals)))
  step_given after (arrives (single arrival words part answer rest is_draw_lem says accepts)) =
      sym (run_from_append settings _ before.accepted (arrival ∷ []))
  step_given after (delivers (to_coordinator_lem _ _ _ _ _ _ _ _ _)) = refl
  step_given after (delivers (to_site _ _ _ _ _ _ _ _)) = refl
  step_given after (delivers (next_announcement _ _ _ _)) = refl
  step_given after (refuses step) =
      refused_given after step
      ∙ ap (λ (state : State). run_of settings state.accepted)
      (sym (refused_same before after step))

-- ---- Every history

module _ {settings : Settings} (passes : settings_refusal settings ≡ no_refusal) where
  -- The rules over what was given, and over what was accepted.
  same_run : (state : State) (history : Reachable settings state)
      → run_of settings (given_in history) ≡ run_of settings state.accepted
  same_run state (started _ _ _ _ _ _ _ _ _ _ _ _) = refl
  same_run state (stepped before after earlier step) =
      run_from_append settings _ (given_in earlier) (given_by step)
      ∙ ap (λ (run : Run). run_from settings run (given_by step)) (same_run before earlier)
      ∙ step_given passes before (arisen passes before earlier).ok after step
  same_run state (reopened before _ _ _ _ _ _ _ _ _ _ earlier _ _ _ _) = same_run before earlier

  -- The claim.
  pub as_given : (state : State) (history : Reachable settings state)
      → AsGiven settings (given_in history) state
  as_given state history =
      let same = same_run state history in
      record {
        accepted_are =
            ap (λ (run : Run). run.accepted) same
            ∙ (run_of_standing passes (arisen passes state history).ok.standing).accepted_are;
        run_is = same;
      }
