-- The history of specs/Example.antt, from its calls (Example.antt): the draws given in it, those
-- kept out, and what the reading calls then answer.
--
--   example                          the last state is reachable
--   example_given, example_kept_out  its draws
--   example_accepted, example_without    the lines that its calls accepted, and without touches
--   example_list, example_quantile   a reading
use Rattle.std.specs.Prelude.{Some}
use mathlib.Core.Path.{◌≡◌, refl, ap, ◌∙◌}
use mathlib.Core.List.{[], ◌∷◌}
use Rattle.model.specs.Limits.{value_count}
use Rattle.model.specs.Draws.{draws_of}
use Rattle.model.specs.Instances.{settings_a, arrival_with, draw}
use Rattle.model.specs.TouchInstances.{touch}
use Rattle.coordinator_reading.specs.Promises.{QuantileSays}
use Rattle.coordinator_list.specs.Promises.{ListSays}
use Rattle.history.specs.State.{State, coordinator_part}
use Rattle.history.specs.Steps.{Step, arrives, delivers, refuses}
use Rattle.history.specs.Histories.{Reachable, stepped}
use Rattle.demands.specs.Given.{given_in, kept_out_in}
use Rattle.demands.specs.Touches.{accepted_in}
use Rattle.history_examples.specs.Example.{started_state, after_draw, after_item_report, after_count_report, after_poll, after_poll_answer, after_announcement, at_rest_again, after_batch_of_two}
use Rattle.demands.proofs.LeftOut.{left_out}
use Rattle.history_examples.proofs.Example.{begins, draw_refused, draw_accepted, item_report_lem, message_refused, slice_refused, draw_refused_underway, touch_underway, count_report_lem, polled, poll_answered, announced, told, touches_alone, batch_stopped}

-- ---- The whole history

-- One call more.
abbrev then : {before : State} (after : State)
    → Step settings_a before after
    → Reachable settings_a before
    → Reachable settings_a after
then {before} after step earlier = stepped before after earlier step

-- Fourteen calls after the two starts.
pub example : Reachable settings_a after_batch_of_two
example =
    then after_batch_of_two (arrives batch_stopped)
    (then at_rest_again (refuses touches_alone)
    (then at_rest_again (delivers told)
    (then after_announcement (delivers announced)
    (then after_poll_answer (delivers poll_answered)
    (then after_poll (delivers polled)
    (then after_count_report (delivers count_report_lem)
    (then after_item_report (refuses touch_underway)
    (then after_item_report (refuses draw_refused_underway)
    (then after_item_report (refuses slice_refused)
    (then after_item_report (refuses message_refused)
    (then after_item_report (delivers item_report_lem)
    (then after_draw (arrives draw_accepted)
    (then started_state (refuses draw_refused) begins)))))))))))))

-- ---- Its draws

-- Item 10 and site 1 are none: 6 and 5. Of the last batch 14 stopped the second draw.
pub example_given : given_in example
    ≡ arrival_with 0 10 3
    ∷ (draw ∷ (arrival_with 1 7 3 ∷ (touch ∷ (touch ∷ (touch ∷ (draw ∷ (touch ∷ [])))))))
unfolding example begins draw_refused draw_accepted message_refused slice_refused
    draw_refused_underway touch_underway touches_alone batch_stopped
example_given = refl

-- Which no rule was asked about.
pub example_kept_out : kept_out_in example ≡ draw ∷ []
unfolding example begins draw_refused draw_accepted message_refused slice_refused
    draw_refused_underway touch_underway touches_alone batch_stopped
example_kept_out = refl

-- Request N2: two draws and four touches were accepted.
pub example_accepted : accepted_in example
    ≡ draw ∷ (touch ∷ (touch ∷ (touch ∷ (draw ∷ (touch ∷ [])))))
unfolding example begins draw_refused draw_accepted message_refused slice_refused
    draw_refused_underway touch_underway touches_alone batch_stopped
example_accepted = refl

-- The history that the theorem gives without them accepts the draws alone, and comes to the same
-- state.
pub example_without : accepted_in (left_out settings_a after_batch_of_two refl example).without
    ≡ draw ∷ (draw ∷ [])
example_without =
    (left_out settings_a after_batch_of_two refl example).accepts_draws
    ∙ ap draws_of example_accepted

-- ---- A reading: "listed 7", "class 3"

-- The list call on two places and the first 1034 numbers of the memory: item 7.
pub example_list : ListSays settings_a after_batch_of_two.held.coordinator
    (coordinator_part after_batch_of_two.held 0 1034) (8 ∷ (8 ∷ [])) (7 ∷ (8 ∷ []))
    (record { refusal = 0; count = 1 })
unfolding value_count
example_list = record { refusal = refl; count = refl; list = refl }

-- The quantile call on all of it: value 3.
pub example_quantile : QuantileSays settings_a after_batch_of_two.held.coordinator
    (coordinator_part after_batch_of_two.held 0 1036)
    (record { refusal = 0; quantile = Some 3 })
unfolding value_count
example_quantile = record { refusal = refl; quantile = refl }
