-- The calls of the history in specs/Example.antt: each call's answer, in numbers, keeps the call's
-- contract, and its results are the next state. How much of the memories is lent differs from call
-- to call. The whole history is in ExampleHistory.antt.
--
--   begins                                  the two start calls
--   draw_refused, draw_accepted             single draws
--   touch_underway, touches_alone           touches, single and in a batch that has no log
--   item_report_lem, count_report_lem, polled, poll_answered, announced, told  the delivery
--   message_refused, slice_refused, draw_refused_underway                refused calls in it
--   batch_stopped                           a batch of two draws and a touch
use mathlib.Core.Path.{◌≡◌, refl}
use mathlib.Core.List.{[], ◌∷◌, ◌++◌}
use Prim.Native.Nat.{ℕ, suc}
use native.Mathlib.Omega.{arith}
use lib.ListN.{take, replicate}
use Rattle.model.specs.declared.Phase.TheVariants.{Idle, Collecting, Announcing}
use Rattle.model.specs.Limits.{value_count}
use Rattle.model.specs.Draws.{is_taken}
use Rattle.model.specs.Messages.{no_message, item_report, count_report, poll, poll_answer, announcement}
use Rattle.model.specs.NetworkMemory.{fresh_sites}
use Rattle.model.specs.Instances.{settings_a, arrival_with, draw}
use Rattle.model.specs.TouchInstances.{touch}
use Rattle.site.specs.Calls.{Observation}
use Rattle.tracker.specs.Batch.{message_numbers}
use Rattle.history.specs.Steps.{Arrives, batch, single, Delivers, to_coordinator_lem, to_site, next_announcement, Refuses, arrival_left, coordinator_message_refused, batch_takes_none}
use Rattle.history.specs.Histories.{Reachable, started}
use Rattle.history.specs.State.{fronts, lending}
use Rattle.history_examples.specs.Example.{site_after, site_numbers, coordinator_with, coordinator_numbers, all_messages, started_state, after_draw, after_item_report, after_count_report, after_poll, after_poll_answer, after_announcement, at_rest_again, after_batch_of_two}

-- A number that is no acceptance.
pub refused_number : (n : ℕ) → suc n ≡ 0 → ⊥
refused_number n impossible = omega arith

-- What a draw is answered that is refused, after so many accepted ones.
abbrev pub draw_answer : ℕ → ℕ → Observation
draw_answer refusal draws = record {
  refusal = refusal;
  site = site_after draws;
  count = 0;
  first = no_message;
  second = no_message;
}

-- ---- The two start calls, on 1049 of 1050 numbers and 1034 of 1036

unfoldable pub begins : Reachable settings_a started_state
unfolding value_count
begins =
    started (replicate 1050 5) 1049 (take 1049 (site_numbers 0))
    (record { refusal = 0; sites = fresh_sites })
    (replicate 1036 9) 1034 (take 1034 (coordinator_numbers 0 0))
    (record { refusal = 0; coordinator = coordinator_with 0 0 0 Idle })
    (record { refusal = refl; sites = refl; memory = refl }) refl
    (record { refusal = refl; coordinator = refl; memory = refl }) refl

-- ---- A refused draw: item 10 is none, 6

unfoldable pub draw_refused : Refuses started_state started_state
unfolding value_count is_taken
draw_refused =
    arrival_left settings_a 0 (arrival_with 0 10 3) 0 1050 (site_numbers 0)
    (draw_answer 6 0)
    (record {
      refusal = refl;
      site = refl;
      count = refl;
      first = refl;
      second = refl;
      memory = refl;
    })
    (λ none. absurd (refused_number 5 none))

-- ---- The draw of P2, on a part that reaches past the site's own numbers

unfoldable pub draw_accepted : Arrives settings_a started_state after_draw
unfolding value_count is_taken
draw_accepted =
    single draw 1050 (site_numbers 1)
    (record {
      refusal = 0;
      site = site_after 1;
      count = 2;
      first = item_report 0 7 1;
      second = count_report 0 1 3;
    })
    (record { nothing_waits = refl; idle = refl })
    refl
    (record {
      refusal = refl;
      site = refl;
      count = refl;
      first = refl;
      second = refl;
      memory = refl;
    })
    refl

-- ---- Its delivery, with refused calls: kind 4 is not due, 9

pub item_report_lem : Delivers settings_a after_draw after_item_report
unfolding value_count
item_report_lem =
    to_coordinator_lem (item_report 0 7 1) (count_report 0 1 3 ∷ []) 1035
    (take 1035 (coordinator_numbers 1 0))
    (record { refusal = 0; coordinator = coordinator_with 0 0 0 Idle; count = 0; out = no_message })
    refl refl
    (record {
      refusal = refl;
      answer = record { coordinator = refl; count = refl; out = refl };
      memory = refl;
    })
    refl

unfoldable pub message_refused : Refuses after_item_report after_item_report
unfolding value_count
message_refused =
    coordinator_message_refused settings_a (poll_answer 0 0) 0 1034
    (take 1034 (coordinator_numbers 1 0))
    (record { refusal = 9; coordinator = coordinator_with 0 0 0 Idle; count = 0; out = no_message })
    (record {
      refusal = refl;
      answer = record { coordinator = refl; count = refl; out = refl };
      memory = refl;
    })
    (refused_number 8)

-- The head of the queue, on forty numbers from the tenth on: 4.
unfoldable pub slice_refused : Refuses after_item_report after_item_report
unfolding value_count
slice_refused =
    coordinator_message_refused settings_a (count_report 0 1 3) 10 40 (replicate 40 0)
    (record { refusal = 4; coordinator = coordinator_with 0 0 0 Idle; count = 0; out = no_message })
    (record {
      refusal = refl;
      answer = record { coordinator = refl; count = refl; out = refl };
      memory = refl;
    })
    (refused_number 3)

-- A draw that names no site, given to site 0: 5.
unfoldable pub draw_refused_underway : Refuses after_item_report after_item_report
unfolding value_count is_taken
draw_refused_underway =
    arrival_left settings_a 0 (arrival_with 1 7 3) 0 1048 (take 1048 (site_numbers 1))
    (draw_answer 5 1)
    (record {
      refusal = refl;
      site = refl;
      count = refl;
      first = refl;
      second = refl;
      memory = refl;
    })
    (λ none. absurd (refused_number 4 none))

-- A touch, which is accepted and changes nothing.
unfoldable pub touch_underway : Refuses after_item_report after_item_report
unfolding value_count is_taken
touch_underway =
    arrival_left settings_a 0 touch 0 1048 (take 1048 (site_numbers 1))
    (draw_answer 0 1)
    (record {
      refusal = refl;
      site = refl;
      count = refl;
      first = refl;
      second = refl;
      memory = refl;
    })
    (λ _. refl)

pub count_report_lem : Delivers settings_a after_item_report after_count_report
unfolding value_count
count_report_lem =
    to_coordinator_lem (count_report 0 1 3) [] 1036 (coordinator_numbers 1 1)
    (record {
      refusal = 0;
      coordinator = coordinator_with 1 0 1 (Collecting 0);
      count = 1;
      out = poll 0;
    })
    refl refl
    (record {
      refusal = refl;
      answer = record { coordinator = refl; count = refl; out = refl };
      memory = refl;
    })
    refl

pub polled : Delivers settings_a after_count_report after_poll
unfolding value_count
polled =
    to_site (poll 0) [] 1048
    (record { refusal = 0; site = site_after 1; count = 1; reply = poll_answer 0 0 })
    refl refl
    (record { refusal = refl; site = refl; count = refl; reply = refl })
    refl

pub poll_answered : Delivers settings_a after_poll after_poll_answer
unfolding value_count
poll_answered =
    to_coordinator_lem (poll_answer 0 0) [] 1034 (take 1034 (coordinator_numbers 1 1))
    (record {
      refusal = 0;
      coordinator = coordinator_with 1 1 1 (Announcing 0);
      count = 0;
      out = no_message;
    })
    refl refl
    (record {
      refusal = refl;
      answer = record { coordinator = refl; count = refl; out = refl };
      memory = refl;
    })
    refl

pub announced : Delivers settings_a after_poll_answer after_announcement
unfolding value_count
announced =
    next_announcement 1035
    (record {
      refusal = 0;
      coordinator = coordinator_with 1 1 0 Idle;
      count = 1;
      out = announcement 0 1 1;
    })
    (record { refusal = refl; answer = record { coordinator = refl; count = refl; out = refl } })
    refl

pub told : Delivers settings_a after_announcement at_rest_again
unfolding value_count
told =
    to_site (announcement 0 1 1) [] 1048
    (record { refusal = 0; site = site_after 1; count = 0; reply = no_message })
    refl refl
    (record { refusal = refl; site = refl; count = refl; reply = refl })
    refl

-- ---- A batch of two touches, with no log

unfoldable pub touches_alone : Refuses at_rest_again at_rest_again
unfolding value_count
touches_alone =
    batch_takes_none settings_a (fronts 1050 1036) (touch ∷ (touch ∷ [])) []
    (record {
      refusal = 0;
      accepted = 2;
      written = 0;
      held = at_rest_again.held;
      log = [];
    })
    (record {
      refusal = refl;
      accepted = refl;
      written = refl;
      sites = refl;
      coordinator = refl;
      site_memory = refl;
      coordinator_memory = refl;
      log = refl;
    })
    refl

-- ---- A batch of two draws and a touch between them, with a log of 25 records: 14 before the
-- second draw

unfoldable pub batch_stopped : Arrives settings_a at_rest_again after_batch_of_two
unfolding value_count
batch_stopped =
    batch 1048 1035 (draw ∷ (touch ∷ (draw ∷ []))) (replicate 100 8)
    (record {
      refusal = 14;
      accepted = 2;
      written = 5;
      held = lending after_batch_of_two.held (fronts 1048 1035);
      log = message_numbers (all_messages 2) ++ replicate 80 8;
    })
    (record { nothing_waits = refl; idle = refl })
    (record {
      refusal = refl;
      accepted = refl;
      written = refl;
      sites = refl;
      coordinator = refl;
      site_memory = refl;
      coordinator_memory = refl;
      log = refl;
    })
