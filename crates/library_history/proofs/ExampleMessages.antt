-- Messages of specs/Example.antt, likewise: for the desk, and for deck 0.
use mathlib.Core.Path.{refl}
use mathlib.Core.List.{[], ◌∷◌}
use lib.ListN.{take}
use Rattle.model.specs.declared.Phase.TheVariants.{Idle, Collecting, Announcing}
use Rattle.model.specs.Limits.{value_count}
use Rattle.model.specs.Messages.{no_message, item_report, count_report, poll, poll_answer, announcement}
use Rattle.record_numbers.specs.Numbers.{message_numbers}
use Rattle.history_examples.specs.Example as History
use Rattle.history_examples.specs.Example.{site_after, coordinator_with, after_draw, after_item_report, after_count_report, after_poll, after_poll_answer, after_announcement, at_rest_again}
use Rattle.library_history.specs.Bench.{unchanged}
use Rattle.library_history.specs.Used.{deck_message_accepted, desk_message_accepted, announcement_accepted}
use Rattle.library_history.proofs.ExampleDraws.{settings_row, bench_in, StepTo, counts, out}

-- ---- Messages for the desk

-- What the desk answers, and the promise on it: the memory lent, and then.
pub item_report_lem : StepTo after_draw after_item_report
unfolding value_count
item_report_lem =
    desk_message_accepted
    (record {
      settings = settings_row;
      message = unchanged (message_numbers (item_report 0 7 1));
      desk = (bench_in after_item_report).desk;
      memory = record { count = 1035; left = take 1035 (History.coordinator_numbers 1 0) };
      out = out no_message;
      count = counts 0;
      answer = 0;
      says = record {
        received = record {
          refusal = 0;
          coordinator = coordinator_with 0 0 0 Idle;
          count = 0;
          out = no_message;
        };
        says = record {
          refusal = refl;
          answer = record { coordinator = refl; count = refl; out = refl };
          memory = refl;
        };
        refusal = refl;
        desk_is = refl;
        out_is = record { out_is = refl; count_is = refl };
      };
    })
    (count_report 0 1 3 ∷ []) refl refl refl

pub count_report_lem : StepTo after_item_report after_count_report
unfolding value_count
count_report_lem =
    desk_message_accepted
    (record {
      settings = settings_row;
      message = unchanged (message_numbers (count_report 0 1 3));
      desk = (bench_in after_count_report).desk;
      memory = record { count = 1036; left = History.coordinator_numbers 1 1 };
      out = out (poll 0);
      count = counts 1;
      answer = 0;
      says = record {
        received = record {
          refusal = 0;
          coordinator = coordinator_with 1 0 1 (Collecting 0);
          count = 1;
          out = poll 0;
        };
        says = record {
          refusal = refl;
          answer = record { coordinator = refl; count = refl; out = refl };
          memory = refl;
        };
        refusal = refl;
        desk_is = refl;
        out_is = record { out_is = refl; count_is = refl };
      };
    })
    [] refl refl refl

pub poll_answered : StepTo after_poll after_poll_answer
unfolding value_count
poll_answered =
    desk_message_accepted
    (record {
      settings = settings_row;
      message = unchanged (message_numbers (poll_answer 0 0));
      desk = (bench_in after_poll_answer).desk;
      memory = record { count = 1034; left = take 1034 (History.coordinator_numbers 1 1) };
      out = out no_message;
      count = counts 0;
      answer = 0;
      says = record {
        received = record {
          refusal = 0;
          coordinator = coordinator_with 1 1 1 (Announcing 0);
          count = 0;
          out = no_message;
        };
        says = record {
          refusal = refl;
          answer = record { coordinator = refl; count = refl; out = refl };
          memory = refl;
        };
        refusal = refl;
        desk_is = refl;
        out_is = record { out_is = refl; count_is = refl };
      };
    })
    [] refl refl refl

pub announced : StepTo after_poll_answer after_announcement
unfolding value_count
announced =
    announcement_accepted
    (record {
      settings = settings_row;
      desk = (bench_in after_announcement).desk;
      lent = 1035;
      out = out (announcement 0 1 1);
      answer = 0;
      says = record {
        received = record {
          refusal = 0;
          coordinator = coordinator_with 1 1 0 Idle;
          count = 1;
          out = announcement 0 1 1;
        };
        says = record {
          refusal = refl;
          answer = record { coordinator = refl; count = refl; out = refl };
        };
        refusal = refl;
        one = λ none. refl;
        desk_is = refl;
        out_is = refl;
      };
    })
    refl refl

-- ---- Messages for deck 0

pub polled : StepTo after_count_report after_poll
unfolding value_count
polled =
    deck_message_accepted
    (record {
      settings = settings_row;
      message = unchanged (message_numbers (poll 0));
      decks = (bench_in after_poll).decks;
      lent = 1048;
      reply = out (poll_answer 0 0);
      count = counts 1;
      answer = 0;
      says = record {
        stopped = λ refused. absurd (refused refl);
        replied = λ none. record {
          replied = record { refusal = 0; site = site_after 1; count = 1; reply = poll_answer 0 0 };
          says = record { refusal = refl; site = refl; count = refl; reply = refl };
          refusal = refl;
          decks_are = refl;
          reply_is = record { out_is = refl; count_is = refl };
        };
      };
    })
    [] refl refl refl

pub told : StepTo after_announcement at_rest_again
unfolding value_count
told =
    deck_message_accepted
    (record {
      settings = settings_row;
      message = unchanged (message_numbers (announcement 0 1 1));
      decks = (bench_in at_rest_again).decks;
      lent = 1048;
      reply = out no_message;
      count = counts 0;
      answer = 0;
      says = record {
        stopped = λ refused. absurd (refused refl);
        replied = λ none. record {
          replied = record { refusal = 0; site = site_after 1; count = 0; reply = no_message };
          says = record { refusal = refl; site = refl; count = refl; reply = refl };
          refusal = refl;
          decks_are = refl;
          reply_is = record { out_is = refl; count_is = refl };
        };
      };
    })
    [] refl refl refl
