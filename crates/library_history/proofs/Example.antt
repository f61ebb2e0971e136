-- The chain of calls of specs/Example.antt: `example-use`.
use mathlib.Core.Path.{refl}
use mathlib.Core.List.{[], ◌∷◌, ◌++◌}
use Prim.Native.Nat.{◌≤◌}
use native.Mathlib.Omega.{arith}
use lib.ListN.{length, take, replicate}
use Rattle.model.specs.Limits.{value_count}
use Rattle.model.specs.CoordinatorMemory.{coordinator_words}
use Rattle.model.specs.NetworkMemory.{sites_words}
use Rattle.model.specs.Instances.{settings_a, draw}
use Rattle.model.specs.TouchInstances.{touch}
use Rattle.tracker.specs.Batch as Batch
use Rattle.history.specs.State.{State}
use Rattle.history_examples.specs.Example as History
use Rattle.history_examples.specs.Example.{site_numbers, all_messages, started_state, after_draw, after_item_report, after_count_report, after_poll, after_poll_answer, after_announcement, at_rest_again, after_batch_of_two}
use Rattle.library_history.specs.Bench.{changed}
use Rattle.library_history.specs.Used.{run_at_rest, Used, called}
use Rattle.library_history.specs.Example.{elsewhere, ExampleUse}
use Rattle.library_history.proofs.ExampleDraws.{settings_row, bench_in, StepTo, counts, begins, draw_refused, draw_taken, touch_left}
use Rattle.library_history.proofs.ExampleMessages.{item_report_lem, count_report_lem, poll_answered, announced, polled, told}
use Rattle.library_history.proofs.ExampleClosing.{load, closed_used, closed_same}

-- One call more.
abbrev then : {before : State} (after : State)
    → StepTo before after
    → Used settings_a (bench_in before) before
    → Used settings_a (bench_in after) after
then {before} after call earlier =
    called (bench_in before) (bench_in after) before after earlier call

-- ---- Many draws: with a log of 25 records, 14 before the second draw

run_stopped : StepTo at_rest_again after_batch_of_two
unfolding value_count
run_stopped =
    run_at_rest
    (record {
      settings = settings_row;
      draws = draw ∷ (touch ∷ (draw ∷ []));
      decks = (bench_in after_batch_of_two).decks;
      desk = (bench_in after_batch_of_two).desk;
      deck_memory = record { count = 1048; left = take 1048 (site_numbers 2) };
      desk_memory = record { count = 1035; left = take 1035 (History.coordinator_numbers 2 2) };
      log = changed (replicate 100 8) (Batch.message_numbers (all_messages 2) ++ replicate 80 8);
      counts = changed (replicate 2 8) (2 ∷ (5 ∷ []));
      answer = 14;
      says = record {
        done = record {
          refusal = 14;
          accepted = 2;
          written = 5;
          sites = after_batch_of_two.held.sites;
          coordinator = after_batch_of_two.held.coordinator;
        };
        says = record {
          refusal = refl;
          accepted = refl;
          written = refl;
          sites = refl;
          coordinator = refl;
          site_memory = refl;
          coordinator_memory = refl;
          log = refl;
        };
        hands = record { refusal = refl; decks_are = refl; desk_is = refl; counts_are = refl };
      };
    })
    (record { nothing_waits = refl; idle = refl })
    refl

-- ---- The chain

draws_on : Used settings_a (bench_in after_item_report) after_item_report
draws_on =
    then after_item_report touch_left
    (then after_item_report item_report_lem
    (then after_draw draw_taken (then started_state draw_refused begins)))

delivers_all : Used settings_a (bench_in at_rest_again) at_rest_again
delivers_all =
    then at_rest_again told
    (then after_announcement announced
    (then after_poll_answer poll_answered
    (then after_poll polled (then after_count_report count_report_lem draws_on))))

-- As much of each memory is lent as the settings need, or more.
deck_room_lem : sites_words settings_a ≤ length (take 1049 elsewhere.deck_memory)
unfolding value_count
deck_room_lem = omega arith

desk_room_lem : coordinator_words settings_a ≤ length (take 1035 elsewhere.desk_memory)
unfolding value_count
desk_room_lem = omega arith

pub example_use : ExampleUse
unfolding value_count
example_use = record {
  starts = begins;
  draws = draws_on;
  delivers = delivers_all;
  runs = then after_batch_of_two run_stopped delivers_all;
  list = record {
    settings = settings_row;
    lent = 1034;
    codes = changed (8 ∷ (8 ∷ [])) (7 ∷ (8 ∷ []));
    count = counts 1;
    answer = 0;
    says = record {
      listed = record { refusal = 0; count = 1 };
      says = record { refusal = refl; count = refl; list = refl };
      refusal = refl;
      count_is = refl;
    };
  };
  list_is = refl;
  closed = load settings_a (bench_in after_item_report) elsewhere after_item_report draws_on 1049
      1035
      deck_room_lem desk_room_lem;
  closed_used = closed_used settings_a (bench_in after_item_report) elsewhere after_item_report
      draws_on
      1049 1035 deck_room_lem desk_room_lem;
  closed_same = closed_same settings_a (bench_in after_item_report) elsewhere after_item_report
      draws_on
      1049 1035 deck_room_lem desk_room_lem;
}
