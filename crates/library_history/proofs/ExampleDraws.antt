-- Starts and draws of specs/Example.antt: each call's rows, in numbers, keep its contract, and the
-- bench after it is that of the next state of crate `history`'s example.
--
--   settings_row, bench_in, StepTo, counts, out   rows of the example, and a call of it
--   begins                                both starts
--   draw_refused, draw_taken, touch_left  draws
use mathlib.Core.Path.{refl}
use mathlib.Core.List.{[], ◌∷◌, ◌++◌}
use Prim.Native.Nat.{ℕ}
use lib.ListN.{take, replicate}
use Rattle.model.specs.declared.Message.{Message}
use Rattle.model.specs.declared.Phase.TheVariants.{Idle}
use Rattle.model.specs.Limits.{value_count}
use Rattle.model.specs.Draws.{is_taken}
use Rattle.model.specs.Messages.{item_report, count_report}
use Rattle.model.specs.NetworkMemory.{fresh_sites}
use Rattle.model.specs.Instances.{settings_a}
use Rattle.record_numbers.specs.Numbers.{settings_numbers, message_numbers}
use Rattle.history.specs.State.{State}
use Rattle.history_examples.specs.Example as History
use Rattle.history_examples.specs.Example.{site_after, site_numbers, coordinator_with, started_state, after_draw, after_item_report}
use Rattle.history_examples.proofs.Example.{refused_number, draw_answer}
use Rattle.library_rows.specs.Rows.{Row, Number}
use Rattle.library_history.specs.Bench.{Bench, changed, unchanged}
use Rattle.library_history.specs.Calls.{StartDecksCall}
use Rattle.library_history.specs.Used.{Called, draw_accepted, draw_left, Used, started}
use Rattle.library_history.specs.Example.{bench_of, elsewhere}

-- ---- Rows

abbrev pub settings_row : Row
settings_row = unchanged (settings_numbers settings_a)

abbrev pub bench_in : State → Bench
bench_in state = bench_of state.held

-- One call more, from state to state.
abbrev pub StepTo : State → State → Type 0
StepTo before after = Called settings_a (bench_in before) before (bench_in after) after

-- A count that was 9.
abbrev pub counts : ℕ → Number
counts n = record { before = 9; after = n }

-- What held eights before a message came out there.
abbrev pub out : Message → Row
out m = changed (replicate 4 8) (message_numbers m)

-- ---- The two starts

start_decks : StartDecksCall elsewhere
unfolding value_count
start_decks = record {
  settings = settings_row;
  decks = (bench_in started_state).decks;
  memory = record { count = 1049; left = take 1049 (site_numbers 0) };
  answer = 0;
  says = record {
    started = record { refusal = 0; sites = fresh_sites };
    says = record { refusal = refl; sites = refl; memory = refl };
    refusal = refl;
    decks_are = refl;
  };
}

pub begins : Used settings_a (bench_in started_state) started_state
unfolding value_count start_decks
begins =
    started elsewhere start_decks
    (record {
      settings = settings_row;
      desk = (bench_in started_state).desk;
      memory = record { count = 1034; left = take 1034 (History.coordinator_numbers 0 0) };
      answer = 0;
      says = record {
        started = record { refusal = 0; coordinator = coordinator_with 0 0 0 Idle };
        says = record { refusal = refl; coordinator = refl; memory = refl };
        refusal = refl;
        desk_is = refl;
      };
    })
    refl refl refl refl

-- ---- Draws

-- Code 10 is none, 6: all is as it was.
pub draw_refused : StepTo started_state started_state
unfolding value_count is_taken
draw_refused =
    draw_left
    (record {
      settings = settings_row;
      draw = unchanged (0 ∷ (10 ∷ (3 ∷ [])));
      decks = (bench_in started_state).decks;
      memory = record { count = 1050; left = site_numbers 0 };
      out = unchanged (replicate 8 8);
      count = counts 9;
      answer = 6;
      says = record {
        stopped = λ refused. absurd (refused refl);
        drawn = λ none. record {
          part = site_numbers 0;
          observed = draw_answer 6 0;
          says = record {
            refusal = refl;
            site = refl;
            count = refl;
            first = refl;
            second = refl;
            memory = refl;
          };
          refusal = refl;
          decks_are = refl;
          memory_is = refl;
          messages_are = record { out_is = refl; count_is = refl };
        };
      };
    })
    (λ none. absurd (refused_number 5 none))

pub draw_taken : StepTo started_state after_draw
unfolding value_count is_taken
draw_taken =
    draw_accepted
    (record {
      settings = settings_row;
      draw = unchanged (0 ∷ (7 ∷ (3 ∷ [])));
      decks = (bench_in after_draw).decks;
      memory = record { count = 1050; left = site_numbers 1 };
      out = changed (replicate 8 8)
          (message_numbers (item_report 0 7 1) ++ message_numbers (count_report 0 1 3));
      count = counts 2;
      answer = 0;
      says = record {
        stopped = λ refused. absurd (refused refl);
        drawn = λ none. record {
          part = site_numbers 1;
          observed = record {
            refusal = 0;
            site = site_after 1;
            count = 2;
            first = item_report 0 7 1;
            second = count_report 0 1 3;
          };
          says = record {
            refusal = refl;
            site = refl;
            count = refl;
            first = refl;
            second = refl;
            memory = refl;
          };
          refusal = refl;
          decks_are = refl;
          memory_is = refl;
          messages_are = record { out_is = refl; count_is = refl };
        };
      };
    })
    (record { nothing_waits = refl; idle = refl })
    refl refl refl

-- A touch in mid-delivery: accepted, and all is as it was.
pub touch_left : StepTo after_item_report after_item_report
unfolding value_count is_taken
touch_left =
    draw_left
    (record {
      settings = settings_row;
      draw = unchanged (0 ∷ (7 ∷ (0 ∷ [])));
      decks = (bench_in after_item_report).decks;
      memory = record { count = 1048; left = take 1048 (site_numbers 1) };
      out = changed (replicate 8 8) (replicate 8 0);
      count = counts 0;
      answer = 0;
      says = record {
        stopped = λ refused. absurd (refused refl);
        drawn = λ none. record {
          part = take 1048 (site_numbers 1);
          observed = draw_answer 0 1;
          says = record {
            refusal = refl;
            site = refl;
            count = refl;
            first = refl;
            second = refl;
            memory = refl;
          };
          refusal = refl;
          decks_are = refl;
          memory_is = refl;
          messages_are = record { out_is = refl; count_is = refl };
        };
      };
    })
    (λ none. refl)
