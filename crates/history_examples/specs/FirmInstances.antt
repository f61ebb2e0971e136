-- Request N10's instances, in one table: the history that its page names, arrivals that use more
-- than four fifths of the leeway, and what a planner reads off the firmer word. The theorem
-- `firm-instances` of proofs/FirmInstances.antt proves them all.
--
--   seven_draws, after_seven   settings A, codes 0 1 0 1 0 1 1, class 1, in one batch
--   settings400, forty_four    share 1000 with leeway 400: 0.818 of the leeway 5e is used
--   settings300                share 300 with leeway 60
use Rattle.std.specs.Prelude.{◌≡◌, List, [], ◌∷◌, ◌++◌, ℕ, ◌+◌, ◌-◌, ◌*◌, ◌≤◌, ◌<◌, replicate}
use Rattle.model.specs.declared.Settings.{Settings}
use Rattle.model.specs.declared.Arrival.{Arrival}
use Rattle.model.specs.declared.Message.{Message}
use Rattle.model.specs.declared.Phase.TheVariants.{Idle}
use Rattle.model.specs.Refusals.{no_refusal}
use Rattle.model.specs.Settings.{settings_with, settings_refusal}
use Rattle.model.specs.Messages.{item_report, count_report, poll, poll_answer, probe, probe_answer, announcement}
use Rattle.model.specs.Reading.{heavy_hitters}
use Rattle.model.specs.Claims.{counted, count_of}
use Rattle.model.specs.Instances.{settings_a, arrival_with, coordinator_after}
use Rattle.coordinator_list.specs.Promises.{ListAnswer, ListSays}
use Rattle.history.specs.State.{State, coordinator_part}
use Rattle.history.specs.Histories.{Reachable}
use Rattle.history_examples.specs.OneBatch.{batched_state}
use Rattle.demands.specs.Reading.{FirmShare}

-- ---- Seven draws under settings A

-- So many draws of a code, class 1.
abbrev pub draws_of : ℕ → ℕ → List Arrival
draws_of item n = replicate n (arrival_with 0 item 1)

-- "codes 0 1 0 1 0 1 1 (class 1)"
abbrev pub seven_draws : List Arrival
seven_draws =
    draws_of 0 1 ++ draws_of 1 1 ++ draws_of 0 1 ++ draws_of 1 1 ++ draws_of 0 1 ++ draws_of 1 2

-- The messages of a draw at threshold 1 that leaves it so.
abbrev pub messages_at : ℕ → ℕ → List Message
messages_at item base =
    item_report 0 item 1 ∷ (count_report 0 1 1 ∷ (poll 0 ∷ (poll_answer 0 0
    ∷ (announcement 0 1 base ∷ []))))

-- A site is asked how many draws are at or below a class, and answers.
abbrev pub halved_at : ℕ → ℕ → List Message
halved_at value count = probe 0 value ∷ (probe_answer 0 value count ∷ [])

-- Of the sixth draw, which has the class halved down to 1 and announces threshold 2.
abbrev pub sixth_messages : List Message
sixth_messages =
    (item_report 0 1 1 ∷ (count_report 0 1 1 ∷ (poll 0 ∷ (poll_answer 0 0 ∷ []))))
    ++ (halved_at 511 6 ++ (halved_at 255 6 ++
    (halved_at 127 6 ++ (halved_at 63 6 ++ (halved_at 31 6
    ++ (halved_at 15 6 ++ (halved_at 7 6 ++ (halved_at 3 6 ++ (halved_at 1 6 ++ (halved_at 0 0
    ++ (announcement 0 2 6 ∷ [])))))))))))

-- Of all; the seventh sends none.
abbrev pub seven_messages : List Message
seven_messages =
    messages_at 0 1 ++ (messages_at 1 2 ++ (messages_at 0 3 ++ (messages_at 1 4
    ++ (messages_at 0 5 ++ sixth_messages))))

-- 1024 value counts: so many of value 1, of the others none.
abbrev pub ones_only : ℕ → List ℕ
ones_only ones = 0 ∷ (ones ∷ replicate 1022 0)

-- What records and memory hold then: the seventh draw is pending, and unreported of code 1.
abbrev pub after_seven : State
after_seven =
    batched_state (record { arrivals = 7; pending = 1; threshold = 2; used = 2; dropped = 0 })
    (record {
      total = 6;
      base = 6;
      threshold = 2;
      signals = 0;
      quantile = 1;
      phase = Idle;
    })
    ((0 ∷ (3 ∷ (0 ∷ (3 ∷ (1 ∷ (4 ∷ (0 ∷ (3 ∷ [])))))))) ++ (replicate 16 0 ++ ones_only 7))
    (3 ∷ (3 ∷ (replicate 8 0 ++ ones_only 6)))
    seven_draws seven_messages

-- The list call on three places: it writes codes 0 and 1.
abbrev pub three_before : List ℕ
three_before = 8 ∷ (8 ∷ (8 ∷ []))

abbrev pub three_after : List ℕ
three_after = 0 ∷ (1 ∷ (8 ∷ []))

abbrev pub answer_of_two : ListAnswer
answer_of_two = record { refusal = 0; count = 2 }

-- ---- Forty-four draws that use the leeway

-- "1;400;1000;500;15;10": share 1000 with leeway 400.
abbrev pub settings400 : Settings
settings400 = settings_with 1 400 1000 500 15 10

-- 32 draws of code 0, and then 12 of code 1: of the last four the coordinator has not heard.
abbrev pub forty_four : List Arrival
forty_four = draws_of 0 32 ++ draws_of 1 12

-- "4;60;300;500;100;100": share 300 with leeway 60.
abbrev pub settings300 : Settings
settings300 = settings_with 4 60 300 500 100 100

-- ---- The table

pub record FirmInstances : Type 0 where
  -- "A, codes 0 1 0 1 0 1 1 (class 1)": a batch call comes there from a fresh start
  pub seven_reached : Reachable settings_a after_seven
  -- "total 6, codes 0 and 1 listed": what the list call then answers
  pub total_6 : after_seven.held.coordinator.total ≡ 6
  pub two_listed : ListSays settings_a after_seven.held.coordinator
      (coordinator_part after_seven.held 0 1034) three_before three_after answer_of_two
  -- "code 0: 6000 × 3 ≥ 1000 × 7"
  pub three_of_code_0 : count_of 0 seven_draws ≡ 3
  pub seven_in_all : counted seven_draws ≡ 7
  pub firm_0 : FirmShare settings_a 0 seven_draws
  pub firm_1 : FirmShare settings_a 1 seven_draws
  -- code 0 is listed with 32 of 44 draws: 6000 × 32 + 5 × 400 × 44 ≥ 6 × 1000 × 44
  pub one_listed : heavy_hitters settings400 (coordinator_after settings400 forty_four) ≡ 0 ∷ []
  pub thirty_two : count_of 0 forty_four ≡ 32
  pub forty_four_lem : counted forty_four ≡ 44
  pub firm_32 : FirmShare settings400 0 forty_four
  -- and 4e in the place of 5e would not do
  pub not_four : 6000 * count_of 0 forty_four + 4 * settings400.epsilon * counted forty_four
      < 6 * settings400.phi * counted forty_four
  -- demand 2's "none below p - e" follows
  pub within_leeway : (settings : Settings) (item : ℕ) (arrivals : List Arrival)
      → settings_refusal settings ≡ no_refusal
      → FirmShare settings item arrivals
      → (settings.phi - settings.epsilon) * counted arrivals ≤ 1000 * count_of item arrivals
  -- share 300 with leeway 60: a listed code has a quarter of all draws
  pub a_quarter : (item : ℕ) (arrivals : List Arrival)
      → FirmShare settings300 item arrivals
      → counted arrivals ≤ 4 * count_of item arrivals
