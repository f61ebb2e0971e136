-- Request N1's second instance as a history of calls: twelve draws under settings A in one batch,
-- after which the record of deck 0 says that one draw is forgotten. The theorem `dropped-history`
-- of proofs/DroppedHistory.antt proves it.
--
--   after_twelve       the state that the batch leaves
--   DroppedHistory     what holds there
use Rattle.std.specs.Prelude.{◌≡◌, List, [], ◌∷◌, ◌++◌, ℕ, length, replicate}
use Rattle.model.specs.declared.Message.{Message}
use Rattle.model.specs.declared.Phase.TheVariants.{Idle}
use Rattle.model.specs.Messages.{count_report, poll, poll_answer, announcement}
use Rattle.model.specs.Network.{site_at}
use Rattle.forgotten.specs.Departures.{departures, Accounted}
use Rattle.model.specs.Instances.{settings_a}
use Rattle.forgotten.specs.DroppedInstances.{left, twelve_draws}
use Rattle.history.specs.State.{State, network_of, record_at}
use Rattle.history.specs.Histories.{Reachable}
use Rattle.history_examples.specs.OneBatch.{batched_state}
use Rattle.history_examples.specs.Example.{value_counts, reports, all_messages}
use Rattle.history_examples.specs.FirmInstances.{halved_at}

-- A close that has the class halved down to 3: all draws so far are at or below it, none below it.
abbrev pub halved_to3 : ℕ → List Message
halved_to3 count =
    halved_at 511 count ++ (halved_at 255 count ++ (halved_at 127 count ++ (halved_at 63 count
    ++ (halved_at 31 count ++ (halved_at 15 count ++ (halved_at 7 count ++ (halved_at 3 count
    ++ (halved_at 1 0 ++ halved_at 2 0))))))))

abbrev pub closing : ℕ → ℕ → List Message
closing threshold base =
    (poll 0 ∷ (poll_answer 0 0 ∷ []))
    ++ (halved_to3 base ++ (announcement 0 threshold base ∷ []))

-- Five draws at threshold 1, the sixth, which closes with threshold 2, and the eighth and the
-- tenth, which report the count alone.
abbrev pub twelve_messages : List Message
twelve_messages =
    all_messages 1 ++ (all_messages 2 ++ (all_messages 3 ++ (all_messages 4 ++ (all_messages 5
    ++ ((reports ++ closing 2 6)
    ++ ((count_report 0 2 0 ∷ closing 2 8) ++ (count_report 0 2 0 ∷ closing 3 10)))))))

-- What records and memory hold then: code 5 in the second slot, which was that of code 0. Of the
-- six draws of code 7 the coordinator has heard; two are pending.
abbrev pub after_twelve : State
after_twelve =
    batched_state (record { arrivals = 12; pending = 2; threshold = 3; used = 6; dropped = 1 })
    (record {
      total = 10;
      base = 10;
      threshold = 3;
      signals = 0;
      quantile = 3;
      phase = Idle;
    })
    ((7 ∷ (6 ∷ (0 ∷ (6 ∷ (5 ∷ (2 ∷ (1 ∷ (0 ∷ (1 ∷ (1 ∷ (0 ∷ (0 ∷ []))))))))))))
    ++ ((2 ∷ (1 ∷ (0 ∷ (0 ∷ (3 ∷ (1 ∷ (0 ∷ (0 ∷ (4 ∷ (1 ∷ (0 ∷ (0 ∷ []))))))))))))
    ++ value_counts 12))
    (replicate 7 0 ++ (6 ∷ (0 ∷ (0 ∷ value_counts 6))))
    twelve_draws twelve_messages

pub record DroppedHistory : Type 0 where
  pub twelve_reached : Reachable settings_a after_twelve
  pub many_messages : length after_twelve.messages ≡ 98
  pub one_forgotten : (record_at after_twelve.held 0).dropped ≡ 1
  pub who_left : departures settings_a twelve_draws ≡ left 0 1 ∷ []
  -- by the theorem over every history
  pub accounted_there : Accounted 0 twelve_draws (departures settings_a twelve_draws)
      after_twelve.messages (site_at (network_of settings_a after_twelve.held) 0)
