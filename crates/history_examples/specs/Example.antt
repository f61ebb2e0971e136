-- One history, state by state, in numbers: so the demands are about something. Settings A of
-- document 01's instances. Both start calls, on memory that holds other numbers and is longer than
-- asked; a draw that is refused; the draw of P2 by single calls, with two refused messages, a
-- refused draw and a touch in mid-delivery; a batch of touches alone, with no log; a batch of two
-- such draws with a touch between them, stopped by 14 before the second draw; a reading. The calls
-- are lent more or less of the memories.
--
--   started_state                          started; the refused draw leaves it so
--   after_draw                             the draw accepted: kinds 1 and 2 wait
--   after_item_report, after_count_report,  kinds 1, 2, 3 and 4 handed over; the refused calls
--   after_poll, after_poll_answer          and the touch leave after_item_report so
--   after_announcement, at_rest_again      kind 7 asked for, and handed over; the touches leave
--                                          at_rest_again so
--   after_batch_of_two                     after the batch
use Rattle.std.specs.Prelude.{List, [], ◌∷◌, ◌++◌, ℕ, zero, suc, replicate}
use Rattle.model.specs.declared.Message.{Message}
use Rattle.model.specs.declared.SiteRecord.{SiteRecord}
use Rattle.model.specs.declared.CoordinatorRecord.{CoordinatorRecord}
use Rattle.model.specs.declared.Phase.{Phase}
use Rattle.model.specs.declared.Phase.TheVariants.{Idle, Collecting, Announcing}
use Rattle.model.specs.Messages.{item_report, count_report, poll, poll_answer, announcement}
use Rattle.model.specs.Site.{fresh_site}
use Rattle.model.specs.SiteMemory.{site_record}
use Rattle.model.specs.Instances.{draw}
use Rattle.history.specs.State.{Held, State}

-- ---- Records and memory

-- The record of site 0 after so many draws of item 7: one counter, once there is a draw.
abbrev pub counters_used : ℕ → ℕ
counters_used zero = 0
counters_used (suc more) = 1

-- Every draw was reported: nothing is pending, and the threshold is 1.
abbrev pub site_after : ℕ → SiteRecord
site_after draws = record {
  arrivals = draws;
  pending = 0;
  threshold = 1;
  used = counters_used draws;
  dropped = 0;
}

-- Its memory: the counter of item 7, five unused ones, 1024 value counts; and two numbers past the
-- end that no call touches.
abbrev pub first_counter : ℕ → List ℕ
first_counter zero = 0 ∷ (0 ∷ (0 ∷ (0 ∷ [])))
first_counter (suc more) = 7 ∷ (suc more ∷ (0 ∷ (suc more ∷ [])))

-- So many of value 3, of the others none.
abbrev pub value_counts : ℕ → List ℕ
value_counts threes = 0 ∷ (0 ∷ (0 ∷ (threes ∷ replicate 1020 0)))

-- After so many draws.
abbrev pub site_numbers : ℕ → List ℕ
site_numbers draws =
    first_counter draws ++ (replicate 20 0 ++ (value_counts draws ++ (5 ∷ (5 ∷ []))))

-- The coordinator's record: its threshold is 1, and no halving has set a quantile.
abbrev pub coordinator_with : ℕ → ℕ → ℕ → Phase → CoordinatorRecord
coordinator_with total base signals phase = record {
  total = total;
  base = base;
  threshold = 1;
  signals = signals;
  quantile = 0;
  phase = phase;
}

-- Its memory: the estimates of ten items, 1024 value counts, and two numbers past the end.
abbrev pub coordinator_numbers : ℕ → ℕ → List ℕ
coordinator_numbers sevens threes =
    replicate 7 0 ++ (sevens ∷ (0 ∷ (0 ∷ (value_counts threes ++ (9 ∷ (9 ∷ []))))))

-- All of it: so many draws, so many messages counted for site 0, and the coordinator.
abbrev pub held_with : ℕ → ℕ → CoordinatorRecord → List ℕ → Held
held_with draws logged coordinator numbers = record {
  sites = record {
    records = site_after draws ∷ replicate 31 (site_record fresh_site);
    messages = logged ∷ replicate 31 0;
  };
  coordinator = coordinator;
  site_memory = site_numbers draws;
  coordinator_memory = numbers;
}

-- ---- Messages

-- "1 0 7 1", "2 0 1 3", "3 0 0 0", "4 0 0 0", and kind 7 with the base then.
abbrev pub reports : List Message
reports = item_report 0 7 1 ∷ (count_report 0 1 3 ∷ [])

-- The five messages of one draw.
abbrev pub all_messages : ℕ → List Message
all_messages base = reports ++ (poll 0 ∷ (poll_answer 0 0 ∷ (announcement 0 1 base ∷ [])))

-- ---- The states

-- Both start calls are done.
abbrev pub started_state : State
started_state = record {
  held = held_with 0 0 (coordinator_with 0 0 0 Idle) (coordinator_numbers 0 0);
  waiting = [];
  accepted = [];
  messages = [];
  log = [];
  logged = 0;
}

-- While the draw of P2 is delivered.
abbrev pub delivering : CoordinatorRecord → List ℕ → List Message → List Message → State
delivering coordinator numbers waiting messages = record {
  held = held_with 1 0 coordinator numbers;
  waiting = waiting;
  accepted = draw ∷ [];
  messages = messages;
  log = [];
  logged = 0;
}

-- Its reports wait.
abbrev pub after_draw : State
after_draw = delivering (coordinator_with 0 0 0 Idle) (coordinator_numbers 0 0) reports reports

-- Kind 1 is handed over: item 7 has 1.
abbrev pub after_item_report : State
after_item_report =
    delivering (coordinator_with 0 0 0 Idle) (coordinator_numbers 1 0) (count_report 0 1 3 ∷ [])
    reports

-- Kind 2 is handed over: the round closes, and site 0 is polled.
abbrev pub after_count_report : State
after_count_report =
    delivering (coordinator_with 1 0 1 (Collecting 0)) (coordinator_numbers 1 1) (poll 0 ∷ [])
    (reports ++ (poll 0 ∷ []))

-- Kind 3 is handed over: its answer waits.
abbrev pub after_poll : State
after_poll =
    delivering (coordinator_with 1 0 1 (Collecting 0)) (coordinator_numbers 1 1)
    (poll_answer 0 0 ∷ []) (reports ++ (poll 0 ∷ (poll_answer 0 0 ∷ [])))

-- Kind 4 is handed over: base 1 gives threshold 1, to be announced.
abbrev pub after_poll_answer : State
after_poll_answer =
    delivering (coordinator_with 1 1 1 (Announcing 0)) (coordinator_numbers 1 1) []
    (reports ++ (poll 0 ∷ (poll_answer 0 0 ∷ [])))

-- Kind 7 is asked for: the coordinator is idle, and the message waits.
abbrev pub after_announcement : State
after_announcement =
    delivering (coordinator_with 1 1 0 Idle) (coordinator_numbers 1 1) (announcement 0 1 1 ∷ [])
    (all_messages 1)

-- Kind 7 is handed over.
abbrev pub at_rest_again : State
at_rest_again =
    delivering (coordinator_with 1 1 0 Idle) (coordinator_numbers 1 1) [] (all_messages 1)

-- "listed 7", "class 3", "messages 10".
abbrev pub after_batch_of_two : State
after_batch_of_two = record {
  held = held_with 2 5 (coordinator_with 2 2 0 Idle) (coordinator_numbers 2 2);
  waiting = [];
  accepted = draw ∷ (draw ∷ []);
  messages = all_messages 1 ++ all_messages 2;
  log = all_messages 2;
  logged = 5;
}
