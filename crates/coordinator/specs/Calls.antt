-- What the calls on the coordinator promise: the refusal, and what is handed back and written where
-- they accept and where they refuse. A refused call leaves record and memory as they were, hands
-- back no message, and 0 for their number; what a refused start comes to has a fresh record.
--
--   start_refusal, receive_refusal, announce_refusal  the chains of tests
--   CoordinatorStart, coordinator_start               what a start comes to, from its answer
--   Reception, reception                              what the other calls come to, from theirs
--   StartCoordinatorSays, CoordinatorReceiveSays, AnnounceSays                      the promises
use Rattle.std.specs.Prelude.{◌≡◌, Bool, List, ℕ, Result, Ok, Err, ltb, length, get_or, if◌then◌else◌}
use Rattle.model.specs.declared.Settings.{Settings}
use Rattle.model.specs.declared.Message.{Message}
use Rattle.model.specs.declared.CoordinatorRecord.{CoordinatorRecord}
use Rattle.model.specs.Choice.{is_zero}
use Rattle.model.specs.declared.Refusal.{Refusal}
use Rattle.model.specs.Refusals.{when, ◌or_else◌, no_refusal, memory_too_short, number_of}
use Rattle.model.specs.Settings.{settings_refusal}
use Rattle.model.specs.Messages.{no_message}
use Rattle.model.specs.Coordinator.{CoordinatorStep, fresh_coordinator, coordinator_receives, coordinator_refusal, announced, announcement_refusal}
use Rattle.model.specs.CoordinatorMemory.{coordinator_in, coordinator_record, coordinator_memory, coordinator_words, coordinator_memory_refusal}
use Rattle.coordinator_kinds.specs.declared.Answered.{Answered}

-- ---- Start

-- 1, 2, 3, 4, with memory of so many numbers.
abbrev pub start_refusal : Settings → ℕ → ℕ
start_refusal settings words =
    settings_refusal settings
    or_else when (ltb words (coordinator_words settings)) memory_too_short
    or_else no_refusal

-- What a start comes to: the refusal, or 0, and a fresh record, also where the start is refused.
pub record CoordinatorStart : Type 0 where
  pub refusal : ℕ
  pub coordinator : CoordinatorRecord

abbrev pub coordinator_start : Settings → Result CoordinatorRecord Refusal → CoordinatorStart
coordinator_start settings (Ok coordinator) = record {
  refusal = no_refusal;
  coordinator = coordinator;
}
coordinator_start settings (Err refusal) = record {
  refusal = number_of refusal;
  coordinator = coordinator_record (fresh_coordinator settings);
}

-- "Started fresh, every number is 0, every threshold 1 and the desk idle"; what lies past the
-- coordinator's numbers stays.
pub record StartCoordinatorSays (settings : Settings) (before after : List ℕ)
    (r : CoordinatorStart)
    : Type 0 where
  pub refusal : r.refusal ≡ start_refusal settings (length before)
  pub coordinator : r.coordinator ≡ coordinator_record (fresh_coordinator settings)
  pub memory :
      after
      ≡ (if is_zero (start_refusal settings (length before))
      then coordinator_memory (fresh_coordinator settings) before
      else before)

-- ---- Answers of a step

-- What a message, or the wish for the next kind 7, comes to: the refusal, or 0; the record, the
-- number of messages that go out, and the message. Refused, the record is as it was.
pub record Reception : Type 0 where
  pub refusal : ℕ
  pub coordinator : CoordinatorRecord
  pub count : ℕ
  pub out : Message

abbrev pub reception : CoordinatorRecord → Result Answered Refusal → Reception
reception numbers (Ok answered) = record {
  refusal = no_refusal;
  coordinator = answered.coordinator;
  count = answered.count;
  out = answered.out;
}
reception numbers (Err refusal) = record {
  refusal = number_of refusal;
  coordinator = numbers;
  count = 0;
  out = no_message;
}

-- What a call hands back that answers with a step of the coordinator where it accepts.
pub record ReceivedSays (accepts : Bool) (given : CoordinatorStep) (numbers : CoordinatorRecord)
    (r : Reception)
    : Type 0 where
  pub coordinator :
      r.coordinator ≡ (if accepts then coordinator_record given.coordinator else numbers)
  pub count : r.count ≡ (if accepts then length given.messages else 0)
  pub out : r.out ≡ (if accepts then get_or given.messages 0 no_message else no_message)

-- ---- A message

-- 1, 2, 3; 4, 11; then 5, 9, 6, 7, 10.
abbrev pub receive_refusal : Settings → CoordinatorRecord → Message → List ℕ → ℕ
receive_refusal settings numbers m memory =
    coordinator_memory_refusal settings numbers memory
    or_else coordinator_refusal settings (coordinator_in settings numbers memory) m

pub record CoordinatorReceiveSays (settings : Settings) (numbers : CoordinatorRecord) (m : Message)
    (before after : List ℕ) (r : Reception) : Type 0 where
  pub refusal : r.refusal ≡ receive_refusal settings numbers m before
  pub answer : ReceivedSays (is_zero (receive_refusal settings numbers m before))
      (coordinator_receives settings (coordinator_in settings numbers before) m) numbers r
  pub memory :
      after
      ≡ (if is_zero (receive_refusal settings numbers m before)
      then coordinator_memory
      (coordinator_receives settings (coordinator_in settings numbers before) m).coordinator before
      else before)

-- ---- The next kind 7

-- 1, 2, 3; 4, 11; then 9 unless the coordinator is announcing.
abbrev pub announce_refusal : Settings → CoordinatorRecord → List ℕ → ℕ
announce_refusal settings numbers memory =
    coordinator_memory_refusal settings numbers memory
    or_else announcement_refusal (coordinator_in settings numbers memory)

pub record AnnounceSays (settings : Settings) (numbers : CoordinatorRecord) (memory : List ℕ)
    (r : Reception)
    : Type 0 where
  pub refusal : r.refusal ≡ announce_refusal settings numbers memory
  pub answer : ReceivedSays (is_zero (announce_refusal settings numbers memory))
      (announced settings (coordinator_in settings numbers memory)) numbers r
