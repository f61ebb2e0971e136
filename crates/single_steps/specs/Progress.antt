-- A delivery in progress, as code carries it, and the state of a history that it stands for.
--
--   ProgressOutcome, progress_outcome   a delivery in progress with the number of what stopped it
--   queued queue                   the messages that wait, in order; never more than two
--   QueueSays                      the messages of an arrival's answer wait
--   carried_limit                  what the count of messages stays below
--   sent count progress m          a message waits last and is counted, if the count is not 0
--   refused_with progress refusal  the progress with the refusal of a call
--   is_due                         whether the next call is due
--   Stands past state progress ..  the state of a history that records, queue and memory are
use Rattle.std.specs.Prelude.{◌≡◌, Bool, not, ◌&&◌, ◌||◌, List, [], ◌∷◌, ℕ, ◌+◌, ◌≤◌, length, take, if◌then◌else◌}
use Rattle.model.specs.declared.Message.{Message}
use Rattle.model.specs.declared.Sites.{Sites}
use Rattle.model.specs.declared.CoordinatorRecord.{CoordinatorRecord}
use Rattle.model.specs.Choice.{is_zero}
use Rattle.model.specs.Coordinator.{is_announcing}
use Rattle.tracker_queue.specs.declared.Queue.{Queue}
use Rattle.tracker_queue.specs.Sending.{joined}
use Rattle.tracker_delivery.specs.Stops.{stop_number}
use Rattle.history.specs.State.{State, held_by}
use Rattle.single_steps.specs.declared.Progress.{Progress}

-- ---- A delivery in progress

-- Both records, the messages that wait, how many went out so far, the refusal of the last call or
-- 0, and how many calls may still be made.
pub record ProgressOutcome : Type 0 where
  pub sites : Sites
  pub coordinator : CoordinatorRecord
  pub waiting : Queue
  pub carried : ℕ
  pub refusal : ℕ
  pub left : ℕ

-- What the code carries, with the number of what stopped it.
abbrev pub progress_outcome : Progress → ProgressOutcome
progress_outcome progress = record {
  sites = progress.sites;
  coordinator = progress.coordinator;
  waiting = progress.waiting;
  carried = progress.carried;
  refusal = stop_number progress.refusal;
  left = progress.left;
}

-- ---- The messages that wait

abbrev pub queued : Queue → List Message
queued queue = take queue.count (queue.first ∷ (queue.second ∷ []))

-- As many as the answer counts: none, the first, or both.
pub record QueueSays (count : ℕ) (first second : Message) (queue : Queue) : Type 0 where
  pub messages : queued queue ≡ take count (first ∷ (second ∷ []))
  pub few : queue.count ≤ 2

-- More messages than any delivery carries, by far; so the count of them fits its number.
abbrev pub carried_limit : ℕ
carried_limit = 4294967295

-- A message went out: it waits last, and is one more that was carried.
abbrev pub sent : ℕ → ProgressOutcome → Message → ProgressOutcome
sent count progress m =
    if is_zero count then progress else record {
      sites = progress.sites;
      coordinator = progress.coordinator;
      waiting = joined progress.waiting m;
      carried = progress.carried + 1;
      refusal = progress.refusal;
      left = progress.left;
    }

-- ---- Refused

-- A call was refused: all else is as it was.
abbrev pub refused_with : ProgressOutcome → ℕ → ProgressOutcome
refused_with progress refusal = record {
  sites = progress.sites;
  coordinator = progress.coordinator;
  waiting = progress.waiting;
  carried = progress.carried;
  refusal = refusal;
  left = progress.left;
}

-- ---- What is due

-- A message waits, or the coordinator announces.
abbrev pub goes_on : ProgressOutcome → Bool
goes_on progress =
    not (is_zero progress.waiting.count) || is_announcing progress.coordinator.phase

-- No call was refused, and one more may be made.
abbrev pub may_go_on : ProgressOutcome → Bool
may_go_on progress = is_zero progress.refusal && not (is_zero progress.left)

abbrev pub is_due : ProgressOutcome → Bool
is_due progress = may_go_on progress && goes_on progress

-- ---- The state of a history

-- Where so many messages had gone out before the arrival.
pub record Stands
    (past : ℕ)
    (state : State)
    (progress : ProgressOutcome)
    (site_memory coordinator_memory : List ℕ) : Type 0 where
  pub held_is : state.held
      ≡ held_by progress.sites progress.coordinator site_memory coordinator_memory
  pub waiting_are : state.waiting ≡ queued progress.waiting
  pub carried_are : length state.messages ≡ past + progress.carried
