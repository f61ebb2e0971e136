-- Request N2 of every history: touches are accepted, and leaving them all out gives the same bench,
-- messages and answers. (That a refused line and a touch change nothing is in First.antt; what n
-- is, and that class 0 is never answered, in Second.antt, Third.antt and Reading.antt.)
--
--   accepted_by step, accepted_in history  the lines that calls accepted, touches among them
--   without_touches accepted arrivals     a batch's run with the touches that it accepted left out
--   answer_without arrivals answer        what the call then answers
--   BatchWithout call answer              that of one batch call, on any memory
--   LeftOut settings history              the same history without its touches
use Rattle.std.specs.Prelude.{◌≡◌, List, [], ◌∷◌, ◌++◌, ℕ, length, take, drop, if◌then◌else◌}
use Rattle.model.specs.declared.Settings.{Settings}
use Rattle.model.specs.declared.Arrival.{Arrival}
use Rattle.model.specs.Choice.{is_zero}
use Rattle.model.specs.Draws.{draws_of}
use Rattle.tracker.specs.Batch.{BatchCall, BatchHeld, BatchSays}
use Rattle.history.specs.State.{State}
use Rattle.history.specs.Steps.{batch, single, Refuses, arrival_left, site_message_refused, coordinator_message_refused, announcement_refused, batch_takes_none, Step, arrives, delivers, refuses}
use Rattle.history.specs.Histories.{Reachable, started, stepped, reopened, held_at_start}

-- ---- The lines accepted

-- "then accepted with no change": a single touch, or those of a batch that takes no draw.
abbrev pub touches_by : {before after : State} → Refuses before after → List Arrival
touches_by (arrival_left given which arrival start words part answer _ _) =
    if is_zero answer.refusal then arrival ∷ [] else []
touches_by (site_message_refused _ _ _ _ _ _ _ _ _) = []
touches_by (coordinator_message_refused _ _ _ _ _ _ _ _) = []
touches_by (announcement_refused _ _ _ _ _ _) = []
touches_by (batch_takes_none given slices arrivals log answer _ _) =
    take answer.accepted arrivals

-- "the many-draw call still counts such a line among the draws accepted": as many lines of a batch
-- as its answer says.
abbrev pub accepted_by : {settings : Settings} {before after : State}
    → Step settings before after
    → List Arrival
accepted_by (arrives (batch _ _ arrivals log answer _ _)) = take answer.accepted arrivals
accepted_by (arrives (single arrival words part answer _ _ _ _)) = arrival ∷ []
accepted_by (delivers step) = []
accepted_by (refuses step) = touches_by step

-- In the order of the calls.
abbrev pub accepted_in : {settings : Settings} {state : State}
    → Reachable settings state
    → List Arrival
accepted_in (started _ _ _ _ _ _ _ _ _ _ _ _) = []
accepted_in (stepped before after earlier step) = accepted_in earlier ++ accepted_by step
accepted_in (reopened _ _ _ _ _ _ _ _ _ _ _ earlier _ _ _ _) = accepted_in earlier

-- ---- One batch call

-- The touches that it accepted are left out; the line that stopped it, and those behind it, stay.
abbrev pub without_touches : ℕ → List Arrival → List Arrival
without_touches accepted arrivals = draws_of (take accepted arrivals) ++ drop accepted arrivals

abbrev pub call_without : BatchCall → ℕ → BatchCall
call_without call accepted = record {
  settings = call.settings;
  held = call.held;
  arrivals = without_touches accepted call.arrivals;
  log = call.log;
}

-- Only the number accepted is another: the draws alone.
abbrev pub answer_without : List Arrival → BatchHeld → BatchHeld
answer_without arrivals answer = record {
  refusal = answer.refusal;
  accepted = length (draws_of (take answer.accepted arrivals));
  written = answer.written;
  held = answer.held;
  log = answer.log;
}

-- Of every batch call, on memory that arose or not.
abbrev pub BatchWithout : BatchCall → BatchHeld → Type 0
BatchWithout call answer =
    BatchSays (call_without call answer.accepted) (answer_without call.arrivals answer)

-- ---- A whole history

pub record LeftOut (settings : Settings) {state : State} (history : Reachable settings state)
    : Type 0 where
  -- n is over the draws among the lines accepted
  pub draws_are : state.accepted ≡ draws_of (accepted_in history)
  -- another history, from the same start, accepts these draws alone, and comes to the same state:
  -- records and memory, what waits, all messages and the sum of answers; so the reading calls are
  -- given the same, and answer the same
  pub without : Reachable settings state
  pub same_start : held_at_start without ≡ held_at_start history
  pub accepts_draws : accepted_in without ≡ draws_of (accepted_in history)
