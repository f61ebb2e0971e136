-- The loop over the calls of a session: what it is lent, where it stands, and what comes of it.
--
--   ServeAsks ..                   the input and the memory that the run lends
--   Situation                      a session, and what the calls so far left in lent memory
--   after_begin input given        after `begin`
--   after_calls input first n      after n calls of `advance` more; 0: `first` itself
--   stopped_of taken session turns  what is said of a session that stopped then
--   Serving ..                     the loop after so many turns
--   AllTaken, ServeSays ..         the promise
use Rattle.std.specs.Prelude.{◌≡◌, Bool, true, false, List, [], ℕ, zero, suc, ◌≤◌, length, take}
use Rattle.model.specs.Transcript.{transcript}
use Rattle.worklist_reader.specs.Walk.{step_at}
use Rattle.drawtrack_steps.specs.declared.Session.{Session}
use Rattle.drawtrack_steps.specs.Outcome.{Buffers, buffers, Outcome, SameLengths}
use Rattle.drawtrack_start.specs.Limits.{site_room, coordinator_room}
use Rattle.drawtrack_course.specs.Rooms.{log_room, list_room, out_room, input_room}
use Rattle.drawtrack_session.specs.Begin.{begin_of}
use Rattle.drawtrack_session.specs.Advance.{line_of}
use Rattle.drawtrack_course.specs.Course.{Course}
use Rattle.drawtrack_course.specs.Ending.{Ending, ending_at, ending_line, ending, Front}
use Rattle.drawtrack_turns.specs.declared.Stopped.{Stopped}

-- "Its memory serves k up to 4, c up to 100, u up to 1000 and a worklist up to 8192 bytes": of the
-- input no more bytes than matter; log, list and output for the longest answer.
pub record ServeAsks (input : List ℕ) (given : Buffers) : Type 0 where
  pub input_few : length input ≤ input_room
  pub site_memory : site_room ≤ length given.site_memory
  pub coordinator_memory : coordinator_room ≤ length given.coordinator_memory
  pub log_long : log_room ≤ length given.log
  pub list_long : list_room ≤ length given.list
  pub out_long : out_room ≤ length given.out

-- ---- What the calls leave, one after the other

pub record Situation : Type 0 where
  pub session : Session
  pub left : Buffers

abbrev pub situation : Session → Buffers → Situation
situation session left = record { session = session; left = left }

-- `begin` is lent no log and no list: these are as they were.
abbrev pub begun_with : List ℕ → List ℕ → Outcome → Situation
begun_with log list begun =
    situation begun.moved.session
    (buffers begun.left.site_memory begun.left.coordinator_memory log list begun.left.out)

abbrev pub without_lists : Buffers → Buffers
without_lists given = buffers given.site_memory given.coordinator_memory [] [] given.out

abbrev pub after_begin : List ℕ → Buffers → Situation
after_begin input given =
    begun_with given.log given.list (begin_of input (without_lists given))

-- A call of `advance`: the line at the session's place.
abbrev pub situation_of : Outcome → Situation
situation_of line = situation line.moved.session line.left

abbrev pub after_call : List ℕ → Situation → Situation
after_call input before =
    let session = before.session in
    situation_of (line_of session (step_at input session.at session.line) before.left)

abbrev pub after_calls : List ℕ → Situation → ℕ → Situation
after_calls input first zero = first
after_calls input first (suc n) = after_call input (after_calls input first n)

-- ---- The loop

-- The calls so far, each on the memory that the one before left; the slices are as long as they
-- were.
pub record Serving (input : List ℕ) (first now : Situation) (turns : ℕ) : Type 0 where
  pub lends : ServeAsks input first.left
  pub lengths : SameLengths first.left now.left
  pub bytes : List ℕ
  pub course : Course input turns now.session now.left.site_memory
      now.left.coordinator_memory bytes
  pub now_is : now ≡ after_calls input first turns
  pub few_turns : turns ≤ input_room

-- ---- The promise

-- Whether every write was taken, why the session was refused, and at which line of the input it
-- stopped.
abbrev pub stopped_of : Bool → Session → ℕ → Stopped
stopped_of taken session turns = record {
  taken = taken;
  refusal = session.refusal;
  line = ending_line session.settings session.refusal turns;
}

abbrev pub ending_in : Stopped → Ending
ending_in answer = ending_at answer.refusal answer.line

-- Where every write was taken, the session has ended. The bytes handed out are the transcript of
-- the input, and the refusal and its line are those of the input; also of a longer one, of which it
-- is the first bytes.
pub record AllTaken (input bytes : List ℕ) (session : Session) (answer : Stopped) : Type 0 where
  pub ended : session.going ≡ false
  pub bytes_are : bytes ≡ transcript input
  pub ending_is : ending_in answer ≡ ending input
  pub first_bytes : (whole : List ℕ) → input ≡ take input_room whole → bytes ≡ transcript whole
  pub first_ending : (whole : List ℕ)
      → input ≡ take input_room whole
      → ending_in answer ≡ ending whole

-- The calls are a course of the session: `begin`, and then a call for each turn. What they leave in
-- every place of lent memory follows from the input and from what was lent. Their bytes, one after
-- the other, are handed out: the front of the transcript, and all of it where every write was
-- taken.
pub record ServeSays (input : List ℕ) (given left : Buffers) (answer : Stopped) : Type 0 where
  pub turns : ℕ
  pub session : Session
  pub bytes : List ℕ
  pub course : Course input turns session left.site_memory left.coordinator_memory bytes
  pub left_is : situation session left ≡ after_calls input (after_begin input given) turns
  pub answer_is : answer ≡ stopped_of answer.taken session turns
  pub front : Front bytes (transcript input)
  pub whole : answer.taken ≡ true → AllTaken input bytes session answer
