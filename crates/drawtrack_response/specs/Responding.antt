-- What the program answers to an input, and what it says of a refusal.
--
--   status_of refusal            0 after results, 1 after a refusal
--   status_failed                2: reading or writing failed
--   reason_of ending             the bytes for standard error; none after results
--   RespondAsks, RespondSays     the response to an input
--   RespondHands                 what it hands out, where the writer tells it
use Rattle.std.specs.Prelude.{◌≡◌, Bool, true, false, List, [], ℕ, zero, suc, ◌≤◌, length, take, if◌then◌else◌}
use Rattle.std.specs.declared.option.Option.{Option}
use Rattle.std.specs.Io.KnownBytes.{Appends}
use Rattle.laws.specs.Writing.{written_at}
use Rattle.model.specs.Transcript.{transcript}
use Rattle.model.specs.Choice.{is_zero}
use Rattle.output_lines.specs.Promises.{Written, written_to, at_start}
use Rattle.output_reason.specs.Reason.{reason_line, reason_room}
use Rattle.drawtrack_steps.specs.Outcome.{Buffers}
use Rattle.drawtrack_course.specs.Rooms.{input_room}
use Rattle.drawtrack_course.specs.Ending.{Ending, ending, Front}
use Rattle.drawtrack_turns.specs.declared.Stopped.{Stopped}
use Rattle.drawtrack_response.specs.declared.Response.{Response}
use Rattle.drawtrack_turns.specs.Serving.{ServeAsks, ServeSays}

-- ---- The answer, and the reason

abbrev pub status_of : ℕ → ℕ
status_of zero = 0
status_of (suc refusal) = 1

abbrev pub status_failed : ℕ
status_failed = 2

-- "on a refusal one line on standard error"
abbrev pub reason_of : Ending → List ℕ
reason_of end = if is_zero end.refusal then [] else reason_line end.line end.refusal

-- Bytes written to the first of those that were lent.
abbrev pub written_first : List ℕ → List ℕ → Written
written_first bytes before = written_to (length bytes) (written_at 0 bytes before)

-- ---- The response

pub record RespondAsks (input : List ℕ) (given : Buffers) (reason : List ℕ) : Type 0 where
  pub serve : ServeAsks input given
  pub reason_long : reason_room ≤ length reason

-- What came of the session's calls; `failed` says that a write was not taken.
pub record Responded (input : List ℕ) (given left : Buffers) (failed : Bool) : Type 0 where
  pub answer : Stopped
  pub says : ServeSays input given left answer
  pub taken : failed ≡ false → answer.taken ≡ true
  pub lost : failed ≡ true → answer.taken ≡ false

-- By whether the input was read whole. Whether a write fails no contract says; all else follows.
pub record RespondSays (read : Bool) (input : List ℕ) (given left : Buffers)
    (before after : List ℕ) (answer : Response) : Type 0 where
  -- A failed read never gives results: nothing was computed, so nothing was handed out.
  pub unread_failed : read ≡ false → answer.failed ≡ true
  pub unread_untouched : read ≡ false → left ≡ given
  pub responded : read ≡ true → Responded input given left answer.failed
  pub status : answer.status
      ≡ (if answer.failed then status_failed else status_of (ending input).refusal)
  pub said_fits : answer.said ≤ length after
  pub reason : written_to answer.said after
      ≡ (if answer.failed then at_start before else written_first (reason_of (ending input)) before)

-- What follows what the writer held: nothing of an input that was not read whole, and otherwise the
-- front of the transcript; where nothing failed, all of it. The transcript and the ending are those
-- of a longer input too, of which this is the first bytes.
pub record RespondHands (read : Bool) (input : List ℕ) (old new : Option (List ℕ))
    (answer : Response) : Type 0 where
  pub handed : List ℕ
  pub appends : Appends old new handed
  pub unread : read ≡ false → handed ≡ []
  pub front : Front handed (transcript input)
  pub whole : answer.failed ≡ false → handed ≡ transcript input
  pub first_bytes : answer.failed ≡ false
      → (whole : List ℕ)
      → input ≡ take input_room whole
      → handed ≡ transcript whole
  pub first_ending : answer.failed ≡ false
      → (whole : List ℕ)
      → input ≡ take input_room whole
      → ending input ≡ ending whole
