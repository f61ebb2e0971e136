-- What the run answers.
--
--   RunSays status               the whole run
--   RunGives input old new status  what it makes of an input, where reader and writer tell bytes
use Rattle.std.specs.Prelude.{◌≡◌, ◌≢◌, List, ℕ, ◌≤◌, length}
use Rattle.std.specs.declared.option.Option.{Option}
use Rattle.std.specs.Io.KnownBytes.{Appends}
use Rattle.model.specs.Transcript.{transcript}
use Rattle.drawtrack_course.specs.Rooms.{input_room}
use Rattle.drawtrack_course.specs.Ending.{ending}
use Rattle.drawtrack_response.specs.Responding.{status_of, status_failed}

-- 2 where something failed; otherwise the status of the input that was read. Which bytes these are
-- no contract of the C function that reads says.
pub data RunSays : ℕ → Type 0 where
  failed : RunSays status_failed
  answered : (input : List ℕ)
      → length input ≤ input_room
      → RunSays (status_of (ending input).refusal)

-- Where nothing failed, the transcript of the input follows what the writer held, and the status is
-- the input's.
pub record RunGives (input : List ℕ) (old new : Option (List ℕ)) (status : ℕ) : Type 0 where
  pub transcript_is : status ≢ status_failed → Appends old new (transcript input)
  pub status_is : status ≢ status_failed → status ≡ status_of (ending input).refusal
