-- The run of the program on an input that lies in memory, and what it hands out there.
--
--   pieces_held pieces           the bytes that were handed out so far
--   MemorySays ..                the promise of the run
use Rattle.std.specs.Prelude.{◌≡◌, ◌≢◌, List, ℕ, take}
use Rattle.model.specs.Transcript.{transcript}
use Rattle.drawtrack_course.specs.Ending.{ending}
use Rattle.drawtrack_response.specs.Responding.{status_of, status_failed}
use Rattle.drawtrack_run_c.specs.declared.Pieces.{Pieces}

abbrev pub pieces_held : Pieces → List ℕ
pieces_held pieces = take pieces.length pieces.bytes.now

-- Where nothing failed, the first bytes are the transcript of the input, and the status is the
-- input's.
pub record MemorySays (input bytes : List ℕ) (length status : ℕ) : Type 0 where
  pub transcript_is : status ≢ status_failed → take length bytes ≡ transcript input
  pub status_is : status ≢ status_failed → status ≡ status_of (ending input).refusal
