-- What is handed out, where the writer tells it.
--
--   Handing old new bytes taken      the pieces so far
--   HandedOut input old new answer   all of them
use Rattle.std.specs.Prelude.{◌≡◌, Bool, true, List, ℕ, take}
use Rattle.std.specs.declared.option.Option.{Option}
use Rattle.std.specs.Io.KnownBytes.{Appends}
use Rattle.model.specs.Transcript.{transcript}
use Rattle.drawtrack_course.specs.Rooms.{input_room}
use Rattle.drawtrack_course.specs.Ending.{Front}
use Rattle.drawtrack_turns.specs.declared.Stopped.{Stopped}

-- The front of these bytes follows what the writer held: all of them, where every write was taken.
pub record Handing (old new : Option (List ℕ)) (bytes : List ℕ) (taken : Bool) : Type 0 where
  pub handed : List ℕ
  pub appends : Appends old new handed
  pub front : Front handed bytes
  pub whole : taken ≡ true → handed ≡ bytes

-- The front of the transcript of the input. All of it, where every write was taken; also that of a
-- longer input, of which this is the first bytes.
pub record HandedOut (input : List ℕ) (old new : Option (List ℕ)) (answer : Stopped) : Type 0 where
  pub handed : List ℕ
  pub appends : Appends old new handed
  pub front : Front handed (transcript input)
  pub whole : answer.taken ≡ true → handed ≡ transcript input
  pub first_bytes : answer.taken ≡ true
      → (whole : List ℕ)
      → input ≡ take input_room whole
      → handed ≡ transcript whole
