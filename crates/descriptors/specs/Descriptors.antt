-- Reading and writing to the end: the counts, and, where a reader or writer tells them, the bytes.
-- The system's own tell none: their contracts speak of counts alone.
--
--   ReadSomeSays at before after transfer     one read into lent bytes from a place on
--   ReadSomeGives old new at after transfer   the bytes that it took from what the reader had left
--   WriteSomeSays at bytes transfer           one write of bytes from a place on
--   WriteSomeGives old new at bytes transfer  the bytes that it added to what the writer held
--   ReadAllSays after read                    a whole reading
--   ReadAllGives old new after read           its bytes
--   WriteAllSays bytes taken                  a whole writing
--   WriteAllGives old new bytes taken         its bytes
--   FailGives old new what                    the line of a failure
use Rattle.std.specs.Prelude.{◌≡◌, Bool, true, false, Result, Ok, Err, List, [], ◌∷◌, ◌++◌, ℕ, ◌+◌, ◌<◌, ◌≤◌, length, take, drop}
use Rattle.std.specs.declared.option.Option.{Option}
use Rattle.std.specs.Io.KnownBytes.{Appends, Consumes, IsAtEnd}
use Rattle.descriptors.specs.declared.Transfer.{Transfer}
use Rattle.descriptors.specs.declared.Transfer.TheVariants.{Whole, Part, Failed}
use Rattle.descriptors.specs.declared.ReadFailed.{ReadFailed}

-- How many bytes a call moved, and whether nothing is missing after it.
abbrev pub moved_by : Transfer → ℕ
moved_by (Whole moved) = moved
moved_by (Part moved) = moved
moved_by (Failed error) = 0

abbrev pub is_whole : Transfer → Bool
is_whole (Whole moved) = true
is_whole (Part moved) = false
is_whole (Failed error) = false

-- What was read before stays; what is new fits.
pub record ReadSomeSays (at : ℕ) (before after : List ℕ) (transfer : Transfer) : Type 0 where
  pub fits : at + moved_by transfer ≤ length after
  pub front : take at after ≡ take at before

-- What is new was the first of what the reader had left. Where nothing is missing and there is room
-- for more, nothing is left.
pub record ReadSomeGives (old new : Option (List ℕ)) (at : ℕ) (after : List ℕ)
    (transfer : Transfer) : Type 0 where
  pub bytes : Consumes old new (take (moved_by transfer) (drop at after))
  pub end : is_whole transfer ≡ true → at + moved_by transfer < length after → IsAtEnd new

pub record WriteSomeSays (at : ℕ) (bytes : List ℕ) (transfer : Transfer) : Type 0 where
  pub fits : at + moved_by transfer ≤ length bytes

-- What was taken follows what the writer held.
pub record WriteSomeGives (old new : Option (List ℕ)) (at : ℕ) (bytes : List ℕ)
    (transfer : Transfer) : Type 0 where
  pub added : Appends old new (take (moved_by transfer) (drop at bytes))
  pub whole : is_whole transfer ≡ true → at + moved_by transfer ≡ length bytes

-- A whole reading: whether the input was read to its end, or until the lent bytes were full, and
-- how many bytes were read.
pub record Read : Type 0 where
  pub whole : Bool
  pub length : ℕ

abbrev pub read_in : Result ℕ ReadFailed → Read
read_in (Ok length) = record { whole = true; length = length }
read_in (Err failed) = record { whole = false; length = failed.length }

-- What was read stands in the first of the lent bytes.
pub record ReadAllSays (after : List ℕ) (read : Read) : Type 0 where
  pub fits : read.length ≤ length after

-- It was the first of what the reader had left; and all of that, where the input was read whole and
-- there is room for more.
pub record ReadAllGives (old new : Option (List ℕ)) (after : List ℕ) (read : Read) : Type 0 where
  pub bytes : Consumes old new (take read.length after)
  pub end : read.whole ≡ true → read.length < length after → IsAtEnd new

-- Nothing to write is taken. Whether bytes are, no contract says.
pub record WriteAllSays (bytes : List ℕ) (taken : Bool) : Type 0 where
  pub none : length bytes ≡ 0 → taken ≡ true

-- The first of the bytes follow what the writer held: all of them, where all were taken.
pub record WriteAllGives (old new : Option (List ℕ)) (bytes : List ℕ) (taken : Bool) : Type 0 where
  pub count : ℕ
  pub front : Appends old new (take count bytes)
  pub whole : taken ≡ true → Appends old new bytes

-- What the writer held stays, and the first bytes of each piece follow it, piece after piece: what
-- failed, a colon and a space, some words and a line feed. A write may stop anywhere, and the words
-- are the system's: so how much of the line follows is left open, and the tests look at it.
pub record FailGives (old new : Option (List ℕ)) (what : List ℕ) : Type 0 where
  pub words : List ℕ
  pub named : ℕ
  pub marked : ℕ
  pub explained : ℕ
  pub ended : ℕ
  pub added : Appends old new
      (take named what ++ take marked (58 ∷ 32 ∷ []) ++ take explained words
      ++ take ended (10 ∷ []))
