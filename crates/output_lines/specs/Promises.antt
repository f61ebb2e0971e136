-- The contracts of writing the transcript's lines into a lent buffer (document 01's section
-- "Worklist" and instance P2).
--
--   counted_line word n         a line of a word and a number
--   listed_line items           the line of listed items; `listed` alone where there are none
--   at_start out                 an output before its first line
--   line_after written line     one line more; where it doesn't fit, as before
--   lines_after written lines   these lines, one after the other
use Rattle.std.specs.Prelude.{◌≡◌, List, [], ◌∷◌, ◌++◌, ℕ, ◌+◌, ◌≤◌, length, if◌then◌else◌}
use Rattle.laws.specs.Writing.{written_at, fit}
use Rattle.model.specs.Decimal.{decimal}
use Rattle.model.specs.declared.Message.{Message}
use Rattle.model.specs.Transcript.{space, spaced, end_line, listed_word, message_line}

-- A line of a word and a number.
abbrev pub counted_line : List ℕ → ℕ → List ℕ
counted_line word n = end_line (word ++ spaced (n ∷ []))

-- The line of listed items.
abbrev pub listed_line : List ℕ → List ℕ
listed_line items = end_line (listed_word ++ spaced items)

-- ---- Lines one after the other, each whole or not at all

-- The bytes of the output, and how many of them are written.
pub record Written : Type 0 where
  pub place : ℕ
  pub out : List ℕ

abbrev pub written_to : ℕ → List ℕ → Written
written_to place out = record { place = place; out = out }

abbrev pub at_start : List ℕ → Written
at_start out = written_to 0 out

abbrev pub line_after : Written → List ℕ → Written
line_after written line =
    let place = written.place in
    let out = written.out in
    if fit line place out
    then written_to (place + length line) (written_at place line out)
    else written

abbrev pub lines_after : Written → List (List ℕ) → Written
lines_after written [] = written
lines_after written (line ∷ lines) = lines_after (line_after written line) lines

-- ---- What the calls promise

-- A line written from a place on, and the place after it; where it doesn't fit, nothing is written
-- and the answer is the same place. (A line has a byte or more, so the answers differ.)
pub record LineWritten (line : List ℕ) (place : ℕ) (before after : List ℕ) (answer : ℕ)
    : Type 0 where
  pub is : written_to answer after ≡ line_after (written_to place before) line

-- The line of a message, and that it takes at most 84 bytes: four numbers of 64 bits, each with a
-- space or the line feed.
pub record RecordWritten (m : Message) (place : ℕ) (before after : List ℕ) (answer : ℕ) : Type 0
  where
    pub written : LineWritten (message_line m) place before after answer
    pub few : length (message_line m) ≤ 84

-- How many bytes a number takes with a space before it: 21 at most, for 64 bits.
pub record SpacedLength (n answer : ℕ) : Type 0 where
  pub is : answer ≡ length (space ∷ decimal n)
  pub few : answer ≤ 21
