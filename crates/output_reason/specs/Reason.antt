-- The line that the program `drawtrack` writes to standard error on a refusal: where, which number
-- and why in a few words, as `drawtrack: line 613: refused 6: unknown code`. Document 01 leaves
-- standard error free.
--
--   whole_worklist, settings_line, first_line  0, 1 and 2, which is the worklist's first line
--   place_words line            a line of the input in words
--   reason_line line refusal    the whole line
--   reason_room                 128 bytes, more than any such line of machine numbers takes
--   ReasonSays ..               the promise of the call that writes it
use Rattle.std.specs.Prelude.{◌≡◌, List, [], ◌∷◌, ◌++◌, ℕ, zero, suc, leb, length, if◌then◌else◌}
use Rattle.laws.specs.Writing.{written_at}
use Rattle.model.specs.Transcript.{spaced, end_line}
use Rattle.output_lines.specs.Promises.{written_to, at_start}
use Rattle.output_words.specs.Words.{bytes_of, words_of}

-- ---- Where

-- Lines of the input are counted from 1, as an editor counts them; 0 stands for the worklist as a
-- whole.
abbrev pub whole_worklist : ℕ
whole_worklist = 0

abbrev pub settings_line : ℕ
settings_line = 1

abbrev pub first_line : ℕ
first_line = 2

-- By these numbers.
abbrev pub place_words : ℕ → List ℕ
place_words zero = bytes_of "worklist"
place_words (suc zero) = bytes_of "settings line"
place_words (suc (suc earlier)) = bytes_of "line" ++ spaced (suc (suc earlier) ∷ [])

-- ---- The line

abbrev pub reason_line : ℕ → ℕ → List ℕ
reason_line line refusal =
    end_line (bytes_of "drawtrack: " ++ place_words line
    ++ bytes_of ": refused" ++ spaced (refusal ∷ [])
    ++ bytes_of ": " ++ words_of refusal)

abbrev pub reason_room : ℕ
reason_room = 128

-- The line stands in the first bytes of what was lent, and the answer is its length; with fewer
-- bytes than any line may take nothing is written and the answer is 0.
pub record ReasonSays (line refusal : ℕ) (before after : List ℕ) (answer : ℕ) : Type 0 where
  pub is : written_to answer after
      ≡ (if leb reason_room (length before)
      then written_to (length (reason_line line refusal))
      (written_at 0 (reason_line line refusal) before)
      else at_start before)
