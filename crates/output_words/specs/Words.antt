-- The words of each refusal: why, in the line that the program `drawtrack` writes to standard
-- error. Document 01 leaves standard error free; the numbers are those of its table "Refused".
--
--   bytes_of text                a text's bytes
--   refusal_words               the words of each number from 0 on
--   words_of refusal             the words of a number; past the table `unknown refusal`
use Rattle.std.specs.Prelude.{List, [], ◌∷◌, ℕ, get_or}
use Prim.Native.Char.{code}
use Prim.Native.String.{String, [] as []ˢ, ◌∷◌ as ◌∷ˢ◌}

-- A byte for each letter: the texts here have none above 127.
abbrev pub bytes_of : String → List ℕ
bytes_of []ˢ = []
bytes_of (letter ∷ˢ text) = code letter ∷ bytes_of text

-- ---- Why

-- By the rows of document 01's table, in the words of those who write worklists. 9 and 10 are of
-- messages, 11, 12 and 14 of memory that the program always has: `drawtrack` never says these.
abbrev pub refusal_words : List String
refusal_words =
    "accepted"
    ∷ "setting outside its range"
    ∷ "list share below leeway"
    ∷ "too few slots for the leeway"
    ∷ "beyond what this program serves"
    ∷ "unknown deck"
    ∷ "unknown code"
    ∷ "class above 1023"
    ∷ "deck full"
    ∷ "message not due"
    ∷ "amount not due"
    ∷ "memory inconsistent"
    ∷ "list too short"
    ∷ "malformed line"
    ∷ "log too short"
    ∷ []

abbrev pub words_of : ℕ → List ℕ
words_of refusal = bytes_of (get_or refusal_words refusal "unknown refusal")
