-- Laws of whole lines: the pieces that they are written in, and how many bytes they take.
--
--   counted_joined, length_counted   a line of a word and a number
--   message_joined, length_message   the line of a message
--   listed_joined, length_listed     the line of listed items
use mathlib.Core.Path.{◌≡◌, sym, ap, ◌∙◌}
use mathlib.Core.List.{List, [], ◌∷◌, ◌++◌, append_assoc, append-nil}
use Prim.Native.Nat.{ℕ, ◌+◌}
use native.Mathlib.Omega.{arith}
use lib.ListN.{length, length-append}
use Rattle.model.specs.declared.Message.{Message}
use Rattle.model.specs.Decimal.{decimal}
use Rattle.model.specs.Lines.{line_feed}
use Rattle.model.specs.Transcript.{space, spaced, message_line, listed_word}
use Rattle.output_lines.specs.Promises.{counted_line, listed_line}
use Rattle.laws.proofs.Writing.{joined}

-- A number with a space before it.
abbrev pub spaced_number : ℕ → List ℕ
spaced_number n = space ∷ decimal n

abbrev pub feed : List ℕ
feed = line_feed ∷ []

-- ---- A word and a number

abbrev pub counted_pieces : List ℕ → ℕ → List (List ℕ)
counted_pieces word n = word ∷ spaced_number n ∷ feed ∷ []

two_and_feed : (first second end : List ℕ)
    → first ++ (second ++ (end ++ [])) ≡ (first ++ (second ++ [])) ++ end
two_and_feed first second end = simp (append_assoc, append-nil)

pub counted_joined : (word : List ℕ) (n : ℕ) → joined (counted_pieces word n) ≡ counted_line word n
counted_joined word n = two_and_feed word (spaced_number n) feed

pub length_counted : (word : List ℕ) (n : ℕ)
    → length (counted_line word n) ≡ length word + length (spaced_number n) + 1
length_counted word n =
    ap length (sym (counted_joined word n)) ∙ simp length-append (omega arith)

-- ---- A message

abbrev pub message_pieces : Message → List (List ℕ)
message_pieces m =
    decimal m.kind
    ∷ spaced_number m.site
    ∷ spaced_number m.a
    ∷ spaced_number m.b
    ∷ feed
    ∷ []

four_and_feed : (first second third fourth end : List ℕ)
    → first ++ (second ++ (third ++ (fourth ++ (end ++ []))))
    ≡ (first ++ (second ++ (third ++ (fourth ++ [])))) ++ end
four_and_feed first second third fourth end = simp (append_assoc, append-nil)

pub message_joined : (m : Message) → joined (message_pieces m) ≡ message_line m
message_joined m =
    four_and_feed (decimal m.kind) (spaced_number m.site) (spaced_number m.a)
    (spaced_number m.b) feed

-- The line feed stands for the space that the first number lacks.
pub length_message : (m : Message)
    → length (message_line m)
    ≡ length (spaced_number m.kind) + length (spaced_number m.site)
    + length (spaced_number m.a)
    + length (spaced_number m.b)
length_message m = ap length (sym (message_joined m)) ∙ simp length-append (omega arith)

-- ---- Listed items

abbrev pub listed_pieces : List ℕ → List (List ℕ)
listed_pieces items = listed_word ∷ spaced items ∷ feed ∷ []

two_pieces : (first second end : List ℕ)
    → first ++ (second ++ (end ++ [])) ≡ (first ++ second) ++ end
two_pieces first second end = simp (append_assoc, append-nil)

pub listed_joined : (items : List ℕ) → joined (listed_pieces items) ≡ listed_line items
listed_joined items = two_pieces listed_word (spaced items) feed

pub length_listed : (items : List ℕ) → length (listed_line items) ≡ length (spaced items) + 7
length_listed items = ap length (sym (listed_joined items)) ∙ simp length-append (omega arith)
