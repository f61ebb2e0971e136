-- The contracts of reading decimal numbers and lines.
use Rattle.std.specs.Prelude.{◌≡◌, not, List, [], ◌∷◌, ℕ, ◌≤◌, ◌<◌, length, drop, Option, Some, None, Result, IfSome, IfOk}
use Rattle.worklist.specs.declared.NumberRead.{NumberRead}
use Rattle.worklist.specs.declared.ThreeRead.{ThreeRead}
use Rattle.worklist.specs.declared.LineRead.{LineRead}
use Rattle.model.specs.declared.Refusal.{Refusal}
use Rattle.model.specs.Refusals.{when, malformed_line, refusal_told}
use Rattle.model.specs.Limits.{number_limit}
use Rattle.model.specs.Decimal.{Number, no_number, number, more_digits, read_number}
use Rattle.model.specs.Lines.{Fields, malformed, fields, before_mark, read_field, read_fields_to, read_line}

-- The number that an answer of the reader stands for, with the bytes after it.
abbrev pub number_in : List ℕ → Option NumberRead → Number
number_in bytes None = no_number
number_in bytes (Some read) = number read.value (drop read.next bytes)

-- The answer is the definition's number; it fits seven digits and ends within the bytes.
pub record NumberSays (bytes : List ℕ) (expected : Number) (answer : Option NumberRead)
    : Type 0 where
  pub is : number_in bytes answer ≡ expected
  pub within : IfSome answer (λ read. read.next ≤ length bytes)
  pub small : IfSome answer (λ read. read.value < number_limit)

-- A number that was read, ended by a mark.
abbrev pub ended_number : ℕ → List ℕ → NumberRead → Number
ended_number mark bytes answer = before_mark mark (number answer.value (drop answer.next bytes))

-- What each function reads: the digits after a first one, a number, a number that was read with the
-- mark after it, and a field, at a place of the bytes.
abbrev pub MoreDigitsSays : List ℕ → ℕ → ℕ → Option NumberRead → Type 0
MoreDigitsSays bytes start first answer =
    NumberSays bytes (more_digits 6 first (drop start bytes)) answer

abbrev pub ReadNumberSays : List ℕ → ℕ → Option NumberRead → Type 0
ReadNumberSays bytes at answer = NumberSays bytes (read_number (drop at bytes)) answer

abbrev pub EndedSays : ℕ → List ℕ → NumberRead → Option NumberRead → Type 0
EndedSays mark bytes begun answer = NumberSays bytes (ended_number mark bytes begun) answer

abbrev pub ReadFieldSays : ℕ → List ℕ → ℕ → Option NumberRead → Type 0
ReadFieldSays mark bytes at answer = NumberSays bytes (read_field mark (drop at bytes)) answer

-- The fields that an answer of the reader stands for, with the bytes after them.
abbrev pub three_in : List ℕ → Option ThreeRead → Fields
three_in bytes None = malformed
three_in bytes (Some read) =
    fields (read.first ∷ read.second ∷ read.third ∷ []) (drop read.next bytes)

-- The answer is the definition's fields; it ends within the bytes.
pub record ThreeSays (bytes : List ℕ) (expected : Fields) (answer : Option ThreeRead)
    : Type 0 where
  pub is : three_in bytes answer ≡ expected
  pub within : IfSome answer (λ read. read.next ≤ length bytes)

-- Three fields at a place of the bytes.
abbrev pub ReadThreeSays : ℕ → List ℕ → ℕ → Option ThreeRead → Type 0
ReadThreeSays last bytes at answer = ThreeSays bytes (read_fields_to last 3 (drop at bytes)) answer

-- The line test: 13 for a malformed first line; else its arrival and the bytes it takes.
pub record TestLineSays (bytes : List ℕ) (answer : Result LineRead Refusal) : Type 0 where
  pub refusal : refusal_told answer ≡ when (not (read_line bytes).well_formed) malformed_line
  pub arrival : IfOk answer (λ line. line.arrival ≡ (read_line bytes).arrival)
  pub used : IfOk answer (λ line. line.used ≡ (read_line bytes).used)
