-- What the calls of the library hand out in rows of numbers: "A refused call changes nothing that
-- it was lent" (tracker.h).
--
--   Lent, lent before after   what a call is lent, before it and after it
--   Row, Number               a lent row, or lent memory; a lent number
--   handed_out refusal x y    x where nothing is refused, else y
--   HandMessageSays, HandMessagesSays     the messages that a call hands out
use Rattle.std.specs.Prelude.{◌≡◌, List, ◌++◌, ℕ, if◌then◌else◌}
use Rattle.model.specs.declared.Message.{Message}
use Rattle.model.specs.Choice.{is_zero}
use Rattle.record_numbers.specs.Numbers.{message_numbers}

pub record Lent (A : Type 0) : Type 0 where
  pub before : A
  pub after : A

abbrev pub lent : {A : Type 0} → A → A → Lent A
lent before after = record { before = before; after = after }

abbrev pub Row : Type 0
Row = Lent (List ℕ)

abbrev pub Number : Type 0
Number = Lent ℕ

abbrev pub handed_out : {A : Type 0} → ℕ → A → A → A
handed_out refusal handed before = if is_zero refusal then handed else before

-- A message, zeros where none goes out, and how many there are.
pub record HandMessageSays (refusal sent : ℕ) (message : Message) (out : Row) (count : Number)
    : Type 0 where
  pub out_is : out.after ≡ handed_out refusal (message_numbers message) out.before
  pub count_is : count.after ≡ handed_out refusal sent count.before

-- Two of them, one after the other.
pub record HandMessagesSays (refusal sent : ℕ) (first second : Message) (out : Row)
    (count : Number) : Type 0 where
  pub out_is : out.after
      ≡ handed_out refusal (message_numbers first ++ message_numbers second) out.before
  pub count_is : count.after ≡ handed_out refusal sent count.before
