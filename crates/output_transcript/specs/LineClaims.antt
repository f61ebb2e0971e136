-- How many bytes the lines of the output take. The theorem `line-claims` of proofs/LineBounds.antt
-- proves it; it is what a program needs to see that its buffer is long enough.
--
--   MachineMessage m     the numbers of a message are those of a machine: two of 32 bits, two of 64
use Rattle.std.specs.Prelude.{◌≡◌, List, ◌++◌, ℕ, suc, ◌+◌, ◌*◌, ◌^◌, ◌≤◌, ◌<◌, length, get_or, None, Some}
use Rattle.model.specs.declared.Message.{Message}
use Rattle.model.specs.Messages.{no_message}
use Rattle.model.specs.Decimal.{decimal}
use Rattle.model.specs.Transcript.{end_line, message_line, message_lines, refused_line, class_word, quantile_word, messages_word}
use Rattle.output_lines.specs.Promises.{counted_line, listed_line}

pub record MachineMessage (m : Message) : Type 0 where
  pub kind : m.kind < 2 ^ 32
  pub site : m.site < 2 ^ 32
  pub a : m.a < 2 ^ 64
  pub b : m.b < 2 ^ 64

pub record LineClaims : Type 0 where
  -- A line has a byte or more, so the place after a written line is another than the place before.
  pub some : (bytes : List ℕ) → 1 ≤ length (end_line bytes)
  -- A number below 10 ^ (m + 1) has at most m + 1 digits; one of 64 bits at most 20.
  pub digits : (m n : ℕ) → n < 10 ^ suc m → length (decimal n) ≤ suc m
  pub digits_64 : (n : ℕ) → n < 2 ^ 64 → length (decimal n) ≤ 20
  -- 10 + 11 + 21 + 21 + 1
  pub message : (m : Message) → MachineMessage m → length (message_line m) ≤ 64
  pub messages : (ms : List Message)
      → ((i : ℕ) → i < length ms → MachineMessage (get_or ms i no_message))
      → length (message_lines ms) ≤ 64 * length ms
  pub refused : (refusal : ℕ) → refusal < 2 ^ 32 → length (refused_line refusal) ≤ 19
  pub class_none : length (end_line (class_word ++ quantile_word None)) ≡ 11
  pub class_value : (value : ℕ)
      → value < 2 ^ 32
      → length (end_line (class_word ++ quantile_word (Some value))) ≤ 17
  pub count : (n : ℕ) → n < 2 ^ 64 → length (counted_line messages_word n) ≤ 30
  -- Items below 10 ^ (m + 1): each takes a space and at most m + 1 digits.
  pub listed : (m : ℕ) (items : List ℕ)
      → ((i : ℕ) → i < length items → get_or items i 0 < 10 ^ suc m)
      → length (listed_line items) ≤ (m + 2) * length items + 7
