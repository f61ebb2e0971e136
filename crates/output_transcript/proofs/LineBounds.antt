-- How many bytes the lines of the output take: the theorem of specs/LineClaims.antt.
--
--   message_lines_append   the lines of messages, and of others after them
--   line_claims            the theorem
use mathlib.Core.Path.{◌≡◌, refl, sym, ap, ◌∙◌}
use mathlib.Core.List.{List, [], ◌∷◌, ◌++◌, append_assoc}
use Prim.Native.Nat.{ℕ, suc, ◌+◌, ◌*◌, ◌^◌, ◌≤◌, ◌<◌}
use native.Mathlib.Omega.{arith}
use lib.ListN.{length, get_or, length-append}
use Rattle.model.specs.declared.Message.{Message}
use Rattle.model.specs.Messages.{no_message}
use Rattle.model.specs.Decimal.{decimal}
use Rattle.model.specs.Lines.{line_feed}
use Rattle.model.specs.Transcript.{spaced, end_line, message_line, message_lines, refused_word, class_word, messages_word}
use Rattle.model.proofs.Worklists.ReadBack.{length_decimal_le}
use Rattle.output_transcript.specs.LineClaims.{MachineMessage, LineClaims}
use Rattle.output_lines.proofs.RoomLaws.{length_decimal_64}
use Rattle.output_lines.proofs.LinesLaws.{spaced_number, length_counted, length_message, length_listed}

-- ---- Numbers

length_decimal_32 : (n : ℕ) → n < 2 ^ 32 → length (decimal n) ≤ 10
length_decimal_32 n fits = length_decimal_le 9 n (omega arith)

length_spaced_le : (m : ℕ) (items : List ℕ)
    → ((i : ℕ) → i < length items → get_or items i 0 < 10 ^ suc m)
    → length (spaced items) ≤ (m + 2) * length items
length_spaced_le m [] below = omega arith
length_spaced_le m (item ∷ items) below =
    let first = length_decimal_le m item (below 0 (omega arith)) in
    let others = length_spaced_le m items (λ i more. below (suc i) (omega arith)) in
    omega (arith, length-append (spaced_number item) (spaced items), first, others)

-- ---- Lines

length_end_line : (bytes : List ℕ) → length (end_line bytes) ≡ length bytes + 1
length_end_line bytes = length-append bytes (line_feed ∷ [])

length_message_le : (m : Message) → MachineMessage m → length (message_line m) ≤ 64
length_message_le m machine =
    omega (
      arith,
      length_message m,
      length_decimal_32 m.kind machine.kind,
      length_decimal_32 m.site machine.site,
      length_decimal_64 m.a machine.a,
      length_decimal_64 m.b machine.b,
    )

length_messages_le : (ms : List Message)
    → ((i : ℕ) → i < length ms → MachineMessage (get_or ms i no_message))
    → length (message_lines ms) ≤ 64 * length ms
length_messages_le [] machine = omega arith
length_messages_le (m ∷ ms) machine =
    let first = length_message_le m (machine 0 (omega arith)) in
    let others = length_messages_le ms (λ i more. machine (suc i) (omega arith)) in
    omega (arith, length-append (message_line m) (message_lines ms), first, others)

pub message_lines_append : (ms others : List Message)
    → message_lines (ms ++ others) ≡ message_lines ms ++ message_lines others
message_lines_append [] others = refl
message_lines_append (m ∷ ms) others =
    ap (λ (lines : List ℕ). message_line m ++ lines) (message_lines_append ms others)
    ∙ sym (append_assoc (message_line m) (message_lines ms) (message_lines others))

pub line_claims : LineClaims
line_claims = record {
  some = λ bytes. omega (arith, length_end_line bytes);
  digits = length_decimal_le;
  digits_64 = length_decimal_64;
  message = λ m machine. omega (arith, length_message_le m machine);
  messages = length_messages_le;
  refused = λ refusal fits.
      omega (arith, length_counted refused_word refusal, length_decimal_32 refusal fits);
  class_none = refl;
  class_value = λ value fits.
      omega (arith, length_counted class_word value, length_decimal_32 value fits);
  count = λ n fits.
      omega (arith, length_counted messages_word n, length_decimal_64 n fits);
  listed = λ m items below.
      omega (arith, length_listed items, length_spaced_le m items below);
}
