-- Laws of walking a worklist line by line, and the theorem on every worklist.
--
--   read_from_line, -malformed, -ended   one line, with at least one byte left or none
--   read_from_enough                     more lines allowed than there are bytes change nothing
--   read_all_line                        one line, and then the rest
--   read_from_written                    a file that was written is read back, from any line on
--   worklist_claims                      the theorem (specs/WorklistClaims.antt)
use mathlib.Core.Path.{◌≡◌, refl, sym, ap, ◌∙◌}
use mathlib.Core.Bool.{true}
use mathlib.Core.List.{List, [], ◌∷◌}
use Prim.Native.Nat.{ℕ, zero, suc, ◌+◌, ◌≤◌}
use native.Mathlib.Omega.{arith}
use lib.ListN.{length, length-append}
use Rattle.laws.proofs.Tests.{both_true}
use Rattle.model.specs.declared.Arrival.{Arrival}
use Rattle.model.specs.Lines.{Fields, malformed, fields, line_feed, read_fields, arrival_of, fields_of, ended, malformed_at, next, read_from, write_worklist}
use Rattle.model.specs.WorklistClaims.{all_small, all_writable, worklist_of, LineLength, WorklistClaims}
use Rattle.model.proofs.Worklists.ReadBack.{read_back_fields}
use Rattle.model.proofs.Worklists.LineTaken.{fields_taken}

-- ---- One line

pub read_from_ended : (more line : ℕ) → read_from more line [] ≡ ended
read_from_ended zero line = refl
read_from_ended (suc more) line = refl

pub read_from_malformed : (more line byte : ℕ) (bytes : List ℕ)
    → read_fields 3 (byte ∷ bytes) ≡ malformed
    → read_from more line (byte ∷ bytes) ≡ malformed_at line
read_from_malformed zero line byte bytes bad = refl
read_from_malformed (suc more) line byte bytes bad = rw (bad, read_from)

pub read_from_line : (more line byte : ℕ) (bytes numbers rest : List ℕ)
    → read_fields 3 (byte ∷ bytes) ≡ fields numbers rest
    → read_from (suc more) line (byte ∷ bytes)
    ≡ next (arrival_of numbers) (read_from more (line + 1) rest)
read_from_line more line byte bytes numbers rest here = rw (here, read_from)

pub line_length_of : (bytes numbers rest : List ℕ)
    → read_fields 3 bytes ≡ fields numbers rest
    → LineLength bytes rest
line_length_of bytes numbers rest here =
    let taken = fields_taken line_feed 3 bytes numbers rest here in
    let whole = ap length taken.splits ∙ length-append taken.front rest in
    record {
      at_least = omega (arith, whole, taken.at_least);
      at_most = omega (arith, whole, taken.at_most);
    }

-- ---- Enough lines

-- Each line takes a byte or more, so the bytes run out before the lines do.
pub read_from_enough : (more more' line : ℕ) (bytes : List ℕ)
    → length bytes ≤ more
    → length bytes ≤ more'
    → read_from more line bytes ≡ read_from more' line bytes
read_from_enough zero more' line [] few few' = sym (read_from_ended more' line)
read_from_enough zero more' line (byte ∷ bytes) few few' = absurd (omega arith)
read_from_enough (suc more) more' line [] few few' = sym (read_from_ended more' line)
read_from_enough (suc more) zero line (byte ∷ bytes) few few' = absurd (omega arith)
read_from_enough (suc more) (suc more') line (byte ∷ bytes) few few' =
    by_line (read_fields 3 (byte ∷ bytes)) refl
    (λ rest. read_from_enough more more' (line + 1) rest)
  where
    by_line : (found : Fields)
        → read_fields 3 (byte ∷ bytes) ≡ found
        → ((rest : List ℕ)
        → length rest ≤ more
        → length rest ≤ more'
        → read_from more (line + 1) rest ≡ read_from more' (line + 1) rest)
        → read_from (suc more) line (byte ∷ bytes) ≡ read_from (suc more') line (byte ∷ bytes)
    by_line malformed bad further =
        read_from_malformed (suc more) line byte bytes bad
        ∙ sym (read_from_malformed (suc more') line byte bytes bad)
    by_line (fields numbers rest) here further =
        let shorter = (line_length_of (byte ∷ bytes) numbers rest here).at_least in
        let same = further rest (omega arith) (omega arith) in
        read_from_line more line byte bytes numbers rest here
        ∙ ap (next (arrival_of numbers)) same
        ∙ sym (read_from_line more' line byte bytes numbers rest here)

-- A well-formed line is read, and then the rest, each with as many lines allowed as it has bytes.
pub read_all_line : (line : ℕ) (bytes numbers rest : List ℕ)
    → read_fields 3 bytes ≡ fields numbers rest
    → read_from (length bytes) line bytes
    ≡ next (arrival_of numbers) (read_from (length rest) (line + 1) rest)
read_all_line line [] numbers rest here =
    absurd (omega (arith, (line_length_of [] numbers rest here).at_least))
read_all_line line (byte ∷ bytes) numbers rest here =
    let shorter = (line_length_of (byte ∷ bytes) numbers rest here).at_least in
    read_from_line (length bytes) line byte bytes numbers rest here
    ∙ ap (next (arrival_of numbers))
    (read_from_enough (length bytes) (length rest) (line + 1) rest (omega arith) (omega arith))

-- ---- Reading back

pub read_from_written : (line : ℕ) (arrivals : List Arrival)
    → all_writable arrivals ≡ true
    → read_from (length (write_worklist arrivals)) line (write_worklist arrivals) ≡ worklist_of
    arrivals
read_from_written line [] writable = refl
read_from_written line (arrival ∷ arrivals) writable =
    let both = both_true (all_small (fields_of arrival)) (all_writable arrivals) writable in
    let others = arrival.item ∷ (arrival.value ∷ []) in
    read_all_line line (write_worklist (arrival ∷ arrivals)) (fields_of arrival)
    (write_worklist arrivals)
    (read_back_fields arrival.site others (write_worklist arrivals) both.first_true)
    ∙ ap (next arrival) (read_from_written (line + 1) arrivals both.second_true)

pub worklist_claims : WorklistClaims
worklist_claims = record {
  empty_file = refl;
  lines_read_back = read_from_written 0;
  line_length = line_length_of;
  lines_enough = λ more line bytes few.
      read_from_enough more (length bytes) line bytes few (omega arith);
}
