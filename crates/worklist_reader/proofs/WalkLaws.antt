-- Laws of whole walks, and the theorem on every walk.
--
--   step_cases     what holds at the end, before a malformed line and behind a well-formed one,
--                  holds of every step
--   walk_reads     a walk from a place on reads the worklist that begins there
--   walk_claims    the theorem (specs/WalkClaims.antt)
use mathlib.Core.Path.{◌≡◌, refl, sym, ap, ◌∙◌, subst}
use mathlib.Core.Bool.{true, false, true≢false, false≢true}
use mathlib.Core.List.{List, [], ◌∷◌, ◌++◌, append_assoc}
use Prim.Native.Nat.{ℕ, zero, suc, ◌+◌, ◌-◌, ◌≤◌, ◌<◌}
use native.Mathlib.Omega.{arith}
use native.Mathlib.Decide.{dec_le}
use lib.ListN.{length, take, drop, length-append, length-drop, take-append-drop, drop_of_length-le}
use lib.Seq.{drop_at}
use Rattle.model.specs.Refusals.{no_refusal, malformed_line}
use Rattle.model.specs.Lines.{Fields, malformed, fields, line_feed, read_fields, arrival_of, malformed_at, next, read_from}
use Rattle.model.proofs.Worklists.LineTaken.{fields_taken}
use Rattle.model.proofs.Worklists.WorklistLaws.{read_from_malformed, read_all_line}
use Rattle.worklist_reader.specs.Walk.{Step, last_line, standing, step_of, step_at, then_read, walk_from}
use Rattle.worklist_reader.specs.WalkClaims.{GoesOn, WalkClaims}
use Rattle.worklist_reader.proofs.StepLaws.{line_after_more, step_past, step_by}

-- ---- The three cases of a step

-- A worklist whose first line is malformed.
malformed_first : (line : ℕ) (left : List ℕ)
    → 0 < length left
    → read_fields 3 left ≡ malformed
    → read_from (length left) line left ≡ malformed_at line
malformed_first line [] some bad = absurd (omega arith)
malformed_first line (byte ∷ left) some bad =
    read_from_malformed (suc (length left)) line byte left bad

-- A well-formed line at a place: its numbers, and the place after it.
pub record LineAt (bytes : List ℕ) (at : ℕ) (numbers rest : List ℕ) : Type 0 where
  pub read : read_fields 3 (drop at bytes) ≡ fields numbers rest
  pub after : drop (length bytes - length rest) bytes ≡ rest
  pub place : GoesOn bytes at (length bytes - length rest)

-- The bytes up to the line, the line, and the rest.
line_at : (bytes : List ℕ) (at : ℕ) (numbers rest : List ℕ)
    → at < length bytes
    → read_fields 3 (drop at bytes) ≡ fields numbers rest
    → LineAt bytes at numbers rest
line_at bytes at numbers rest inside read =
    let taken = fields_taken line_feed 3 (drop at bytes) numbers rest read in
    let front = take at bytes ++ taken.front in
    let whole : bytes ≡ front ++ rest
    = sym (take-append-drop at bytes)
    ∙ ap (λ (end : List ℕ). take at bytes ++ end) taken.splits
    ∙ sym (append_assoc (take at bytes) taken.front rest) in
    let long = ap length whole ∙ length-append front rest in
    let short = sym (length-drop at bytes) ∙ ap length taken.splits
    ∙ length-append taken.front rest in
    record {
      read = read;
      after =
          ap (drop (length bytes - length rest)) whole
          ∙ drop_at front rest (length bytes - length rest) (omega (arith, long));
      place = record {
        ahead = omega (arith, short, taken.at_least);
        within = omega arith;
      };
    }

module _ (bytes : List ℕ) (at line : ℕ) where
  pub step_cases : (P : Step → Type 0)
      → (length bytes ≤ at → P (standing no_refusal at line))
      → (at < length bytes
      → read_fields 3 (drop at bytes) ≡ malformed
      → P (standing malformed_line at line))
      → ((numbers rest : List ℕ)
      → LineAt bytes at numbers rest
      → P (step_of bytes at line (fields numbers rest)))
      → P (step_at bytes at line)
  step_cases P at_end at-malformed at-line = by_place (dec_le (length bytes) at)
    where
      by_line : (found : Fields)
          → at < length bytes
          → read_fields 3 (drop at bytes) ≡ found
          → P (step_at bytes at line)
      by_line malformed inside bad =
          subst P (sym (step_by bytes at line malformed inside bad)) (at-malformed inside bad)
      by_line (fields numbers rest) inside read =
          subst P (sym (step_by bytes at line (fields numbers rest) inside read))
          (at-line numbers rest (line_at bytes at numbers rest inside read))

      by_place : Dec (length bytes ≤ at) → P (step_at bytes at line)
      by_place (yes past) = subst P (sym (step_past bytes at line past)) (at_end past)
      by_place (no inside) = by_line (read_fields 3 (drop at bytes)) (omega arith) refl

  -- ---- One step

  goes_on_of : (step_at bytes at line).found ≡ true → GoesOn bytes at (step_at bytes at line).at
  goes_on_of =
      step_cases (λ (step : Step). step.found ≡ true → GoesOn bytes at step.at)
      (λ past found. absurd (false≢true found))
      (λ inside bad found. absurd (false≢true found))
      (λ numbers rest here found. here.place)

  stays_of : (step_at bytes at line).found ≡ false
      → step_at bytes at line ≡ standing (step_at bytes at line).refusal at line
  stays_of =
      step_cases
      (λ (step : Step). step.found ≡ false → step ≡ standing step.refusal at line)
      (λ past missing. refl)
      (λ inside bad missing. refl)
      (λ numbers rest here missing. absurd (true≢false missing))

  pub step_reads_of : line < last_line
      → let step = step_at bytes at line in
      read_from (length (drop at bytes)) line (drop at bytes)
      ≡ then_read step
      (read_from (length (drop step.at bytes)) step.line (drop step.at bytes))
  step_reads_of more =
      step_cases
      (λ (step : Step). read_from (length (drop at bytes)) line (drop at bytes)
      ≡ then_read step
      (read_from (length (drop step.at bytes)) step.line (drop step.at bytes)))
      (λ past. rw (drop_of_length-le bytes past))
      (λ inside bad.
      malformed_first line (drop at bytes) (omega (arith, length-drop at bytes)) bad)
      (λ numbers rest here. rw (here.after, line_after_more line more)
      (read_all_line line (drop at bytes) numbers rest here.read))

-- ---- All steps

-- Each step that reads an arrival leaves fewer bytes, so there are enough steps.
pub walk_reads : (most : ℕ) (bytes : List ℕ) (at line : ℕ)
    → length bytes - at < most
    → line + (length bytes - at) ≤ last_line
    → walk_from most bytes at line ≡ read_from (length (drop at bytes)) line (drop at bytes)
walk_reads zero bytes at line enough few = absurd (omega arith)
walk_reads (suc most) bytes at line enough few =
    step_cases bytes at line
    (λ (step : Step). then_read step (walk_from most bytes step.at step.line)
    ≡ read_from (length (drop at bytes)) line (drop at bytes))
    (λ past. rw (drop_of_length-le bytes past))
    (λ inside bad.
    sym
    (malformed_first line (drop at bytes) (omega (arith, length-drop at bytes)) bad))
    (λ numbers rest here.
    let after = length bytes - length rest in
    let place = here.place in
    let shorter : length bytes - after < most = omega (arith, place.ahead, place.within) in
    let room : line + 1 + (length bytes - after) ≤ last_line
    = omega (arith, place.ahead, place.within) in
    let others = walk_reads most bytes after (line + 1) shorter room in
    rw (line_after_more line (omega arith))
    (ap (next (arrival_of numbers))
    (others ∙ ap (λ (left : List ℕ). read_from (length left) (line + 1) left) here.after)
    ∙ sym (read_all_line line (drop at bytes) numbers rest here.read)))

pub walk_claims : WalkClaims
walk_claims = record {
  reads_worklist = λ bytes few.
      walk_reads (length bytes + 1) bytes 0 0 (omega arith) (omega arith);
  step_reads = step_reads_of;
  goes_on = goes_on_of;
  stays = stays_of;
}
