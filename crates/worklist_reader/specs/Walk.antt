-- A walk through a worklist, step by step ("The reader walks the file's bytes line by line").
--
--   step_at bytes at line       the line at a place: an arrival, the end, or refusal 13
--   then_read step others       what a step adds to the worklist that is read after it
--   walk_from most bytes at line the worklist that at most so many steps read from a place on
use Rattle.std.specs.Prelude.{Bool, true, false, Option, Some, None, Result, Ok, Err, List, [], ℕ, zero, suc, ◌+◌, ◌-◌, leb, ltb, length, drop, if◌then◌else◌}
use Rattle.model.specs.Choice.{is_zero}
use Rattle.model.specs.Refusals.{no_refusal, malformed_line, number_of}
use Rattle.model.specs.Lines.{Fields, malformed, fields, read_fields, arrival_of, Worklist, ended, malformed_at, next}
use Rattle.model.specs.declared.Arrival.{Arrival}
use Rattle.model.specs.declared.Refusal.{Refusal}
use Rattle.worklist_reader.specs.declared.NextLine.{NextLine}

-- The last number that a line can have, and the number of the line after one.
abbrev pub last_line : ℕ
last_line = 18446744073709551615

abbrev pub line_after : ℕ → ℕ
line_after line = if ltb line last_line then line + 1 else line

-- ---- One step

-- One step of a walk: 0 or refusal 13, whether an arrival was read, the arrival, and where the walk
-- stands after the step: a place in the bytes, and the number of the line there, counted from 0.
pub record Step : Type 0 where
  pub refusal : ℕ
  pub found : Bool
  pub arrival : Arrival
  pub at : ℕ
  pub line : ℕ

-- No arrival: the walk stays where it is.
abbrev pub standing : ℕ → ℕ → ℕ → Step
standing refusal at line = record {
  refusal = refusal;
  found = false;
  arrival = arrival_of [];
  at = at;
  line = line;
}

-- A step by the fields of its line. After a well-formed line the walk stands behind it; it stays
-- before a malformed one.
abbrev pub step_of : List ℕ → ℕ → ℕ → Fields → Step
step_of bytes at line malformed = standing malformed_line at line
step_of bytes at line (fields numbers rest) = record {
  refusal = no_refusal;
  found = true;
  arrival = arrival_of numbers;
  at = length bytes - length rest;
  line = line_after line;
}

abbrev pub step_at : List ℕ → ℕ → ℕ → Step
step_at bytes at line =
    if leb (length bytes) at
    then standing no_refusal at line
    else step_of bytes at line (read_fields 3 (drop at bytes))

-- The step that an answer of the reader stands for, where it stands at a place and line then.
abbrev pub step_in : Result (Option Arrival) Refusal → ℕ → ℕ → Step
step_in (Ok (Some arrival)) at line = record {
  refusal = no_refusal;
  found = true;
  arrival = arrival;
  at = at;
  line = line;
}
step_in (Ok None) at line = standing no_refusal at line
step_in (Err refusal) at line = standing (number_of refusal) at line

-- The step that takes a line that was read.
abbrev pub step_to : NextLine → Step
step_to taken = step_in (Ok (Some taken.arrival)) taken.at taken.line

-- The step that an answer stands for, of a walk that stood at a place and line.
abbrev pub step_of_line : ℕ → ℕ → Result (Option NextLine) Refusal → Step
step_of_line at line (Ok (Some taken)) = step_to taken
step_of_line at line (Ok None) = standing no_refusal at line
step_of_line at line (Err refusal) = standing (number_of refusal) at line

-- ---- All steps

abbrev pub then_read : Step → Worklist → Worklist
then_read step others =
    if step.found then next step.arrival others
    else (if is_zero step.refusal then ended
    else malformed_at step.line)

abbrev pub walk_from : ℕ → List ℕ → ℕ → ℕ → Worklist
walk_from zero bytes at line = ended
walk_from (suc more) bytes at line =
    let step = step_at bytes at line in
    then_read step (walk_from more bytes step.at step.line)
