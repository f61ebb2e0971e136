-- The call `advance`, for every input: a line of the worklist, or its end (document 01's section
-- "Worklist").
--
--   AdvanceSays                      the promise
use Rattle.std.specs.Prelude.{◌≡◌, true, List, ℕ, if◌then◌else◌}
use Rattle.model.specs.Choice.{is_zero}
use Rattle.model.specs.Refusals.{no_refusal}
use Rattle.worklist_reader.specs.Walk.{Step, step_at}
use Rattle.tracker.specs.Batch.{batch_in}
use Rattle.drawtrack_steps.specs.declared.Session.{Session}
use Rattle.drawtrack_steps.specs.declared.Moved.{Moved}
use Rattle.drawtrack_steps.specs.Outcome.{Buffers, Outcome, outcome, SameLengths, refused_of}
use Rattle.drawtrack_steps.specs.Steps.{draw_call, draw_refusal, draw_of, results_of, FewBytes}

-- ---- A line

-- By what is read at the session's place: a draw, the end, or a malformed line.
abbrev pub line_of : Session → Step → Buffers → Outcome
line_of session step given =
    if step.found then draw_of session step given
    else (if is_zero step.refusal then results_of session given
    else refused_of session step.refusal given)

-- ---- The promise

pub record SessionLineSays (session : Session) (step : Step) (given left : Buffers) (answer : Moved)
    : Type 0 where
  pub is : outcome answer left ≡ line_of session step given
  pub few_bytes : step.found ≡ true
      → draw_refusal (draw_call session step given) ≡ no_refusal
      → FewBytes (batch_in (draw_call session step given))

pub record AdvanceSays (input : List ℕ) (session : Session) (given left : Buffers) (answer : Moved)
    : Type 0 where
  pub line : SessionLineSays session (step_at input session.at session.line) given left answer
  pub lengths : SameLengths given left
