-- How an input ends: with results or by a refusal, and at which line (document 01's section
-- "Worklist"). Lines are those of the input, as crate output_reason numbers them.
--
--   Ending, ending_at refusal line       a refusal, 0 for none, and a line
--   ending_line settings refusal calls   where it ends, after so many calls of `advance`
--   ending input                         how an input ends
--   Front, Last                          the first and the last bytes of a whole
--   EndsAs refusal whole                 the last lines are those of a refusal, 0 for results
use Rattle.std.specs.Prelude.{◌≡◌, true, false, List, ◌++◌, ℕ, zero, suc, ◌+◌}
use Rattle.model.specs.declared.Settings.{Settings}
use Rattle.model.specs.Choice.{is_zero}
use Rattle.model.specs.Refusals.{no_refusal, malformed_line}
use Rattle.model.specs.Lines.{Fields, malformed, fields, read_fields, settings_of, Worklist, ended, malformed_at, next, read_worklist}
use Rattle.model.specs.Runs.{Run, fresh_run, run_one, line_refusal_in}
use Rattle.model.specs.Transcript.{refused_line, result_lines, program_refusal}
use Rattle.output_reason.specs.Reason.{settings_line, first_line}
use Rattle.drawtrack_start.specs.Start.{start_line}

pub record Ending : Type 0 where
  pub refusal : ℕ
  pub line : ℕ

abbrev pub ending_at : ℕ → ℕ → Ending
ending_at refusal line = record { refusal = refusal; line = line }

-- ---- Lines of the input

-- Each call of `advance` takes one line of the worklist.
abbrev pub ending_line : Settings → ℕ → ℕ → ℕ
ending_line settings refusal zero = start_line settings refusal
ending_line settings refusal (suc calls) = calls + first_line

-- ---- How an input ends

-- Line by line, as the transcript has it; results come where no line is left.
abbrev pub ending_from : Settings → Run → ℕ → Worklist → Ending
ending_from settings run line ended = ending_at no_refusal line
ending_from settings run line (malformed_at _) = ending_at malformed_line line
ending_from settings run line (next arrival others) =
    let refusal = line_refusal_in settings run.network arrival in
    elim (is_zero refusal) [
      | true ↦ ending_from settings (run_one settings run arrival) (line + 1) others
      | false ↦ ending_at refusal line
    ]

abbrev pub ending_with : Settings → List ℕ → Ending
ending_with settings worklist =
    let refusal = program_refusal settings worklist in
    elim (is_zero refusal) [
      | true ↦ ending_from settings (fresh_run settings) first_line (read_worklist worklist)
      | false ↦ ending_at refusal (start_line settings refusal)
    ]

abbrev pub ending_of : Fields → Ending
ending_of malformed = ending_at malformed_line settings_line
ending_of (fields numbers worklist) = ending_with (settings_of numbers) worklist

abbrev pub ending : List ℕ → Ending
ending input = ending_of (read_fields 6 input)

-- ---- The transcript's bytes

pub record Front (front whole : List ℕ) : Type 0 where
  pub rest : List ℕ
  pub is : whole ≡ front ++ rest

pub record Last (last whole : List ℕ) : Type 0 where
  pub earlier : List ℕ
  pub is : whole ≡ earlier ++ last

-- The results of a run.
pub record EndsInResults (whole : List ℕ) : Type 0 where
  pub settings : Settings
  pub run : Run
  pub last : Last (result_lines settings run) whole

-- By a refusal: the last line is `refused` and the number; or, where that is 0, the last lines are
-- the results.
pub record EndsAs (refusal : ℕ) (whole : List ℕ) : Type 0 where
  pub refused : is_zero refusal ≡ false → Last (refused_line refusal) whole
  pub results : is_zero refusal ≡ true → EndsInResults whole
