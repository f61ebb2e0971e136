-- The run's answer, or that the lent memory was too short.
use Rattle.std.proofs.Common.{◌≡◌, ap, ◌∙◌, ℕ, ◌≤◌, List, ◌++◌, length as count, take, take_at, length-take-le}
use Rattle.drawtrack_run.specs.Running.{failed}
use Rattle.drawtrack_run_c.proofs.MemoryLaws.{memory_says, memory_failed}
use Rattle.drawtrack_run_c.proofs.drawtrack_run_in_memory.Goals as goal

pub returns-then-length-pieces : goal.returns-then-length-pieces
returns-then-length-pieces c = record { says = failed; gives = memory_failed _ _ _ }

pub returns-then-length-bytes : goal.returns-then-length-bytes
returns-then-length-bytes c = record { says = failed; gives = memory_failed _ _ _ }

-- The copy begins with what the run handed out.
copied : (length : ℕ) (held copy rest : List ℕ)
    → length ≤ count held
    → copy ≡ take length held
    → take length (copy ++ rest) ≡ take length held
copied length held copy rest fits is =
    take_at copy rest length (ap count is ∙ length-take-le length held fits) ∙ is

pub returns : goal.returns
returns c =
    let run = c.drawtrack_run-status in
    let held = run.new.output.bytes.now in
    record {
      says = run.ensures.says;
      gives =
          memory_says _ c.args.held.now held _ _ _ run.ensures.gives
          (copied run.new.output.length held c.copy_from_slice.new.self _
          c.if-length-pieces.false c.copy_from_slice.ensures.after);
    }
