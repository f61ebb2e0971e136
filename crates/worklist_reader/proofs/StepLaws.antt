-- Laws of one step of a walk.
--
--   line_after_more   the number of the next line, before the last number
--   step_past         no bytes are left
--   step_by           the step by the fields of the line
use mathlib.Core.Path.{◌≡◌, ap}
use mathlib.Core.List.{List}
use Prim.Native.Nat.{ℕ, ◌+◌, ◌≤◌, ◌<◌}
use lib.ListN.{length, drop}
use borrow.Author.Tests.{lt-ltb, le-leb, lt-leb}
use Rattle.model.specs.Refusals.{no_refusal}
use Rattle.model.specs.Lines.{Fields, read_fields}
use Rattle.worklist_reader.specs.Walk.{last_line, line_after, standing, step_of, step_at}

pub line_after_more : (line : ℕ) → line < last_line → line_after line ≡ line + 1
line_after_more line more = rw (lt-ltb line last_line more)

module _ (bytes : List ℕ) (at line : ℕ) where
  pub step_past : length bytes ≤ at → step_at bytes at line ≡ standing no_refusal at line
  step_past past = rw (le-leb (length bytes) at past)

  -- The step by the fields of the line that stands there.
  pub step_by : (found : Fields)
      → at < length bytes
      → read_fields 3 (drop at bytes) ≡ found
      → step_at bytes at line ≡ step_of bytes at line found
  step_by found inside here =
      rw (lt-leb (length bytes) at inside) (ap (step_of bytes at line) here)
