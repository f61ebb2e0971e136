-- What holds of every walk through a worklist by the steps of specs/Walk.antt. The theorem
-- `walk-claims` of proofs/WalkLaws.antt proves it.
use Rattle.std.specs.Prelude.{◌≡◌, true, false, List, ℕ, ◌+◌, ◌≤◌, ◌<◌, length, drop}
use Rattle.model.specs.Lines.{read_from, read_worklist}
use Rattle.worklist_reader.specs.Walk.{last_line, standing, step_at, then_read, walk_from}

-- A step that reads an arrival goes on by six bytes or more, and stays within the bytes.
pub record GoesOn (bytes : List ℕ) (at after : ℕ) : Type 0 where
  pub ahead : at + 6 ≤ after
  pub within : after ≤ length bytes

pub record WalkClaims : Type 0 where
  -- A walk from the first byte on reads the entries of the worklist, and no others. (A slice of
  -- bytes has fewer than 2 ^ 64.)
  pub reads_worklist : (bytes : List ℕ)
      → length bytes ≤ last_line
      → walk_from (length bytes + 1) bytes 0 0 ≡ read_worklist bytes
  -- From any place and line on, a step reads the next entry of the worklist that begins there.
  pub step_reads : (bytes : List ℕ) (at line : ℕ)
      → line < last_line
      → let step = step_at bytes at line in
      read_from (length (drop at bytes)) line (drop at bytes)
      ≡ then_read step
      (read_from (length (drop step.at bytes)) step.line (drop step.at bytes))
  pub goes_on : (bytes : List ℕ) (at line : ℕ)
      → (step_at bytes at line).found ≡ true
      → GoesOn bytes at (step_at bytes at line).at
  -- At the end, and before a malformed line, the walk stays: the next step says the same again.
  pub stays : (bytes : List ℕ) (at line : ℕ)
      → (step_at bytes at line).found ≡ false
      → step_at bytes at line ≡ standing (step_at bytes at line).refusal at line
