-- The contracts of the reader, a struct that holds a worklist's bytes and where it stands in them.
use Rattle.std.specs.Prelude.{◌≡◌, List, ℕ}
use Rattle.std.specs.Borrow.{Bor}
use Rattle.worklist_reader.specs.declared.Reader.{Reader}
use Rattle.worklist_reader.specs.Walk.{Step, step_at}

-- A reader of these bytes stands before the first of them, at line 0.
pub record OpenReaderSays (bytes : Bor (List ℕ)) (answer : Reader) : Type 0 where
  pub bytes_held : answer.bytes ≡ bytes
  pub at_first : answer.at ≡ 0
  pub line_first : answer.line ≡ 0

-- The answer is the step at the reader's place; the reader stands where the step ends.
pub record NextSays (before after : Reader) (answer : Step) : Type 0 where
  pub step : answer ≡ step_at before.bytes.now before.at before.line
  pub bytes_kept : after.bytes ≡ before.bytes
  pub at_after : after.at ≡ answer.at
  pub line_after : after.line ≡ answer.line
