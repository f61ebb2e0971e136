-- Laws of a session's output.
--
--   joined_messages   the lines of some messages, one after the other
--   refused_of_lem    the line of a refusal, and then the session has ended
use mathlib.Core.Path.{◌≡◌, refl, ap, ◌∙◌}
use mathlib.Core.List.{List, [], ◌∷◌, ◌++◌}
use Prim.Native.Nat.{ℕ}
use Rattle.laws.proofs.Writing.{joined}
use Rattle.model.specs.declared.Message.{Message}
use Rattle.model.specs.Transcript.{message_line, message_lines, refused_line}
use Rattle.output_lines.specs.Promises.{Written, written_to, at_start, line_after}
use Rattle.drawtrack_steps.specs.declared.Session.{Session}
use Rattle.drawtrack_steps.specs.Output.{lines_of}
use Rattle.drawtrack_steps.specs.Outcome.{with_out, outcome, ended, refused_of, Buffers}
use Rattle.drawtrack_steps.specs.declared.Moved.{Moved}

pub joined_messages : (messages : List Message) → joined (lines_of messages) ≡ message_lines
    messages
joined_messages [] = refl
joined_messages (message ∷ messages) =
    ap (λ (later : List ℕ). message_line message ++ later) (joined_messages messages)

pub refused_of_lem : (session : Session) (refusal place : ℕ) (before after : List ℕ) (moved : Moved)
    → moved ≡ ended session refusal place
    → written_to place after ≡ line_after (at_start before) (refused_line refusal)
    → (given : Buffers)
    → outcome moved (with_out given after) ≡ refused_of session refusal (with_out given before)
refused_of_lem session refusal place before after moved is line given =
    let moved-is = is ∙ ap (λ (written : Written). ended session refusal written.place) line in
    (λ i. outcome (moved-is i) (with_out given (line i).out))
