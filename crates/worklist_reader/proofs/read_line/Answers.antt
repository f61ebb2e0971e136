-- Where the line is malformed the walk stays.
use mathlib.Core.Path.{◌≡◌, sym, ap, ◌∙◌}
use mathlib.Core.Bool.{false}
use Rattle.worklist_reader.specs.Walk.{Step, step_at, standing}
use Rattle.worklist_reader.proofs.WalkLaws.{walk_claims}
use Rattle.worklist_reader.proofs.read_line.Goals as goal

pub returns-in-Err : goal.returns-in-Err
returns-in-Err c =
    let at = c.args.at in
    let line = c.args.line in
    let said = sym (rw c.in-Err.is at c.next.ensures.step) in
    let none : (step_at c.args.bytes.now at line).found ≡ false =
    ap (λ (step : Step). step.found) said in
    let stays = walk_claims.stays c.args.bytes.now at line none in
    sym (stays ∙ ap (λ (step : Step). standing step.refusal at line) said)
