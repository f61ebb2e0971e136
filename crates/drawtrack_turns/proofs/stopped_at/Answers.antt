-- Before the first call of `advance` it is the start's line, and later the last call's.
use Rattle.drawtrack_turns.proofs.ServingLaws.{line_first, line_later}
use Rattle.drawtrack_turns.proofs.stopped_at.Goals as goal

pub returns-then-turns-eq0 : goal.returns-then-turns-eq0
returns-then-turns-eq0 c =
    let args = c.args in
    line_first args.taken args.session _ _ c.if-turns-eq0.true
    c.start_line-line.ensures

pub returns-else-turns-eq0 : goal.returns-else-turns-eq0
returns-else-turns-eq0 c =
    let args = c.args in
    line_later args.taken args.session args.turns c.if-turns-eq0.false
