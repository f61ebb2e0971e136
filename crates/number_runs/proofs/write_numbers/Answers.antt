-- The numbers passed stand written, as many bytes each as the width says.
use native.Mathlib.Omega.{arith}
use Rattle.number_runs.proofs.RunLaws.{written_none, written_next, written_all}
use Rattle.number_runs.proofs.write_numbers.Goals as goal

pub loop-i-init : goal.loop-i-init
loop-i-init g c =
    let a = c.args in
    written_none g.row.WIDTH a.place a.numbers.now a.bytes.now

pub loop-i-preserved : goal.loop-i-preserved
loop-i-preserved g c =
    let start = c.args in
    let now = c.loop-i in
    let written = c.write_fixed in
    written_next g.row.WIDTH start.place start.numbers.now start.bytes.now now.i _ _
    now.invariant (omega arith) c.requires.0 written.auto.bytes
    written.ensures

pub returns : goal.returns
returns g c =
    let start = c.args in
    let now = c.loop-i in
    written_all g.row.WIDTH start.place start.numbers.now start.bytes.now now.i _ now.invariant
    (omega arith)
