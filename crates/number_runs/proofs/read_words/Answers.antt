-- The numbers passed are read, 4 bytes each.
use native.Mathlib.Omega.{arith}
use Rattle.number_runs.proofs.RunLaws.{read_none, read_next, read_all}
use Rattle.number_runs.proofs.read_words.Goals as goal

pub loop-i-init : goal.loop-i-init
loop-i-init c =
    let a = c.args in
    read_none 4 a.place a.bytes.now a.numbers.now

pub loop-i-preserved : goal.loop-i-preserved
loop-i-preserved c =
    let start = c.args in
    let now = c.loop-i in
    read_next 4 start.place start.bytes.now start.numbers.now now.i _ _ now.invariant
    (omega arith) c.read_fixed.ensures.0

pub returns : goal.returns
returns c =
    let start = c.args in
    let now = c.loop-i in
    read_all 4 start.place start.bytes.now start.numbers.now now.i _ now.invariant
    (omega arith)
