-- What is still to be written over the bytes gives what is asked for.
use mathlib.Core.Path.{◌∙◌}
use native.Mathlib.Omega.{arith}
use Rattle.little_endian.proofs.WrittenLaws.{written_step}
use Rattle.little_endian.proofs.write_number.Goals as goal

pub loop-i-preserved : goal.loop-i-preserved
loop-i-preserved c =
    let start = c.args in
    let now = c.loop-i in
    written_step start.place start.width now.i now.rest now.bytes (omega arith) (omega arith)
    ∙ now.invariant
