-- The numbers passed stand written, 4 bytes each.
use mathlib.Core.Path.{ap, ◌∙◌}
use Prim.Native.Nat.{ℕ, ◌+◌, ◌*◌}
use native.Mathlib.Omega.{arith}
use Rattle.laws.specs.Writing.{written_at}
use Rattle.little_endian.specs.Numbers.{little_endian}
use Rattle.number_runs.proofs.RunLaws.{written_none, written_next, written_all}
use Rattle.number_runs.proofs.write_words.Goals as goal

pub loop-i-init : goal.loop-i-init
loop-i-init c =
    let a = c.args in
    written_none 4 a.place a.numbers.now a.bytes.now

pub loop-i-preserved : goal.loop-i-preserved
loop-i-preserved c =
    let start = c.args in
    let now = c.loop-i in
    let written = c.write_fixed in
    written_next 4 start.place start.numbers.now start.bytes.now now.i _ _
    now.invariant (omega arith) (omega arith) written.auto.bytes
    (written.ensures
    ∙ ap (λ (n : ℕ). written_at (start.place + 4 * now.i) (little_endian 4 n) now.bytes)
    c.from.ensures)

pub returns : goal.returns
returns c =
    let start = c.args in
    let now = c.loop-i in
    written_all 4 start.place start.numbers.now start.bytes.now now.i _ now.invariant
    (omega arith)
