-- The bytes from a place on are read from the last: the number that they say so far.
use Prim.Native.Nat.{◌-◌, ◌<◌}
use borrow.Author.Rules.{rules}
use native.Mathlib.Omega.{arith}
use Rattle.little_endian.proofs.WrittenLaws.{room_for_byte, number_step, number_step_below}
use Rattle.little_endian.proofs.read_number.Goals as goal

pub overflow_mul-n : goal.overflow_mul-n
overflow_mul-n c =
    let now = c.loop-i in
    record {
      fits =
          omega (
            arith,
            room_for_byte (c.args.width - now.i) now.n 0 now.invariant.0 (omega arith)
                (omega arith),
          );
    }

pub overflow_add-n : goal.overflow_add-n
overflow_add-n c =
    let now = c.loop-i in
    let small : c.from.result < 256 = search rules in
    record {
      fits =
          room_for_byte (c.args.width - now.i) now.n c.from.result now.invariant.0 (omega arith)
          small;
    }

pub loop-i-preserved : goal.loop-i-preserved
loop-i-preserved c =
    let start = c.args in
    let now = c.loop-i in
    let byte = c.from.result in
    let small : byte < 256 = search rules in (
      number_step_below start.place start.width now.i now.n byte start.bytes.now
          (omega arith) (omega arith) small now.invariant.0,
      number_step start.place start.width now.i now.n byte start.bytes.now
          (omega arith) (omega arith) small (omega arith) now.invariant.1 c.from.ensures,
    )
