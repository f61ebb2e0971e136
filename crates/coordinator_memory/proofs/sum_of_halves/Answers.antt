-- The invariant is the sum of the halves passed, each a number of 32 bits.
use mathlib.Core.Path.{sym}
use native.Mathlib.Omega.{arith}
use Rattle.coordinator_memory.specs.Consistency.{higher_halves}
use Rattle.coordinator_memory.proofs.NumberLaws.{summed_on, summed_end, length_halves, halves_at}
use Rattle.coordinator_memory.proofs.sum_of_halves.Goals as goal

pub loop-number-preserved : goal.loop-number-preserved
loop-number-preserved c =
    let numbers = c.args.numbers.now in
    let i = c.loop-number.number-index in
    rw (sym (halves_at numbers i))
    (summed_on 4294967295 (higher_halves numbers) c.loop-number.total i
    c.loop-number.invariant
    (omega (arith, length_halves numbers, c.loop-number-test.true))
    (omega (arith, halves_at numbers i)))

pub returns : goal.returns
returns c =
    let numbers = c.args.numbers.now in
    summed_end 4294967295 (higher_halves numbers) c.loop-number.total c.loop-number.number-index
    c.loop-number.invariant (omega (arith, length_halves numbers, c.loop-number-test.false))
