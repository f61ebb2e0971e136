-- The invariant is the sum of the numbers passed, at most the limit for each of them.
use native.Mathlib.Omega.{arith}
use Rattle.model.proofs.BetweenArrivals.ReportLaws.{value_count_is}
use Rattle.coordinator_memory.proofs.NumberLaws.{summed_on, within_at}
use Rattle.model.specs.Limits.{coordinator_limit}
use Rattle.coordinator_memory.proofs.sum_of.Goals as goal

pub overflow_add-total : goal.overflow_add-total
overflow_add-total c =
    let number = within_at coordinator_limit c.args.numbers.now c.requires.small
    c.loop-number.number-index in
    omega (
      arith,
      c.loop-number.invariant.small,
      c.loop-number.invariant.place,
      c.requires.few,
      value_count_is,
    )

pub loop-number-preserved : goal.loop-number-preserved
loop-number-preserved c =
    summed_on coordinator_limit c.args.numbers.now c.loop-number.total c.loop-number.number-index
    c.loop-number.invariant c.loop-number-test.true
    (within_at coordinator_limit c.args.numbers.now c.requires.small c.loop-number.number-index)
