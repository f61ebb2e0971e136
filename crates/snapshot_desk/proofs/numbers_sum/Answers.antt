-- The invariant is the sum of the numbers passed, at most the limit for each of them.
use native.Mathlib.Omega.{arith}
use Rattle.model.specs.Limits.{coordinator_limit}
use Rattle.model.proofs.BetweenArrivals.ReportLaws.{value_count_is}
use Rattle.coordinator_memory.proofs.NumberLaws.{summed_start, summed_on, summed_end, within_at}
use Rattle.snapshot_desk.specs.Desk.{numbers_from}
use Rattle.snapshot_desk.proofs.DeskLaws.{numbers_long, number_there}
use Rattle.snapshot_desk.proofs.numbers_sum.Goals as goal

pub loop-i-init : goal.loop-i-init
loop-i-init c =
    let a = c.args in
    summed_start coordinator_limit (numbers_from a.file.now a.from a.count)

pub overflow_add-total : goal.overflow_add-total
overflow_add-total c =
    let a = c.args in
    let file = c.args.file.now in
    let i = c.loop-i.i in
    let number = number_there file a.from a.count i _ c.loop-i-test.true
    c.read_fixed-total.ensures.0 in
    let small = within_at coordinator_limit (numbers_from file a.from a.count)
    c.requires.small i in
    omega (
      arith,
      number,
      small,
      c.loop-i.invariant.small,
      c.loop-i-test.true,
      c.requires.few,
      value_count_is,
    )

pub loop-i-preserved : goal.loop-i-preserved
loop-i-preserved c =
    let a = c.args in
    let file = c.args.file.now in
    let i = c.loop-i.i in
    let inside = c.loop-i-test.true in
    let numbers = numbers_from file a.from a.count in
    let number = number_there file a.from a.count i _ inside c.read_fixed-total.ensures.0 in
    let small = within_at coordinator_limit numbers c.requires.small i in
    rw number
    (summed_on coordinator_limit numbers c.loop-i.total i c.loop-i.invariant
    (omega (arith, inside, numbers_long file a.from a.count)) small)

pub returns : goal.returns
returns c =
    let a = c.args in
    let file = c.args.file.now in
    summed_end coordinator_limit (numbers_from file a.from a.count) c.loop-i.total
    c.loop-i.i c.loop-i.invariant
    (omega (arith, c.loop-i-test.false, numbers_long file a.from a.count))
