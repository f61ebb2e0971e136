-- The invariant is `Searching`: no value passed has enough counts at or below it.
use native.Mathlib.Omega.{arith}
use Rattle.coordinator_reading.proofs.ReadLaws.{searching_fits}
use Rattle.model.proofs.BetweenArrivals.ReportLaws.{value_count_is}
use Rattle.coordinator_reading.proofs.least_value.Goals as goal

pub overflow_add-below : goal.overflow_add-below
overflow_add-below c =
    let loop = c.loop-value in
    omega (
      arith,
      searching_fits c.args.rank c.args.total c.args.counts.now loop.below loop.value c.requires
          loop.invariant c.loop-value-test.true,
    )

pub overflow_mul-below : goal.overflow_mul-below
overflow_mul-below c =
    let loop = c.loop-value in
    omega (
      arith,
      searching_fits c.args.rank c.args.total c.args.counts.now loop.below loop.value c.requires
          loop.invariant c.loop-value-test.true,
    )

pub overflow_cast-result : goal.overflow_cast-result
overflow_cast-result c = omega (arith, c.loop-value-test.true, c.requires.few, value_count_is)
