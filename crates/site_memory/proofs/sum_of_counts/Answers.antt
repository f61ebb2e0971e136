-- `site_memory::sum_of_counts` meets its contract: each count is a number of 4 bytes, so that the
-- sum of 1024 is one of 8.
use native.Mathlib.Omega.{arith}
use borrow.Author.Rules.{rules}
use Rattle.model.proofs.BetweenArrivals.ReportLaws.{value_count_is}
use Rattle.site_memory.proofs.ValueLaws.{adding_on}
use Rattle.site_memory.proofs.sum_of_counts.Goals as goal

pub overflow_add-counted : goal.overflow_add-counted
overflow_add-counted c =
    omega (
      arith,
      c.loop-count.invariant.small,
      c.requires,
      value_count_is,
      c.type_inv.counts c.loop-count.count-index,
    )

pub loop-count-preserved : goal.loop-count-preserved
loop-count-preserved c =
    let loop = c.loop-count in
    adding_on c.args.counts.now loop.counted loop.count-index loop.invariant (search rules)
    (omega (arith, c.type_inv.counts loop.count-index))
