-- `site_memory::values_sum_to` meets its contract: all counts of a histogram are its first 1024.
use Prim.Native.Nat.{ℕ, ◌+◌, ◌-◌}
use mathlib.Core.Path.{◌≡◌, ◌∙◌, ap}
use native.Mathlib.Omega.{arith}
use lib.Dec.{eqb}
use lib.ListN.{take, drop, length-drop}
use lib.Seq.{length-take-le}
use Rattle.model.specs.Limits.{value_count}
use Rattle.model.specs.SiteMemory.{sum}
use Rattle.model.proofs.BetweenArrivals.ReportLaws.{value_count_is}
use Rattle.site_memory.proofs.values_sum_to.Goals as goal

pub slice_bounds-sum_of_counts-end : goal.slice_bounds-sum_of_counts-end
slice_bounds-sum_of_counts-end c = omega (arith, value_count_is)

pub sum_of_counts-requires : goal.sum_of_counts-requires
sum_of_counts-requires c =
    let a = c.args in
    let width : a.from + 1024 - a.from ≡ value_count = omega (arith, value_count_is) in
    rw width
    (omega (
      arith,
      length-take-le value_count (drop a.from a.memory.now)
          (rw (length-drop a.from a.memory.now) (omega arith)),
    ))

pub returns : goal.returns
returns c =
    let a = c.args in
    let width : a.from + 1024 - a.from ≡ value_count = omega (arith, value_count_is) in
    ap (λ (n : ℕ). eqb n a.total)
    (c.sum_of_counts.ensures ∙ ap (λ (n : ℕ). sum (take n (drop a.from a.memory.now))) width)
