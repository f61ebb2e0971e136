-- `site_memory::count_up_to` meets its contract: the counts up to a value are the first ones.
use Prim.Native.Nat.{ℕ, ◌+◌, ◌-◌}
use mathlib.Core.Path.{◌≡◌, ◌∙◌, sym, ap}
use native.Mathlib.Omega.{arith}
use lib.ListN.{take, drop}
use Rattle.model.specs.SiteMemory.{sum}
use Rattle.site_memory.proofs.ValueLaws.{up_to_values_at}
use Rattle.site_memory.proofs.count_up_to.Goals as goal

pub returns : goal.returns
returns c =
    let a = c.args in
    let width : a.from + a.value + 1 - a.from ≡ a.value + 1 = omega arith in
    c.sum_of_counts.ensures
    ∙ ap (λ (n : ℕ). sum (take n (drop a.from a.memory.now))) width
    ∙ sym (up_to_values_at a.memory.now a.from c.requires.long_enough a.value
    c.requires.value_within)
