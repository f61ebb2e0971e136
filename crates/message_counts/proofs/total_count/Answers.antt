-- The first k counts added up; a sum that 64 bits do not hold stays at what they hold at most.
use mathlib.Core.Path.{◌≡◌, ◌∙◌}
use Prim.Native.Nat.{◌+◌, min}
use lib.ListN.{take}
use borrow.Author.Rules.{rules}
use Rattle.std.specs.List.{fold}
use Rattle.message_counts.specs.Totals.{largest_count}
use Rattle.message_counts.proofs.TotalLaws.{held_sum}
use Rattle.message_counts.proofs.total_count.Goals as goal

pub returns : goal.returns
returns c =
    let a = c.args in
    let told : c.fold.result
    ≡ fold (λ total n. min (total + n) largest_count) 0 (take a.settings.sites a.counts) =
    search rules in
    told ∙ held_sum (take a.settings.sites a.counts)
