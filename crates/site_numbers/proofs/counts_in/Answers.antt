-- The counts are the row from their place on.
use mathlib.Core.Path.{◌≡◌, ◌∙◌}
use native.Mathlib.Omega.{arith}
use lib.ListN.{length}
use borrow.Author.Rules.{rules}
use Rattle.record_numbers.specs.Numbers.{count_place}
use Rattle.site_numbers.proofs.Records.{counts_taken}
use Rattle.site_numbers.proofs.counts_in.Goals as goal

pub returns : goal.returns
returns c =
    let row = c.args.row.now in
    let all : length row ≡ 192 = search rules in
    c.copy_from_slice.ensures.after ∙ counts_taken 32 count_place row (omega (arith, all))
