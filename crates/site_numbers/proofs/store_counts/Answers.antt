-- The counts overwrite the row from their place on.
use mathlib.Core.Path.{◌≡◌, sym, ap, ◌∙◌}
use mathlib.Core.List.{List}
use native.Mathlib.Omega.{arith}
use lib.ListN.{length}
use lib.Seq.{sets, take_all}
use borrow.Author.Rules.{rules}
use Prim.Native.Nat.{ℕ}
use Rattle.record_numbers.specs.Numbers.{count_place}
use Rattle.site_numbers.proofs.Records.{counts_taken, part_stored}
use Rattle.site_numbers.proofs.store_counts.Goals as goal

pub returns : goal.returns
returns c =
    let row = c.args.row.now in
    let counts = c.args.counts in
    let all : length row ≡ 192 = search rules in
    let width : length counts ≡ 32 = search rules in
    let copied = c.copy_from_slice.ensures.after in
    part_stored count_place 32 _ row (ap length copied ∙ width) (omega (arith, all))
    ∙ ap (λ (l : List ℕ). sets row count_place l)
    (copied
    ∙ sym (take_all 32 counts (omega (arith, width)))
    ∙ counts_taken 32 0 counts (omega (arith, width)))
