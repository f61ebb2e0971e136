-- The record's row overwrites five numbers.
use mathlib.Core.Path.{◌≡◌, ap, ◌∙◌}
use mathlib.Core.List.{List}
use Prim.Native.Nat.{ℕ, ◌+◌, ◌-◌, ◌*◌}
use native.Mathlib.Omega.{arith}
use lib.ListN.{length}
use lib.Seq.{sets}
use borrow.Author.Rules.{rules}
use Rattle.record_numbers.specs.Numbers.{site_width}
use Rattle.site_numbers.proofs.Records.{part_stored}
use Rattle.site_numbers.proofs.store_site.Goals as goal

pub returns : goal.returns
returns c =
    let row = c.args.row.now in
    let at = site_width * c.args.which in
    let all : length row ≡ 192 = search rules in
    let width : at + 5 - at ≡ 5 = omega arith in
    let copied = c.copy_from_slice.ensures.after ∙ c.site_row.ensures in
    part_stored at (at + 5 - at) _ row (omega (arith, ap length copied, width))
    (omega (arith, all, width))
    ∙ ap (λ (l : List ℕ). sets row at l) copied
