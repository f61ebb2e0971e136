-- The lowest of the number's eight bytes.
use mathlib.Core.Path.{◌≡◌, ap, ◌∙◌}
use mathlib.Core.List.{List}
use Prim.Native.Nat.{ℕ}
use lib.ListN.{length, take}
use Rattle.laws.specs.Writing.{written_at}
use Rattle.little_endian.specs.Numbers.{little_endian}
use Rattle.little_endian.proofs.NumberLaws.{length_little_endian}
use Rattle.little_endian.proofs.WrittenLaws.{std_bytes, take_little_endian, part_written}
use Rattle.little_endian.proofs.write_fixed.Goals as goal

pub returns : goal.returns
returns g c =
    let a = c.args in
    let width = g.row.WIDTH in
    let written : c.copy_from_slice.new.self ≡ little_endian width a.n =
    c.copy_from_slice.ensures.after
    ∙ ap (take width) (c.to_le_bytes.ensures ∙ std_bytes a.n)
    ∙ take_little_endian width 8 a.n (c.requires.1) in
    part_written a.place width _ a.bytes.now
    (ap length written ∙ length_little_endian width a.n)
    ∙ ap (λ (l : List ℕ). written_at a.place l a.bytes.now) written
