-- Both pointers and the width, and then the sum of all before it.
use mathlib.Core.Path.{◌≡◌, sym, ap, ◌∙◌}
use mathlib.Core.List.{List}
use Prim.Native.Nat.{ℕ, ◌+◌, ◌-◌}
use native.Mathlib.Omega.{arith}
use lib.ListN.{take}
use lib.Seq.{length-take-le}
use Rattle.laws.specs.Writing.{written_at}
use Rattle.little_endian.specs.Numbers.{little_endian}
use Rattle.checksum.specs.Sums.{byte_sum}
use Rattle.snapshot_file.specs.Layout.{deck_bytes}
use Rattle.snapshot_file.proofs.LayoutLaws.{length_of_decks}
use Rattle.snapshot_writing.proofs.TrailerLaws.{ten_over, trailer_written}
use Rattle.snapshot_writing.proofs.write_trailer.Goals as goal

pub slice_bounds-byte_sum-end-2 : goal.slice_bounds-byte_sum-end-2
slice_bounds-byte_sum-end-2 c =
    sym (length-take-le _ _
    (omega (
      arith,
      c.write_number-3.auto.bytes,
      c.write_number-2.auto.bytes,
      c.write_number.auto.bytes,
      c.file_length-last.ensures,
      c.requires.bytes_enough,
    )))

pub returns : goal.returns
returns c =
    let a = c.args in
    let last = c.file_length-last.result - 2 in
    let place = last - 2 - 8 in
    let pointer = c.decks_place-decks.result in
    let long = length_of_decks a.settings in
    let ten : c.write_number-3.new.bytes
    ≡ ten_over a.settings a.bytes.now c.requires place pointer =
    c.write_number-3.ensures
    ∙ ap (written_at (place + 8) (little_endian 2 deck_bytes))
    (c.write_number-2.ensures
    ∙ ap (written_at (place + 4) (little_endian 4 pointer)) c.write_number.ensures) in
    c.write_number-4.ensures
    ∙ ap (λ (n : ℕ). written_at last (little_endian 2 n) c.write_number-3.new.bytes)
    c.byte_sum-sum.ensures
    ∙ ap (λ (l : List ℕ). written_at last (little_endian 2 (byte_sum (take last l))) l) ten
    ∙ trailer_written a.settings a.bytes.now c.requires place last pointer
    (omega (arith, c.file_length-last.ensures, long))
    (omega (arith, c.file_length-last.ensures, long))
    c.decks_place-decks.ensures
