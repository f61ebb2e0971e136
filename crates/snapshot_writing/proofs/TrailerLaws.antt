-- The trailer's four numbers, written one after another (trailer-written).
use mathlib.Core.Path.{◌≡◌, ap, ◌∙◌}
use mathlib.Core.List.{List, ◌++◌}
use Prim.Native.Nat.{ℕ, ◌+◌, ◌≤◌}
use native.Mathlib.Omega.{arith}
use lib.ListN.{length, take}
use Rattle.laws.specs.Writing.{written_at}
use Rattle.laws.proofs.Writing.{written_append, take_written}
use Rattle.model.specs.declared.Settings.{Settings}
use Rattle.little_endian.specs.Numbers.{little_endian}
use Rattle.checksum.specs.Sums.{byte_sum}
use Rattle.snapshot_file.specs.Layout.{deck_bytes, desk_place, decks_place_of}
use Rattle.snapshot_file.proofs.LayoutLaws.{length_of_decks}
use Rattle.snapshot_writing.specs.Parts.{TrailerAsks, trailer_place, trailer_ten, trailer_over}

module _ (settings : Settings) (bytes : List ℕ) (asks : TrailerAsks settings bytes) where
  abbrev place : ℕ
  place = trailer_place settings

  pub trailer_fits : place + 12 ≤ length bytes
  trailer_fits = omega (arith, asks.bytes_enough, length_of_decks settings)

  -- Its first three numbers, from a place on.
  abbrev pub ten_over : ℕ → ℕ → List ℕ
  ten_over first decks =
      written_at (first + 8) (little_endian 2 deck_bytes)
      (written_at (first + 4) (little_endian 4 decks)
      (written_at first (little_endian 4 desk_place) bytes))

  ten_written : ten_over place (decks_place_of settings) ≡ written_at place (trailer_ten settings)
      bytes
  ten_written =
      let one = little_endian 4 desk_place in
      let two = little_endian 4 (decks_place_of settings) in
      let three = little_endian 2 deck_bytes in
      ap (written_at (place + 8) three)
      (written_append place one two bytes (omega (arith, trailer_fits)))
      ∙ written_append place (one ++ two) three bytes (omega (arith, trailer_fits))

  -- The sum is of all before it, and stands right after them.
  pub trailer_written : (first last decks : ℕ)
      → first ≡ place
      → last ≡ place + 10
      → decks ≡ decks_place_of settings
      → written_at last (little_endian 2 (byte_sum (take last (ten_over first decks))))
      (ten_over first decks)
      ≡ written_at place (trailer_over settings bytes) bytes
  trailer_written first last decks first_is last-is decks_are =
      let ten = trailer_ten settings in
      let over : ten_over first decks ≡ written_at place ten bytes =
      (λ i. ten_over (first_is i) (decks_are i)) ∙ ten_written in
      let sum_is : byte_sum (take last (ten_over first decks)) ≡ byte_sum (take place bytes ++ ten)
      =
      (λ i. byte_sum (take (last-is i) (over i)))
      ∙ ap byte_sum (take_written place ten bytes (omega (arith, trailer_fits))) in
      (λ i. written_at (last-is i) (little_endian 2 (sum_is i)) (over i))
      ∙ written_append place ten (little_endian 2 (byte_sum (take place bytes ++ ten))) bytes
      (omega (arith, trailer_fits))
