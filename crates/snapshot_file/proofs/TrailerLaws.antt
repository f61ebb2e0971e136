-- The numbers of a trailer, counted from a file's end.
--
--   from_end_lem             a number at the front of the last so many bytes
--   Trailer, trailer_of  the trailer of a file that was made: both pointers, width and sum
use mathlib.Core.Path.{◌≡◌, sym, ap, ◌∙◌}
use mathlib.Core.List.{List, [], ◌++◌, append_assoc, append-nil}
use Prim.Native.Nat.{ℕ, ◌+◌, ◌-◌, ◌<◌, ◌^◌}
use native.Mathlib.Omega.{arith}
use lib.ListN.{length, take, length-append}
use lib.Seq.{take_at, drop_at}
use Rattle.little_endian.specs.Numbers.{byte_range, little_endian, number_of}
use Rattle.little_endian.proofs.NumberLaws.{length_little_endian, read_of_written}
use Rattle.snapshot_file.specs.Layout.{pointer_bytes, width_bytes, sum_bytes, trailer_length}
use Rattle.snapshot_file.specs.Reading.{from_end, desk_pointer, decks_pointer, width_in, sum_in, unsummed}

-- A number at the front of the last bytes.
pub from_end_lem : (width back n : ℕ) (front tail : List ℕ)
    → n < byte_range ^ width
    → width + length tail ≡ back
    → from_end width back (front ++ (little_endian width n ++ tail)) ≡ n
from_end_lem width back n front tail small long =
    let bytes = little_endian width n ++ tail in
    let whole = length-append front bytes in
    let part = length-append (little_endian width n) tail in
    let wide = length_little_endian width n in
    let place : length front ≡ length (front ++ bytes) - back =
    omega (arith, whole, part, wide, long) in
    ap (λ (l : List ℕ). number_of (take width l))
    (drop_at front bytes (length (front ++ bytes) - back) place)
    ∙ ap number_of (take_at (little_endian width n) tail width wide)
    ∙ read_of_written width n small

-- What a file that ends so says.
pub record Trailer (file : List ℕ) (desk decks width sum : ℕ) (body : List ℕ) : Type 0 where
  pub desk_is : desk_pointer file ≡ desk
  pub decks_is : decks_pointer file ≡ decks
  pub width_is : width_in file ≡ width
  pub sum_is : sum_in file ≡ sum
  pub unsummed_is : unsummed file ≡ body

module _ (front : List ℕ) (desk decks width sum : ℕ)
    (desk-small : desk < byte_range ^ pointer_bytes)
    (decks-small : decks < byte_range ^ pointer_bytes)
    (width_small : width < byte_range ^ width_bytes)
    (sum_small : sum < byte_range ^ sum_bytes) where
  abbrev first : List ℕ
  first = little_endian pointer_bytes desk

  abbrev second : List ℕ
  second = little_endian pointer_bytes decks

  abbrev third : List ℕ
  third = little_endian width_bytes width

  abbrev last : List ℕ
  last = little_endian sum_bytes sum

  -- The bytes before the sum.
  abbrev pub body : List ℕ
  body = front ++ (first ++ (second ++ third))

  abbrev pub whole : List ℕ
  whole = body ++ last

  from_first : whole ≡ front ++ (first ++ (second ++ (third ++ last)))
  from_first =
      append_assoc front (first ++ (second ++ third)) last
      ∙ ap (λ (l : List ℕ). front ++ l) (append_assoc first (second ++ third) last)
      ∙ ap (λ (l : List ℕ). front ++ (first ++ l)) (append_assoc second third last)

  from_second : whole ≡ (front ++ first) ++ (second ++ (third ++ last))
  from_second = from_first ∙ sym (append_assoc front first (second ++ (third ++ last)))

  from_third : whole ≡ ((front ++ first) ++ second) ++ (third ++ last)
  from_third = from_second ∙ sym (append_assoc (front ++ first) second (third ++ last))

  from_last : whole ≡ (((front ++ first) ++ second) ++ third) ++ (last ++ [])
  from_last =
      from_third
      ∙ sym (append_assoc ((front ++ first) ++ second) third last)
      ∙ ap (λ (l : List ℕ). (((front ++ first) ++ second) ++ third) ++ l) (sym (append-nil last))

  pub trailer_of : Trailer whole desk decks width sum body
  trailer_of =
      let two = length_little_endian pointer_bytes decks in
      let three = length_little_endian width_bytes width in
      let four = length_little_endian sum_bytes sum in
      let rest-2 = length-append third last in
      let rest-1 = length-append second (third ++ last) in
      let all = length-append body last in
      record {
        desk_is = ap desk_pointer from_first
            ∙ from_end_lem pointer_bytes trailer_length desk front (second ++ (third ++ last))
            desk-small
            (omega (arith, two, three, four, rest-1, rest-2));
        decks_is = ap decks_pointer from_second
            ∙ from_end_lem pointer_bytes (trailer_length - pointer_bytes) decks (front ++ first)
            (third ++ last) decks-small (omega (arith, three, four, rest-2));
        width_is = ap width_in from_third
            ∙ from_end_lem width_bytes (width_bytes + sum_bytes) width ((front ++ first) ++ second)
            last
            width_small (omega (arith, four));
        sum_is = ap sum_in from_last
            ∙ from_end_lem sum_bytes sum_bytes sum (((front ++ first) ++ second) ++ third) []
            sum_small
            (omega arith);
        unsummed_is = take_at body last (length whole - sum_bytes) (omega (arith, all, four));
      }
