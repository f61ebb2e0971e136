-- Laws of a number's digits written from a place on.
--
--   same_length, last_inside   the digits of a tenth are written: room for the last digit
--   digit_more                 the last digit of a number, right after those of its tenth
use mathlib.Core.Path.{◌≡◌, sym, ap, ◌∙◌}
use mathlib.Core.List.{List, [], ◌∷◌, ◌++◌}
use Prim.Native.Nat.{ℕ, ◌+◌, ◌/◌, ◌%◌, ◌≤◌, ◌<◌}
use native.Mathlib.Omega.{arith}
use lib.ListN.{length, set}
use Rattle.laws.specs.Writing.{written_at, Put}
use Rattle.laws.proofs.Writing.{written_snoc, put_length}
use Rattle.model.specs.Decimal.{decimal, digit_byte}
use Rattle.model.proofs.Worklists.DecimalLaws.{decimal_large, length_decimal_large}

-- ---- One digit more

-- The digits of a tenth of n are written; the place of its last digit, and the digits then.
module _ (n place : ℕ) (before middle : List ℕ) (used : ℕ)
    (large : 10 ≤ n)
    (fits : place + length (decimal n) ≤ length before)
    (tenth : Put (decimal (n / 10)) place before middle (place + used)) where
  used_is : used + 1 ≡ length (decimal n)
  used_is = omega (arith, tenth.place_after, length_decimal_large n large)

  pub same_length : length middle ≡ length before
  same_length = put_length (omega (arith, length_decimal_large n large)) tenth

  pub last_inside : place + used < length middle
  last_inside = omega (arith, same_length, used_is)

  -- The last digit stands right after the others: `decimal n` by its tenth.
  pub digit_more : (byte : ℕ)
      → byte ≡ digit_byte (n % 10)
      → Put (decimal n) place before (set middle (place + used) byte) (place + (used + 1))
  digit_more byte is = record {
    place_after = ap (λ (k : ℕ). place + k) used_is;
    out =
        (λ i. set (tenth.out i) (tenth.place_after i) byte)
        ∙ written_snoc place byte (decimal (n / 10)) before
        (omega (arith, used_is, tenth.place_after))
        ∙ ap (λ (digits : List ℕ). written_at place digits before)
        (ap (λ (b : ℕ). decimal (n / 10) ++ (b ∷ [])) is ∙ sym (decimal_large n large));
  }
