-- Laws of how many bytes the lines take, and of the room for them.
--
--   length_decimal_64     a number of 64 bits has at most 20 digits
--   spaced_length_is      a number and the space before it
use mathlib.Core.Path.{◌≡◌}
use Prim.Native.Nat.{ℕ, ◌+◌, ◌≤◌, ◌<◌}
use native.Mathlib.Omega.{arith}
use lib.ListN.{length}
use Rattle.model.specs.Decimal.{decimal}
use Rattle.model.proofs.Worklists.ReadBack.{length_decimal_le}
use Rattle.output_lines.specs.Promises.{SpacedLength}

pub length_decimal_64 : (n : ℕ) → n < 18446744073709551616 → length (decimal n) ≤ 20
length_decimal_64 n fits = length_decimal_le 19 n (omega arith)

pub spaced_length_is : (n count : ℕ)
    → n < 18446744073709551616
    → count ≡ length (decimal n)
    → SpacedLength n (count + 1)
spaced_length_is n count fits is = record {
  is = omega (arith, is);
  few = omega (arith, is, length_decimal_64 n fits);
}
