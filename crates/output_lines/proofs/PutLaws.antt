-- Laws of numbers written into a buffer.
--
--   put_digits                   a number's digits where they fit
use mathlib.Core.Path.{ap}
use mathlib.Core.List.{List}
use Prim.Native.Nat.{ℕ, ◌+◌, ◌≤◌}
use lib.ListN.{length}
use borrow.Author.Tests.{le-leb}
use Rattle.laws.specs.Writing.{Put}
use Rattle.model.specs.Decimal.{decimal}
use Rattle.output_decimals.specs.Promises.{DecimalSays}

pub put_digits : (n place : ℕ) (before after : List ℕ) (used : ℕ)
    → place + length (decimal n) ≤ length before
    → DecimalSays n place before after used
    → Put (decimal n) place before after (place + used)
put_digits n place before after used fits says =
    let room = le-leb (place + length (decimal n)) (length before) fits in
    record {
      place_after = ap (λ (k : ℕ). place + k) (rw room at says.count);
      out = rw room at says.bytes;
    }
