-- What the call promises that says how a sum was taken (request N4).
use Rattle.std.specs.Prelude.{◌≡◌, List, ℕ, length}
use Rattle.checksum.specs.Sums.{byte_sum}
use Rattle.checksum.specs.Rounds.{rounds_of, singles_of}

-- "In length / 8 rounds with at most seven bytes taken singly": both counts are handed out.
pub record TakenExported (bytes : List ℕ) (sum rounds singles : ℕ) : Type 0 where
  pub sum_is : sum ≡ byte_sum bytes
  pub rounds_are : rounds ≡ rounds_of (length bytes)
  pub singles_are : singles ≡ singles_of (length bytes)
