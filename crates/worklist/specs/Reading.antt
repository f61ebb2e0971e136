-- What holds while a number's digits are read: the invariant of the digit loop.
use Rattle.std.specs.Prelude.{◌≡◌, List, ℕ, ◌-◌, ◌^◌, ◌≤◌, ◌<◌, length, drop}
use Rattle.model.specs.Decimal.{Number, more_digits}

-- So many digits may still come; the value has at most those before them; and going on from here
-- gives the number that was begun.
pub record Reading (bytes : List ℕ) (begun : Number) (next value more : ℕ) : Type 0 where
  pub within : next ≤ length bytes
  pub few : more ≤ 6
  pub small : value < 10 ^ (7 - more)
  pub is : more_digits more value (drop next bytes) ≡ begun
