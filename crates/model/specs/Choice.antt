-- Tests for a range and for 0: what every other definition is written with.
--
--   between low x high         whether low ≤ x ≤ high
--   is_zero n                   whether n is 0
use Rattle.std.specs.Prelude.{Bool, ◌&&◌, ℕ, leb, eqb}

abbrev pub between : ℕ → ℕ → ℕ → Bool
between low x high = leb low x && leb x high

abbrev pub is_zero : ℕ → Bool
is_zero n = eqb n 0
