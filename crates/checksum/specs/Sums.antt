-- The sum of bytes modulo 65,536 (request N3, "sum of all earlier bytes and of these ten modulo
-- 65,536").
use Rattle.std.specs.Prelude.{List, [], ◌∷◌, ℕ, ◌+◌, ◌%◌}

-- What the sum is taken modulo: it fits two bytes.
abbrev pub sum_range : ℕ
sum_range = 65536

abbrev pub sum_of : List ℕ → ℕ
sum_of [] = 0
sum_of (byte ∷ bytes) = byte + sum_of bytes

abbrev pub byte_sum : List ℕ → ℕ
byte_sum bytes = sum_of bytes % sum_range
