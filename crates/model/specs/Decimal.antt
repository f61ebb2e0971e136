-- Decimal numbers as bytes, read and written: "1 to 7 digits each, no leading zero except 0
-- itself".
--
--   read_number bytes   the number at the front and the bytes after it; `no_number` if none stands
--   decimal n           the digits of n, most significant first; never empty
use Rattle.std.specs.Prelude.{Bool, true, false, ◌&&◌, not, List, [], ◌∷◌, ◌++◌, ℕ, zero, suc, ◌+◌, ◌-◌, ◌*◌, ◌/◌, ◌%◌, eqb, ltb, if◌then◌else◌}
use Rattle.model.specs.Choice.{between}

-- The bytes of the digits: `0` is 48, `9` is 57.
abbrev pub is_digit : ℕ → Bool
is_digit byte = between 48 byte 57

abbrev pub digit_value : ℕ → ℕ
digit_value byte = byte - 48

abbrev pub digit_byte : ℕ → ℕ
digit_byte digit = digit + 48

-- What reading a number gives: its value and the bytes after it, or nothing.
pub data Number : Type 0 where
  no_number : Number
  number : ℕ → List ℕ → Number

-- The digits after the first, at most `more` of them: a further digit makes the number too long.
abbrev pub more_digits : ℕ → ℕ → List ℕ → Number
more_digits more value [] = number value []
more_digits zero value (byte ∷ rest) =
    elim (is_digit byte) [ true ↦ no_number | false ↦ number value (byte ∷ rest) ]
more_digits (suc more) value (byte ∷ rest) =
    elim (is_digit byte) [
      | true ↦ more_digits more (10 * value + digit_value byte) rest
      | false ↦ number value (byte ∷ rest)
    ]

-- A 0 before another digit: a leading zero.
abbrev pub leading_zero : ℕ → List ℕ → Bool
leading_zero first [] = false
leading_zero first (second ∷ rest) = eqb first 48 && is_digit second

abbrev pub read_number : List ℕ → Number
read_number [] = no_number
read_number (first ∷ rest) =
    if is_digit first && not (leading_zero first rest)
    then more_digits 6 (digit_value first) rest
    else no_number

-- A number written in decimal. The first argument bounds the digits; n + 1 are always enough.
abbrev pub decimal_within : ℕ → ℕ → List ℕ
decimal_within zero n = []
decimal_within (suc more) n =
    elim (ltb n 10) [
      | true ↦ digit_byte n ∷ []
      | false ↦ decimal_within more (n / 10) ++ (digit_byte (n % 10) ∷ [])
    ]

unfoldable pub decimal : ℕ → List ℕ
decimal n = decimal_within (suc n) n
