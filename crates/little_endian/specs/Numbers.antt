-- Numbers as bytes, "little-endian": the lowest byte first, each number in as many bytes as its
-- width says (request N3).
--
--   little_endian width n         the lowest `width` bytes of a number
--   number_of bytes                the number that bytes say
--   numbers_bytes width numbers   numbers one after another
--   numbers_in width count bytes  the first numbers that bytes say
--   AllBelow bound numbers        each number of a list is below a bound
use Rattle.std.specs.Prelude.{List, [], ◌∷◌, ◌++◌, ℕ, zero, suc, ◌+◌, ◌*◌, ◌/◌, ◌%◌, ◌<◌, length, get_or, take, drop}

-- How many numbers a byte can be.
abbrev pub byte_range : ℕ
byte_range = 256

abbrev pub little_endian : ℕ → ℕ → List ℕ
little_endian zero n = []
little_endian (suc width) n = n % byte_range ∷ little_endian width (n / byte_range)

abbrev pub number_of : List ℕ → ℕ
number_of [] = 0
number_of (byte ∷ bytes) = byte + byte_range * number_of bytes

abbrev pub numbers_bytes : ℕ → List ℕ → List ℕ
numbers_bytes width [] = []
numbers_bytes width (n ∷ numbers) = little_endian width n ++ numbers_bytes width numbers

abbrev pub numbers_in : ℕ → ℕ → List ℕ → List ℕ
numbers_in width zero bytes = []
numbers_in width (suc count) bytes =
    number_of (take width bytes) ∷ numbers_in width count (drop width bytes)

-- The number that stands from a place on.
abbrev pub number_at : ℕ → ℕ → List ℕ → ℕ
number_at width place bytes = number_of (take width (drop place bytes))

abbrev pub AllBelow : ℕ → List ℕ → Type 0
AllBelow bound numbers = (i : ℕ) → i < length numbers → get_or numbers i 0 < bound
