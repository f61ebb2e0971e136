-- A word as fields of equally many bits, the lowest first (request N4).
--
--   field_sum width count word             the lowest fields added; 0 if there are none
--   lower_halves width count word          the lower half of each of the lowest fields, in its
--                                          place; a half has `width` bits
--   FieldsWithin width bound count word    the fields are within a bound; nothing stands above
use Rattle.std.specs.Prelude.{◌≡◌, ℕ, zero, suc, ◌+◌, ◌*◌, ◌/◌, ◌%◌, ◌^◌, ◌≤◌}

abbrev pub field_sum : ℕ → ℕ → ℕ → ℕ
field_sum width zero word = 0
field_sum width (suc count) word = word % 2 ^ width + field_sum width count (word / 2 ^ width)

abbrev pub lower_halves : ℕ → ℕ → ℕ → ℕ
lower_halves width zero word = 0
lower_halves width (suc count) word =
    lower_halves width count (word / 2 ^ (width + width)) * 2 ^ (width + width) + word % 2 ^ width

abbrev pub FieldsWithin : ℕ → ℕ → ℕ → ℕ → Type 0
FieldsWithin width bound zero word = word ≡ 0
FieldsWithin width bound (suc count) word =
    (word % 2 ^ width ≤ bound) × FieldsWithin width bound count (word / 2 ^ width)
