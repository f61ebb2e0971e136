-- The lower halves of all fields of a word at once, by a mask. After the kit's example
-- hackers_delight.
--
--   half_mask width count   the mask, for fields of width + width bits
--   masked                  what it keeps of a word: the lower half of each field
use mathlib.Core.Path.{◌≡◌, sym, ap, ◌∙◌}
use Prim.Native.Nat.{ℕ, zero, suc, ◌+◌, ◌-◌, ◌*◌, ◌/◌, ◌%◌, ◌^◌}
use native.Mathlib.Nat.{mod-lt, lt_of_lt_of_le, le-add_right}
use lib.Pow.{pow_pos, pow_mono, split, mod-mod-pow, ones_lt}
use lib.Bits.{bit_and, and_block, and_mask, and_zero_r}
use Rattle.checksum_lanes.specs.Fields.{lower_halves}

abbrev pub half_mask : ℕ → ℕ → ℕ
half_mask width zero = 0
half_mask width (suc count) = half_mask width count * 2 ^ (width + width) + (2 ^ width - 1)

-- The lowest part of a mask keeps the lowest half; the rest of it meets the fields above.
lowest_half : (width word mask : ℕ)
    → bit_and word (mask * 2 ^ (width + width) + (2 ^ width - 1))
    ≡ bit_and (word / 2 ^ (width + width)) mask * 2 ^ (width + width) + word % 2 ^ width
lowest_half width word mask =
    let field = width + width in
    let ones-fit = lt_of_lt_of_le (ones_lt width) (pow_mono (le-add_right width width)) in
    ap (λ (n : ℕ). bit_and n (mask * 2 ^ field + (2 ^ width - 1))) (sym (split word field))
    ∙ and_block field (word / 2 ^ field) mask (word % 2 ^ field) (2 ^ width - 1)
    (mod-lt word (pow_pos field)) ones-fit
    ∙ ap (λ (n : ℕ). bit_and (word / 2 ^ field) mask * 2 ^ field + n)
    (and_mask (word % 2 ^ field) width ∙ mod-mod-pow word width width)

pub masked : (width count word : ℕ)
    → bit_and word (half_mask width count) ≡ lower_halves width count word
masked width zero word = and_zero_r word
masked width (suc count) word =
    lowest_half width word (half_mask width count)
    ∙ ap (λ (n : ℕ). n * 2 ^ (width + width) + word % 2 ^ width)
    (masked width count (word / 2 ^ (width + width)))
