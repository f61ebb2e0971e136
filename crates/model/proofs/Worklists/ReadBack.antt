-- Reading back what was written gives the number: of decimal numbers and of lines.
--
--   length_decimal_le  how many digits a number has at most
--   read-back          a number below ten million, before anything but another digit
--   read_back_fields   a line of such numbers, before anything
use mathlib.Core.Path.{◌≡◌, refl, ap, ◌∙◌}
use mathlib.Core.Bool.{Bool, true, false, ◌&&◌, not, and-false}
use mathlib.Core.List.{List, [], ◌∷◌, ◌++◌, append_assoc}
use Prim.Native.Nat.{ℕ, zero, suc, ◌+◌, ◌*◌, ◌/◌, ◌%◌, ◌^◌, ◌≤◌, ◌<◌}
use native.Mathlib.Nat.{pow-suc}
use native.Mathlib.Omega.{arith}
use native.Mathlib.Decide.{dec_lt}
use lib.Dec.{eqb, ltb}
use lib.ListN.{length}
use borrow.Author.Tests.{le-leb, eq-eqb, eqb-true, ltb-true, not-true}
use Rattle.laws.proofs.Tests.{both_true}
use Rattle.model.specs.Limits.{number_limit}
use Rattle.model.specs.Decimal.{is_digit, digit_value, digit_byte, number, more_digits, leading_zero, read_number, decimal}
use Rattle.model.specs.Lines.{fields, semicolon, line_feed, before_mark, read_field, with_field, read_fields, write_fields}
use Rattle.model.specs.WorklistClaims.{all_small}
use Rattle.model.proofs.Worklists.LineLaws.{fields_last, fields_more}
use Rattle.model.proofs.Worklists.DecimalLaws.{more_digits_on, more_digits_stop, decimal_small, decimal_large, length_decimal_large}

-- ---- Lists of digits

-- The value of digits after a value, and whether all of some bytes are digits.
abbrev pub value_after : ℕ → List ℕ → ℕ
value_after value [] = value
value_after value (byte ∷ bytes) = value_after (10 * value + digit_value byte) bytes

abbrev pub all_digits : List ℕ → Bool
all_digits [] = true
all_digits (byte ∷ bytes) = is_digit byte && all_digits bytes

-- Bytes before which a number ends: none, or a first one that is no digit.
abbrev pub no_digit_first : List ℕ → Bool
no_digit_first [] = true
no_digit_first (byte ∷ bytes) = not (is_digit byte)

value_after_snoc : (value byte : ℕ) (bytes : List ℕ)
    → value_after value (bytes ++ (byte ∷ [])) ≡ 10 * value_after value bytes + digit_value byte
value_after_snoc value byte [] = refl
value_after_snoc value byte (first ∷ bytes) =
    value_after_snoc (10 * value + digit_value first) byte bytes

all_digits_snoc : (byte : ℕ) (bytes : List ℕ)
    → all_digits bytes ≡ true
    → is_digit byte ≡ true
    → all_digits (bytes ++ (byte ∷ [])) ≡ true
all_digits_snoc byte [] all digit = rw digit
all_digits_snoc byte (first ∷ bytes) all digit =
    let both = both_true (is_digit first) (all_digits bytes) all in
    rw both.first_true (all_digits_snoc byte bytes both.second_true digit)

-- Reading on over digits takes them all, and stops before what is no digit.
more_digits_stop_at : (more value : ℕ) (rest : List ℕ)
    → no_digit_first rest ≡ true
    → more_digits more value rest ≡ number value rest
more_digits_stop_at more value [] end = refl
more_digits_stop_at more value (byte ∷ rest) end =
    more_digits_stop more value byte rest (not-true (is_digit byte) end)

more_digits_all : (more value : ℕ) (bytes rest : List ℕ)
    → length bytes ≤ more
    → all_digits bytes ≡ true
    → no_digit_first rest ≡ true
    → more_digits more value (bytes ++ rest) ≡ number (value_after value bytes) rest
more_digits_all more value [] rest few all end = more_digits_stop_at more value rest end
more_digits_all zero value (byte ∷ bytes) rest few all end = absurd (omega arith)
more_digits_all (suc more) value (byte ∷ bytes) rest few all end =
    let both = both_true (is_digit byte) (all_digits bytes) all in
    more_digits_on more value byte (bytes ++ rest) both.first_true
    ∙ more_digits_all more (10 * value + digit_value byte) bytes rest (omega arith)
    both.second_true end

-- ---- The digits of a number

digit_byte_is : (digit : ℕ) → digit < 10 → is_digit (digit_byte digit) ≡ true
digit_byte_is digit small =
    rw (le-leb 48 (digit + 48) (omega arith), le-leb (digit + 48) 57 (omega arith))

-- The first digit and the others: all are digits, their value is the number, and the first is a 0
-- only where it stands alone.
pub record Digits (n : ℕ) : Type 0 where
  pub first : ℕ
  pub others : List ℕ
  pub are : decimal n ≡ first ∷ others
  pub first_digit : is_digit first ≡ true
  pub other_digits : all_digits others ≡ true
  pub value : value_after (digit_value first) others ≡ n
  pub zero_alone : eqb first 48 ≡ true → others ≡ []

digits_small : (n : ℕ) → n < 10 → Digits n
digits_small n small = record {
  first = digit_byte n;
  others = [];
  are = decimal_small n small;
  first_digit = digit_byte_is n small;
  other_digits = refl;
  value = omega arith;
  zero_alone = λ is_zero. refl;
}

digits_large : (n : ℕ) → 10 ≤ n → Digits (n / 10) → Digits n
digits_large n large tenth = record {
  first = tenth.first;
  others = tenth.others ++ (digit_byte (n % 10) ∷ []);
  are =
      decimal_large n large
      ∙ ap (λ (digits : List ℕ). digits ++ (digit_byte (n % 10) ∷ [])) tenth.are;
  first_digit = tenth.first_digit;
  other_digits =
      all_digits_snoc (digit_byte (n % 10)) tenth.others tenth.other_digits
      (digit_byte_is (n % 10) (omega arith));
  value =
      value_after_snoc (digit_value tenth.first) (digit_byte (n % 10)) tenth.others
      ∙ omega (arith, tenth.value);
  zero_alone = λ is_zero. absurd (never is_zero);
}
  where
    -- A first 0 would make a tenth of n zero.
    never : eqb tenth.first 48 ≡ true → ⊥
    never is_zero =
        omega (
          arith,
          ap (value_after (digit_value tenth.first)) (tenth.zero_alone is_zero),
          eqb-true tenth.first 48 is_zero,
          tenth.value,
        )

digits_within : (more n : ℕ) → n < more → Digits n
digits_within zero n few = absurd (omega arith)
digits_within (suc more) n few =
    by_size (dec_lt n 10) (λ large. digits_within more (n / 10) (omega arith))
  where
    by_size : Dec (n < 10) → (10 ≤ n → Digits (n / 10)) → Digits n
    by_size (yes small) tenth = digits_small n small
    by_size (no large) tenth =
        let at_least : 10 ≤ n = omega arith in
        digits_large n at_least (tenth at_least)

pub digits_of : (n : ℕ) → Digits n
digits_of n = digits_within (suc n) n (omega arith)

-- A number below 10 ^ (m + 1) has at most m + 1 digits.
pub length_decimal_le : (m n : ℕ) → n < 10 ^ suc m → length (decimal n) ≤ suc m
length_decimal_le zero n small = omega (arith, ap length (decimal_small n (omega arith)))
length_decimal_le (suc m) n small =
    by_size (dec_lt n 10) (λ large. length_decimal_le m (n / 10) (tenth_small large))
  where
    tenth_small : 10 ≤ n → n / 10 < 10 ^ suc m
    tenth_small large = omega (arith, pow-suc 10 (suc m))

    by_size : Dec (n < 10)
        → (10 ≤ n → length (decimal (n / 10)) ≤ suc m)
        → length (decimal n) ≤ suc (suc m)
    by_size (yes under) tenth = omega (arith, ap length (decimal_small n under))
    by_size (no large) tenth =
        let at_least : 10 ≤ n = omega arith in
        omega (arith, length_decimal_large n at_least, tenth at_least)

-- ---- Reading back a number

no_leading_zero : (first : ℕ) (others rest : List ℕ)
    → (eqb first 48 ≡ true → others ≡ [])
    → no_digit_first rest ≡ true
    → leading_zero first (others ++ rest) ≡ false
no_leading_zero first others rest alone end = by_first (eqb first 48) refl
  where
    -- No zero: whatever follows. A zero alone: what follows is no digit.
    without_zero : (bytes : List ℕ) → eqb first 48 ≡ false → leading_zero first bytes ≡ false
    without_zero [] other = refl
    without_zero (byte ∷ bytes) other = rw other

    before_rest : (rest : List ℕ) → no_digit_first rest ≡ true → leading_zero first rest ≡ false
    before_rest [] end = refl
    before_rest (byte ∷ bytes) end = rw (not-true (is_digit byte) end) (and-false (eqb first 48))

    by_first : (test : Bool) → eqb first 48 ≡ test → leading_zero first (others ++ rest) ≡ false
    by_first true is_zero = rw (alone is_zero) (before_rest rest end)
    by_first false other = without_zero (others ++ rest) other

pub read_back : (n : ℕ) (rest : List ℕ)
    → n < number_limit
    → no_digit_first rest ≡ true
    → read_number (decimal n ++ rest) ≡ number n rest
read_back n rest small end =
    let d = digits_of n in
    let few : length d.others ≤ 6
    = omega (arith, length_decimal_le 6 n small, ap length d.are) in
    let no_zero = no_leading_zero d.first d.others rest d.zero_alone end in
    ap (λ (digits : List ℕ). read_number (digits ++ rest)) d.are
    ∙ rw (d.first_digit, no_zero)
    (more_digits_all 6 (digit_value d.first) d.others rest few d.other_digits end
    ∙ ap (λ (v : ℕ). number v rest) d.value)

-- ---- Reading back a line

-- A field and its mark, which is no digit.
read_back_field : (mark n : ℕ) (rest : List ℕ)
    → n < number_limit
    → is_digit mark ≡ false
    → read_field mark (decimal n ++ (mark ∷ rest)) ≡ number n rest
read_back_field mark n rest small no_digit =
    ap (before_mark mark) (read_back n (mark ∷ rest) small (rw no_digit))
    ∙ rw (eq-eqb mark mark refl)

pub read_back_fields : (n : ℕ) (ns rest : List ℕ)
    → all_small (n ∷ ns) ≡ true
    → read_fields (length (n ∷ ns)) (write_fields (n ∷ ns) ++ rest) ≡ fields (n ∷ ns) rest
read_back_fields n [] rest small =
    let below = ltb-true n number_limit (both_true (ltb n number_limit) true small).first_true in
    ap (read_fields 1) (append_assoc (decimal n) (line_feed ∷ []) rest)
    ∙ fields_last line_feed (decimal n ++ (line_feed ∷ rest)) n rest
    (read_back_field line_feed n rest below refl)
read_back_fields n (next ∷ ns) rest small =
    let both = both_true (ltb n number_limit) (all_small (next ∷ ns)) small in
    let below = ltb-true n number_limit both.first_true in
    let others = write_fields (next ∷ ns) in
    ap (read_fields (length (n ∷ (next ∷ ns))))
    (append_assoc (decimal n ++ (semicolon ∷ [])) others rest
    ∙ append_assoc (decimal n) (semicolon ∷ []) (others ++ rest))
    ∙ fields_more line_feed (decimal n ++ (semicolon ∷ (others ++ rest))) (length ns) n
    (others ++ rest)
    (read_back_field semicolon n (others ++ rest) below refl)
    ∙ ap (with_field n) (read_back_fields next ns rest both.second_true)
