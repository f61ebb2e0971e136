-- Laws of reading and of writing decimal numbers, digit by digit.
--
--   digit_within                    a digit's byte is one of 48 to 57
--   more_digits_on, -stop, -long    a digit is taken into the number; another byte ends it; a digit
--                                   too many makes it no number
--   decimal_small, decimal_large    the digits of a number below ten, and of another by its tenth
--   length_decimal_large            how many they are
use mathlib.Core.Path.{◌≡◌, ap, ◌∙◌}
use mathlib.Core.Bool.{true, false}
use mathlib.Core.List.{List, [], ◌∷◌, ◌++◌}
use Prim.Native.Nat.{ℕ, zero, suc, ◌+◌, ◌*◌, ◌/◌, ◌%◌, ◌≤◌, ◌<◌}
use native.Mathlib.Omega.{arith}
use native.Mathlib.Decide.{dec_lt}
use lib.ListN.{length, length-append}
use borrow.Author.Tests.{lt-ltb, le-ltb}
use Rattle.model.specs.Decimal.{is_digit, digit_value, digit_byte, no_number, number, more_digits, decimal_within, decimal}
use Rattle.model.proofs.Thresholds.SettingsLaws.{Within, within_of_between}

-- ---- Reading

pub digit_within : (byte : ℕ) → is_digit byte ≡ true → Within 48 byte 57
digit_within byte digit = within_of_between 48 byte 57 digit

pub more_digits_on : (more value byte : ℕ) (rest : List ℕ)
    → is_digit byte ≡ true
    → more_digits (suc more) value (byte ∷ rest)
    ≡ more_digits more (10 * value + digit_value byte) rest
more_digits_on more value byte rest digit = rw (digit, more_digits)

pub more_digits_stop : (more value byte : ℕ) (rest : List ℕ)
    → is_digit byte ≡ false
    → more_digits more value (byte ∷ rest) ≡ number value (byte ∷ rest)
more_digits_stop zero value byte rest other = rw (other, more_digits)
more_digits_stop (suc more) value byte rest other = rw (other, more_digits)

pub more_digits_long : (value byte : ℕ) (rest : List ℕ)
    → is_digit byte ≡ true
    → more_digits 0 value (byte ∷ rest) ≡ no_number
more_digits_long value byte rest digit = rw (digit, more_digits)

-- ---- Writing

decimal_within_small : (more n : ℕ) → n < 10 → decimal_within (suc more) n ≡ digit_byte n ∷ []
decimal_within_small more n small = rw (lt-ltb n 10 small, decimal_within)

decimal_within_large : (more n : ℕ)
    → 10 ≤ n
    → decimal_within (suc more) n ≡ decimal_within more (n / 10) ++ (digit_byte (n % 10) ∷ [])
decimal_within_large more n large = rw (le-ltb n 10 large, decimal_within)

-- With more than n digits allowed the number alone decides.
decimal_within_enough : (m m' n : ℕ) → n < m → n < m' → decimal_within m n ≡ decimal_within m' n
decimal_within_enough zero m' n few few' = absurd (omega arith)
decimal_within_enough (suc m) zero n few few' = absurd (omega arith)
decimal_within_enough (suc m) (suc m') n few few' =
    by_size (dec_lt n 10) (λ large. decimal_within_enough m m' (n / 10) (omega arith) (omega arith))
  where
    by_size : Dec (n < 10)
        → (10 ≤ n → decimal_within m (n / 10) ≡ decimal_within m' (n / 10))
        → decimal_within (suc m) n ≡ decimal_within (suc m') n
    by_size (yes small) tenth =
        rw (decimal_within_small m n small, decimal_within_small m' n small)
    by_size (no large) tenth =
        let at_least : 10 ≤ n = omega arith in
        rw (decimal_within_large m n at_least, decimal_within_large m' n at_least)
        (ap (λ (digits : List ℕ). digits ++ (digit_byte (n % 10) ∷ [])) (tenth at_least))

pub decimal_small : (n : ℕ) → n < 10 → decimal n ≡ digit_byte n ∷ []
unfolding decimal
decimal_small n small = decimal_within_small n n small

pub decimal_large : (n : ℕ)
    → 10 ≤ n
    → decimal n ≡ decimal (n / 10) ++ (digit_byte (n % 10) ∷ [])
unfolding decimal
decimal_large n large =
    decimal_within_large n n large
    ∙ ap (λ (digits : List ℕ). digits ++ (digit_byte (n % 10) ∷ []))
    (decimal_within_enough n (suc (n / 10)) (n / 10) (omega arith) (omega arith))

pub length_decimal_large : (n : ℕ)
    → 10 ≤ n
    → length (decimal n) ≡ length (decimal (n / 10)) + 1
length_decimal_large n large =
    ap length (decimal_large n large) ∙ length-append (decimal (n / 10)) (digit_byte (n % 10) ∷ [])
