-- Which bytes a reading takes (document 01's section "Worklist"): a number its digits, a field its
-- mark too. What follows the bytes taken does not matter to what is read.
--
--   number_taken   1 to 7 bytes, the same before any bytes that begin with the same byte
--   field_taken    2 to 8 bytes, the same before any bytes
use mathlib.Core.Path.{◌≡◌, refl, sym, ap, ◌∙◌}
use mathlib.Core.Bool.{Bool, true, false, ◌&&◌, not}
use mathlib.Core.List.{List, [], ◌∷◌, ◌++◌, append_assoc}
use Prim.Native.Nat.{ℕ, zero, suc, ◌+◌, ◌*◌, ◌≤◌}
use native.Mathlib.Omega.{arith}
use lib.Dec.{eqb}
use lib.ListN.{length, length-append}
use Rattle.model.specs.Decimal.{is_digit, digit_value, leading_zero, Number, no_number, number, more_digits, read_number}
use Rattle.model.specs.Lines.{before_mark, read_field}
use Rattle.model.proofs.Worklists.DecimalLaws.{more_digits_on, more_digits_stop, more_digits_long}

-- ---- No number

no_number_is_none : {A : Type 0} (value : ℕ) (rest : List ℕ) → no_number ≡ number value rest → A
no_number_is_none value rest is = let never : ◌≡◌ {A = ℕ} 0 1 = cc in absurd (omega arith)

-- ---- The digits of a number

-- Digits read up to a byte: the same digits before that byte give the same number, whatever comes
-- after it.
record DigitsTaken (more value : ℕ) (bytes : List ℕ) (read byte : ℕ) (rest : List ℕ) : Type 0 where
  front : List ℕ
  splits : bytes ≡ front ++ (byte ∷ rest)
  few : length front ≤ more
  reads : (other : List ℕ)
      → more_digits more value (front ++ (byte ∷ other)) ≡ number read (byte ∷ other)

-- The byte is no digit: it ends the number.
digits_stop : (more value first : ℕ) (others : List ℕ) (read byte : ℕ) (rest : List ℕ)
    → is_digit first ≡ false
    → number value (first ∷ others) ≡ number read (byte ∷ rest)
    → DigitsTaken more value (first ∷ others) read byte rest
digits_stop more value first others read byte rest other is =
    let same : first ≡ byte = cc in
    record {
      front = [];
      splits = cc;
      few = omega arith;
      reads = λ follows.
          more_digits_stop more value byte follows (rw same at other)
          ∙ ap (λ (v : ℕ). number v (byte ∷ follows)) (cc);
    }

digits_on : (more value first : ℕ) (others : List ℕ) (read byte : ℕ) (rest : List ℕ)
    → is_digit first ≡ true
    → DigitsTaken more (10 * value + digit_value first) others read byte rest
    → DigitsTaken (suc more) value (first ∷ others) read byte rest
digits_on more value first others read byte rest digit taken = record {
  front = first ∷ taken.front;
  splits = ap (λ (bytes : List ℕ). first ∷ bytes) taken.splits;
  few = omega (arith, taken.few);
  reads = λ follows.
      more_digits_on more value first (taken.front ++ (byte ∷ follows)) digit
      ∙ taken.reads follows;
}

digits_taken : (more value : ℕ) (bytes : List ℕ) (read byte : ℕ) (rest : List ℕ)
    → more_digits more value bytes ≡ number read (byte ∷ rest)
    → DigitsTaken more value bytes read byte rest
digits_taken more value [] read byte rest is =
    let never : ◌≡◌ {A = ℕ} 0 1 = cc in absurd (omega arith)
digits_taken zero value (first ∷ others) read byte rest is = by_digit (is_digit first) refl
  where
    by_digit : (test : Bool)
        → is_digit first ≡ test
        → DigitsTaken 0 value (first ∷ others) read byte rest
    by_digit true digit =
        no_number_is_none _ _ (sym (more_digits_long value first others digit) ∙ is)
    by_digit false other =
        digits_stop 0 value first others read byte rest other
        (sym (more_digits_stop 0 value first others other) ∙ is)
digits_taken (suc more) value (first ∷ others) read byte rest is =
    by_digit (is_digit first) refl
    (digits_taken more (10 * value + digit_value first) others read byte rest)
  where
    by_digit : (test : Bool)
        → is_digit first ≡ test
        → (more_digits more (10 * value + digit_value first) others ≡ number read (byte ∷ rest)
        → DigitsTaken more (10 * value + digit_value first) others read byte rest)
        → DigitsTaken (suc more) value (first ∷ others) read byte rest
    by_digit true digit further =
        digits_on more value first others read byte rest digit
        (further (sym (more_digits_on more value first others digit) ∙ is))
    by_digit false other further =
        digits_stop (suc more) value first others read byte rest other
        (sym (more_digits_stop (suc more) value first others other) ∙ is)

-- ---- A number

pub record NumberTaken (bytes : List ℕ) (read byte : ℕ) (rest : List ℕ) : Type 0 where
  pub front : List ℕ
  pub splits : bytes ≡ front ++ (byte ∷ rest)
  pub at_least : 1 ≤ length front
  pub at_most : length front ≤ 7
  pub reads : (other : List ℕ) → read_number (front ++ (byte ∷ other)) ≡ number read (byte ∷ other)

-- Whether a number has a leading zero is seen before the byte that ends it.
leading_zero_front : (first : ℕ) (front : List ℕ) (byte : ℕ) (rest other : List ℕ)
    → leading_zero first (front ++ (byte ∷ rest)) ≡ leading_zero first (front ++ (byte ∷ other))
leading_zero_front first [] byte rest other = refl
leading_zero_front first (second ∷ front) byte rest other = refl

-- Whether a number may begin with a byte before others.
abbrev starts : ℕ → List ℕ → Bool
starts first others = is_digit first && not (leading_zero first others)

number_starts : (first : ℕ) (others : List ℕ)
    → starts first others ≡ true
    → read_number (first ∷ others) ≡ more_digits 6 (digit_value first) others
number_starts first others may = rw may

pub number_taken : (bytes : List ℕ) (read byte : ℕ) (rest : List ℕ)
    → read_number bytes ≡ number read (byte ∷ rest)
    → NumberTaken bytes read byte rest
number_taken [] read byte rest is = no_number_is_none _ _ is
number_taken (first ∷ others) read byte rest is = by_start (starts first others) refl
  where
    with_digits : starts first others ≡ true
        → DigitsTaken 6 (digit_value first) others read byte rest
        → NumberTaken (first ∷ others) read byte rest
    with_digits may taken = record {
      front = first ∷ taken.front;
      splits = ap (λ (bytes : List ℕ). first ∷ bytes) taken.splits;
      at_least = omega arith;
      at_most = omega (arith, taken.few);
      reads = λ follows.
          number_starts first (taken.front ++ (byte ∷ follows))
          (ap (λ (zero-leads : Bool). is_digit first && not zero-leads)
          (sym (ap (leading_zero first) taken.splits
          ∙ leading_zero_front first taken.front byte rest follows))
          ∙ may)
          ∙ taken.reads follows;
    }

    by_start : (test : Bool) → starts first others ≡ test
        → NumberTaken (first ∷ others) read byte rest
    by_start true may =
        with_digits may
        (digits_taken 6 (digit_value first) others read byte rest
        (sym (number_starts first others may) ∙ is))
    by_start false may-not = no_number_is_none _ _ (rw may-not at is)

-- ---- A field

pub record FieldTaken (mark : ℕ) (bytes : List ℕ) (read : ℕ) (rest : List ℕ) : Type 0 where
  pub front : List ℕ
  pub splits : bytes ≡ front ++ rest
  pub at_least : 2 ≤ length front
  pub at_most : length front ≤ 8
  pub reads : (other : List ℕ) → read_field mark (front ++ other) ≡ number read other

pub field_taken : (mark : ℕ) (bytes : List ℕ) (read : ℕ) (rest : List ℕ)
    → read_field mark bytes ≡ number read rest
    → FieldTaken mark bytes read rest
field_taken mark bytes read rest is = by_number (read_number bytes) refl
  where
    with_mark : (byte : ℕ)
        → eqb byte mark ≡ true
        → NumberTaken bytes read byte rest
        → FieldTaken mark bytes read rest
    with_mark byte marks taken = record {
      front = taken.front ++ (byte ∷ []);
      splits = taken.splits ∙ sym (append_assoc taken.front (byte ∷ []) rest);
      at_least = simp length-append (omega (arith, taken.at_least));
      at_most = simp length-append (omega (arith, taken.at_most));
      reads = λ follows.
          ap (read_field mark) (append_assoc taken.front (byte ∷ []) follows)
          ∙ ap (before_mark mark) (taken.reads follows)
          ∙ rw marks;
    }

    by_mark : (test : Bool) (value byte : ℕ) (after : List ℕ)
        → eqb byte mark ≡ test
        → read_number bytes ≡ number value (byte ∷ after)
        → FieldTaken mark bytes read rest
    by_mark true value byte after marks here =
        let same : number value after ≡ number read rest
        = sym (ap (before_mark mark) here ∙ rw marks) ∙ is in
        with_mark byte marks (number_taken bytes read byte rest (here ∙ cc))
    by_mark false value byte after other here =
        no_number_is_none _ _ (sym (ap (before_mark mark) here ∙ rw other) ∙ is)

    by_number : (found : Number) → read_number bytes ≡ found → FieldTaken mark bytes read rest
    by_number no_number here = no_number_is_none _ _ (sym (ap (before_mark mark) here) ∙ is)
    by_number (number value []) here = no_number_is_none _ _ (sym (ap (before_mark mark) here) ∙ is)
    by_number (number value (byte ∷ after)) here =
        by_mark (eqb byte mark) value byte after refl here
