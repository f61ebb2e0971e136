-- Laws of the digit loop: how it goes on, and what it has read where it ends.
--
--   drop_at          the byte at a place, and those after it
--   reading_small    the value fits seven digits
--   reading_room     ten times the value does, where a digit may still come
--   reading_on       one digit more
--   reading_stop     another byte: the number ends before it
--   reading_end      the end of the bytes: the number ends there
use Rattle.std.specs.Prelude.{Some}
use mathlib.Core.Path.{◌≡◌, sym, ap, ◌∙◌}
use mathlib.Core.Bool.{true, false}
use mathlib.Core.List.{List, ◌∷◌}
use Prim.Native.Nat.{ℕ, zero, suc, ◌+◌, ◌-◌, ◌*◌, ◌^◌, ◌≤◌, ◌<◌}
use native.Mathlib.Nat.{pow-suc, pow-le-pow_right}
use native.Mathlib.Omega.{arith}
use lib.ListN.{length, get_or, drop, drop_of_length-le}
use lib.Seq.{drop-cons}
use native.Mathlib.Numerals.{add-one}
use Rattle.model.specs.Limits.{number_limit}
use Rattle.model.specs.Decimal.{is_digit, digit_value, Number, number, more_digits}
use Rattle.model.proofs.Worklists.DecimalLaws.{digit_within, more_digits_on, more_digits_stop}
use Rattle.worklist.specs.Promises.{NumberSays}
use Rattle.worklist.specs.Reading.{Reading}

-- ---- Bytes from a place on

pub drop_at : (bytes : List ℕ) (next : ℕ)
    → next < length bytes
    → drop next bytes ≡ get_or bytes next 0 ∷ drop (next + 1) bytes
drop_at bytes next inside = rw (add-one next) (drop-cons bytes next 0 inside)

-- ---- The digit loop

module _ {bytes : List ℕ} {begun : Number} {next value : ℕ} where
  -- value < 10 ^ (7 - more) ≤ 10 ^ 7, and less while a digit may come
  pub reading_small : (more : ℕ) → Reading bytes begun next value more → value < number_limit
  reading_small more reading =
      omega (arith, pow-le-pow_right {n = 10} (omega arith) {i = 7 - more} {j = 7} (omega arith))

  pub reading_room : (more : ℕ)
      → 0 < more
      → Reading bytes begun next value more
      → 10 * value < number_limit
  reading_room more some reading =
      omega (arith, pow-le-pow_right {n = 10} (omega arith) {i = 7 - more} {j = 6} (omega arith))

  -- 10 × value + digit < 10 × 10 ^ (7 - more) = 10 ^ (8 - more)
  pub reading_on : (more : ℕ)
      → 0 < more
      → next < length bytes
      → is_digit (get_or bytes next 0) ≡ true
      → Reading bytes begun next value more
      → Reading bytes begun (next + 1) (10 * value + digit_value (get_or bytes next 0)) (more - 1)
  reading_on zero some inside digit reading = absurd (omega arith)
  reading_on (suc more) some inside digit reading =
      let byte = get_or bytes next 0 in
      let here : suc more - 1 ≡ more = omega arith in
      let power : 7 - more ≡ suc (7 - suc more) = omega (arith, reading.few) in
      let wider : 10 ^ (7 - more) ≡ 10 ^ (7 - suc more) * 10
      = ap (λ (n : ℕ). 10 ^ n) power ∙ pow-suc 10 (7 - suc more) in
      rw here
      (record {
        within = omega arith;
        few = omega (arith, reading.few);
        small = omega (arith, wider, reading.small, (digit_within byte digit).at_most);
        is =
            sym (more_digits_on more value byte (drop (next + 1) bytes) digit)
            ∙ ap (more_digits (suc more) value) (sym (drop_at bytes next inside))
            ∙ reading.is;
      })

  pub reading_stop : (more : ℕ)
      → next < length bytes
      → is_digit (get_or bytes next 0) ≡ false
      → Reading bytes begun next value more
      → NumberSays bytes begun (Some (record { value = value; next = next }))
  reading_stop more inside other reading = record {
    is =
        ap (number value) (drop_at bytes next inside)
        ∙ sym (more_digits_stop more value (get_or bytes next 0) (drop (next + 1) bytes) other)
        ∙ ap (more_digits more value) (sym (drop_at bytes next inside))
        ∙ reading.is;
    within = reading.within;
    small = reading_small more reading;
  }

  pub reading_end : (more : ℕ)
      → length bytes ≤ next
      → Reading bytes begun next value more
      → NumberSays bytes begun (Some (record { value = value; next = next }))
  reading_end more outside reading = record {
    is =
        ap (number value) (drop_of_length-le bytes outside)
        ∙ ap (more_digits more value) (sym (drop_of_length-le bytes outside))
        ∙ reading.is;
    within = reading.within;
    small = reading_small more reading;
  }
