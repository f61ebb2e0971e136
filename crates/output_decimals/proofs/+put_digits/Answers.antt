-- The digits of a tenth are written first, and then the last digit right after them.
use mathlib.Core.Path.{refl, sym, ap, ◌∙◌}
use mathlib.Core.List.{[], ◌∷◌}
use Prim.Native.Nat.{ℕ}
use native.Mathlib.Omega.{arith}
use lib.ListN.{length}
use Rattle.model.proofs.Worklists.DecimalLaws.{decimal_small, length_decimal_large}
use Rattle.laws.proofs.Writing.{put_one, put_as}
use Rattle.output_decimals.proofs.WritingLaws.{last_inside, digit_more}
use Rattle.output_decimals.proofs.+put_digits.Goals as goal

pub bounds-bytes-at : goal.bounds-bytes-at
bounds-bytes-at t c =
    omega (arith, c.requires, ap length (decimal_small c.args.n c.if-n-lt10.true))

pub returns-then-n-lt10 : goal.returns-then-n-lt10
returns-then-n-lt10 t c =
    let one = decimal_small c.args.n c.if-n-lt10.true in
    put_as (ap (λ (byte : ℕ). byte ∷ []) c.digit_byte.ensures ∙ sym one)
    (put_one c.args.at c.digit_byte.result c.args.bytes.now _
    (omega (arith, c.requires, ap length one)) refl)

pub put_digits-used-requires : goal.put_digits-used-requires
put_digits-used-requires t c = (
  omega (arith, c.decreases, c.if-n-lt10.false),
  omega (arith, c.requires, length_decimal_large c.args.n c.if-n-lt10.false),
)

pub bounds-bytes-at-2 : goal.bounds-bytes-at-2
bounds-bytes-at-2 t c =
    last_inside c.args.n c.args.at c.args.bytes.now _ _ c.if-n-lt10.false c.requires
    c.put_digits-used.ensures

pub returns : goal.returns
returns t c =
    digit_more c.args.n c.args.at c.args.bytes.now _ _ c.if-n-lt10.false c.requires
    c.put_digits-used.ensures c.digit_byte-2.result c.digit_byte-2.ensures
