-- Each turn of the loop takes a digit into the number, as `more_digits` does.
use mathlib.Core.Path.{◌≡◌, sym, ◌∙◌}
use Prim.Native.Nat.{◌+◌, ◌-◌, ◌*◌, ◌<◌}
use native.Mathlib.Omega.{arith}
use lib.ListN.{length}
use Rattle.model.specs.Limits.{number_limit}
use Rattle.worklist.proofs.ReadingLaws.{reading_room, reading_on, reading_stop, reading_end}
use Rattle.worklist.proofs.more_digits.Goals as goal
use Rattle.worklist.proofs.more_digits.Goals.{Else-next-start}

-- A digit may still come, so ten times the value fits.
value_small : (c : Else-next-start) → 10 * c.loop-next.value < number_limit
value_small c = reading_room _ (omega (arith, c.if-next-start.false)) c.loop-next.invariant.0

pub returns-then-not-is_digit : goal.returns-then-not-is_digit
returns-then-not-is_digit c =
    let other = sym c.is_digit.ensures ∙ c.if-not-is_digit.true in
    reading_stop _ c.loop-next-test.true other c.loop-next.invariant.0

pub overflow_mul-value : goal.overflow_mul-value
overflow_mul-value c = record { fits = omega (arith, value_small c) }

pub overflow_add-value : goal.overflow_add-value
overflow_add-value c = record {
  fits = omega (
    arith,
    value_small
        (goal.at.overflow_add-value c).Else-next-start,
    c.digit_value.ensures.1,
  );
}

pub loop-next-preserved : goal.loop-next-preserved
loop-next-preserved c =
    let here = c.loop-next.next in
    let more : c.args.start + 6 - here - 1 ≡ c.args.start + 6 - (here + 1) = omega arith in
    let on = reading_on _ (omega (arith, c.if-next-start.false)) c.loop-next-test.true
    (sym c.is_digit.ensures ∙ c.if-not-is_digit.false) c.loop-next.invariant.0 in
    (rw (c.digit_value.ensures.0, ← more) on, omega (arith, c.if-next-start.false))

pub returns : goal.returns
returns c =
    let whole : c.loop-next.next ≡ length c.args.bytes.now = omega arith in
    rw whole at (reading_end _ c.loop-next-test.false c.loop-next.invariant.0)
