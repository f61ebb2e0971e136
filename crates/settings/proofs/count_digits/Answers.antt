-- The digits counted and the digits left are the digits of n; each turn halves what is left.
use mathlib.Core.Path.{◌≡◌, ap}
use native.Mathlib.Omega.{arith}
use Rattle.model.specs.Settings.{digits}
use Rattle.model.proofs.MessageCount.Digits.{digits_half, digits_bound}
use Rattle.settings.proofs.count_digits.Goals as goal

pub loop-left-init : goal.loop-left-init
loop-left-init c = omega arith

pub overflow_add-count : goal.overflow_add-count
overflow_add-count c =
    let few = digits_bound 64 c.args.n c.ranges.n.fits in
    record { fits = omega (arith, digits_half c.loop-left.left c.loop-left-test.true) }

pub loop-left-smaller : goal.loop-left-smaller
loop-left-smaller c = omega arith

pub loop-left-preserved : goal.loop-left-preserved
loop-left-preserved c = omega (arith, digits_half c.loop-left.left c.loop-left-test.true)

pub returns : goal.returns
returns c =
    let none : c.loop-left.left ≡ 0 = omega arith in
    omega (arith, ap digits none)
