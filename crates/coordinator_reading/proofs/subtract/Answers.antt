-- The difference of two numbers below 2 ^ 62 is the one of two casts, and fits.
use mir.Syntax.{w64}
use mir.Val.{SFits}
use mir.Facts.{to_z-of_z}
use mathlib.Core.Path.{◌∙◌, subst⁻¹}
use Rattle.coordinator_reading.proofs.Signed.{casts_subtracted, difference_fits}
use Rattle.coordinator_reading.proofs.subtract.Goals as goal

pub overflow_sub-result : goal.overflow_sub-result
overflow_sub-result c =
    let x = c.args.x in
    let y = c.args.y in
    subst⁻¹ (SFits w64) (casts_subtracted x y c.requires.0 c.requires.1)
    (difference_fits x y c.requires.0 c.requires.1)

pub returns : goal.returns
returns c = to_z-of_z (overflow_sub-result c) ∙ casts_subtracted _ _ c.requires.0 c.requires.1
