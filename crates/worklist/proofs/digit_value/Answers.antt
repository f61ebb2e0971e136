-- A digit's byte is 48 to 57, so its value is below 10.
use native.Mathlib.Omega.{arith}
use mathlib.Core.Path.{refl}
use Rattle.model.proofs.Worklists.DecimalLaws.{digit_within}
use Rattle.worklist.proofs.digit_value.Goals as goal

pub overflow_sub-result : goal.overflow_sub-result
overflow_sub-result c = omega (arith, (digit_within c.args.byte c.requires).at_least)

pub returns : goal.returns
returns c = (refl, omega (arith, (digit_within c.args.byte c.requires).at_most))
