-- The digits counted and the digits left, but for one, are the digits of n; each turn takes a
-- tenth.
use mathlib.Core.Path.{ap}
use native.Mathlib.Omega.{arith}
use lib.ListN.{length}
use Rattle.model.proofs.Worklists.DecimalLaws.{decimal_small, length_decimal_large}
use Rattle.output_decimals.proofs.count_decimal.Goals as goal

pub loop-rest-preserved : goal.loop-rest-preserved
loop-rest-preserved c = omega (arith, length_decimal_large c.loop-rest.rest (omega arith))

pub returns : goal.returns
returns c =
    omega (arith, ap length (decimal_small c.loop-rest.rest (omega arith)))
