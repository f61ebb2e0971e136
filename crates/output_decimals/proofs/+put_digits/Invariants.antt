-- The digits of a tenth are written first: the number falls.
use Rattle.output_decimals.proofs.+put_digits.Given as goal

abbrev pub decreases-put_digits : goal.decreases-put_digits
decreases-put_digits l = l.n
