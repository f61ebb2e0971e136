-- A number that is no refusal's is 0, or past the table.
use Rattle.std.proofs.Common.{sym, ap}
use native.Mathlib.Omega.{arith}
use Rattle.output_words.specs.Words.{words_of}
use Rattle.output_words.proofs.WordLaws.{words_past}
use Rattle.output_words.proofs.words_of_number.Goals as goal

pub returns-then-number-eq-NO_REFUSAL : goal.returns-then-number-eq-NO_REFUSAL
returns-then-number-eq-NO_REFUSAL c = sym (ap words_of c.if-number-eq-NO_REFUSAL.true)

pub returns-else-number-eq-NO_REFUSAL : goal.returns-else-number-eq-NO_REFUSAL
returns-else-number-eq-NO_REFUSAL c = sym (words_past _ (grind (arith, c.in-Err.ensures)))
