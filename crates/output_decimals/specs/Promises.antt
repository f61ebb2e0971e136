-- The contract of writing a decimal number.
use Rattle.std.specs.Prelude.{◌≡◌, List, ℕ, length, if◌then◌else◌}
use Rattle.laws.specs.Writing.{written_at, fit}
use Rattle.model.specs.Decimal.{decimal}

-- The digits of a number written from a place on, and how many they are; where they don't fit,
-- nothing is written and the answer is 0.
pub record DecimalSays (n place : ℕ) (before after : List ℕ) (answer : ℕ) : Type 0 where
  pub count : answer ≡ (if fit (decimal n) place before then length (decimal n) else 0)
  pub bytes : after
      ≡ (if fit (decimal n) place before then written_at place (decimal n) before else before)
