-- Request N4's instances hold: each figure by computation.
use mathlib.Core.Path.{refl}
use Rattle.model.specs.Limits.{value_count}
use Rattle.snapshot_examples.specs.Sums.{SumInstances}

pub sum_instances : SumInstances
unfolding value_count
sum_instances = record {
  full_summed = refl;
  full_rounds = refl;
  full_singles = refl;
  a_rounds = refl;
  a_singles = refl;
  none_rounds = refl;
  none_singles = refl;
  seven_rounds = refl;
  seven_singles = refl;
  eight_rounds = refl;
  eight_singles = refl;
  word_is = refl;
  word_lower = refl;
  word_upper = refl;
  lower_sum = refl;
  upper_sum = refl;
  most_lower = refl;
  most_upper = refl;
  most_sum = refl;
  block_sum = refl;
  last_room = refl;
  run_over = refl;
  last_below = refl;
  first_above = refl;
}
