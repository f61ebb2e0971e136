-- The instances of request N5, each by computation.
use mathlib.Core.Path.{refl}
use Rattle.model.specs.Limits.{value_count}
use Rattle.model.specs.Draws.{is_taken}
use Rattle.model.specs.CountInstances.{CountInstances}

pub count_instances : CountInstances
unfolding value_count is_taken
count_instances = record {
  kinds_of_0 = refl;
  kinds_of_1 = refl;
  counters = refl;
  naming_0 = refl;
  naming_1 = refl;
  total = refl;
  first_alone = refl;
  counted_on = refl;
  p2 = refl;
  limit_first = refl;
  above_first = refl;
  limit_last = refl;
  above_last = refl;
  sum_above = refl;
  past_untested = refl;
  past_not_summed = refl;
}
