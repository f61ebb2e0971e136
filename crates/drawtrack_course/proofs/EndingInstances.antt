-- The rows of specs/EndingInstances.antt compute.
use mathlib.Core.Path.{refl}
use Rattle.model.specs.Draws.{is_taken}
use Rattle.drawtrack_course.specs.EndingInstances.{EndingInstances}

pub ending_instances : EndingInstances
unfolding is_taken
ending_instances = record {
  no_draws = refl;
  one_draw = refl;
  first_refused = refl;
  later_refused = refl;
  bare_line = refl;
  no_input = refl;
  settings_beyond = refl;
}
