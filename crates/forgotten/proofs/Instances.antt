-- The instances of request N1, each by computation.
use mathlib.Core.Path.{refl}
use Rattle.model.specs.Limits.{value_count}
use Rattle.model.specs.Draws.{is_taken}
use Rattle.forgotten.specs.DroppedInstances.{DroppedInstances}

pub dropped_instances : DroppedInstances
unfolding value_count is_taken
dropped_instances = record {
  p5_leaves = refl;
  p5_dropped = refl;
  p5_reported = refl;
  p5_unreported = refl;
  p5_code_6 = refl;
  p5_draws = refl;
  twelve_leaves = refl;
  twelve_slots = refl;
  twelve_dropped = refl;
  twelve_reported = refl;
  twelve_unreported = refl;
  twice = refl;
  twice_dropped = refl;
  twice_reported = refl;
  twice_unreported = refl;
  dropped_at_lem = refl;
  count_at = refl;
  forged_passes = refl;
  forged_record_lem = refl;
  forged_refused = refl;
}
