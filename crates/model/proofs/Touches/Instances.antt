-- The instances of request N2, each by computation.
use mathlib.Core.Path.{refl}
use Rattle.model.specs.Limits.{value_count}
use Rattle.model.specs.Decimal.{decimal}
use Rattle.model.specs.Draws.{is_taken}
use Rattle.model.specs.TouchInstances.{TouchInstances}

pub touch_instances : TouchInstances
unfolding value_count decimal is_taken
touch_instances = record {
  class_0 = refl;
  class_1 = refl;
  class_1023 = refl;
  left_out = refl;
  unknown_site = refl;
  unknown_item = refl;
  value_1024 = refl;
  five_before_six = refl;
  full_touch = refl;
  full_draw = refl;
  full_unknown = refl;
  no_log = refl;
  no_log_full = refl;
  no_log_draw = refl;
  no_log_unknown = refl;
  both_messages = refl;
  both_listed = refl;
  both_class = refl;
  both_network = refl;
  both_counted = refl;
  both_of_8 = refl;
  both_accepted = refl;
  both_refusal = refl;
  both_written = refl;
  behind_accepted = refl;
  behind_written = refl;
  stopped = refl;
  stopped_accepted = refl;
  alone_listed = refl;
  alone_class = refl;
  alone_margin = refl;
  alone_messages = refl;
  alone_counted = refl;
  alone_allowance = refl;
  touches_accepted = refl;
  touches_refusal = refl;
  touches_network = refl;
  program = refl;
  program_behind = refl;
}
