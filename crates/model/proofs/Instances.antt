-- Document 01's instances hold of the definitions: each field by computation.
use mathlib.Core.Path.{refl}
use Rattle.model.specs.Limits.{value_count}
use Rattle.model.specs.Draws.{is_taken}
use Rattle.model.specs.Decimal.{decimal}
use Rattle.model.specs.Instances.{Instances}

pub instances : Instances
unfolding value_count decimal is_taken
instances = record {
  p1_list = refl;
  p1_class = refl;
  p2_messages = refl;
  p2_transcript = refl;
  p3_first = refl;
  p3_second = refl;
  p3_third = refl;
  p3_fourth = refl;
  p3_fifth = refl;
  p3_sixth = refl;
  p3_all = refl;
  p3_threshold = refl;
  p4_seventh = refl;
  p4_eighth = refl;
  p4_threshold = refl;
  p5_counters = refl;
  p5_unreported = refl;
  p5_silent = refl;
  p6_one = refl;
  p6_two = refl;
  p6_three = refl;
  p7_few = refl;
  p7_enough = refl;
  p8_above = refl;
  p8_below = refl;
  p9_lower = refl;
  p9_upper = refl;
  p10_six = refl;
  p10_none = refl;
}
