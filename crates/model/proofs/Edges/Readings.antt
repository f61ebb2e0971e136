-- Reading the coordinator at the edges: the rows of specs/Edges/Readings.antt, each by computation.
use mathlib.Core.Path.{refl}
use Rattle.model.specs.Limits.{value_count}
use Rattle.model.specs.Draws.{is_taken}
use Rattle.model.specs.Edges.Readings.{ReadingEdges}

pub readings : ReadingEdges
unfolding value_count is_taken
readings = record {
  three_listed = refl;
  most_800 = refl;
  most_A = refl;
  most_of_all = refl;
  most_of_ten = refl;
  most_one = refl;
  both_listed = refl;
  margin_0 = refl;
  none_listed = refl;
  margin_below = refl;
  margin_above = refl;
  listed_at_0 = refl;
  margin_at_0 = refl;
  listed_first = refl;
  class_first = refl;
  listed_since = refl;
  margin_since = refl;
  class_since = refl;
  later_class = refl;
  later_record = refl;
  none_at_0 = refl;
  class_1 = refl;
  class_1023 = refl;
}
