-- The list's chain at the edge: each row by computation.
use mathlib.Core.Path.{refl}
use Rattle.model.specs.Limits.{value_count}
use Rattle.model.specs.Draws.{is_taken}
use Rattle.coordinator_list.specs.Edges.{ListEdges}

pub list_edges : ListEdges
unfolding value_count is_taken
list_edges = record {
  none_listed = refl;
  one_listed = refl;
  one_without_place = refl;
  three_listed = refl;
  three_in_two = refl;
  eleven_before_twelve = refl;
  four_before_twelve = refl;
}
