-- The margin's chain at the edge: each row by computation.
use mathlib.Core.Path.{refl}
use Rattle.model.specs.Limits.{value_count}
use Rattle.coordinator_reading.specs.Edges.{MarginEdges}

pub margin_edges : MarginEdges
unfolding value_count
margin_edges = record {
  last_item = refl;
  unknown_item = refl;
  four_before_eleven = refl;
  eleven_before_six = refl;
}
