-- The line test at the edge: each row by computation.
use mathlib.Core.Path.{refl}
use Rattle.controller.specs.Edges.{LineTestEdges}

pub line_test_edges : LineTestEdges
line_test_edges = record {
  well_formed = refl;
  no_line_feed = refl;
  leading_zero = refl;
  nothing = refl;
  handed_out = refl;
  left_alone = refl;
}
