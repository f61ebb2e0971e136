-- The chain of the start call at the edge: each row by computation.
use mathlib.Core.Path.{refl}
use Rattle.model.specs.Limits.{value_count}
use Rattle.site_start.specs.Edges.{SiteStartEdges}

pub site_start_edges : SiteStartEdges
unfolding value_count
site_start_edges = record {
  start_enough = refl;
  start_short = refl;
  start_three_before_four = refl;
  start_clears = refl;
}
