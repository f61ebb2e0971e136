-- The batch call at the edge: each row by computation.
use mathlib.Core.Path.{refl}
use Rattle.model.specs.Limits.{value_count}
use Rattle.tracker.specs.Edges.{BatchCallEdges}

pub batch_call_edges : BatchCallEdges
unfolding value_count
batch_call_edges = record {
  log_99 = refl;
  log_100 = refl;
  one_fits = refl;
  one_lacks = refl;
  third_lacks = refl;
  two_accepted = refl;
  counted = refl;
  stopped = refl;
  stopped_accepted = refl;
  touches = refl;
  touches_accepted = refl;
  touches_unlogged = refl;
  between = refl;
  between_accepted = refl;
  four_first = refl;
  none_accepted = refl;
}
