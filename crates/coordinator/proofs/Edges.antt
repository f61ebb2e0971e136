-- The chains of the calls on the coordinator at the edge: each row by computation.
use mathlib.Core.Path.{refl}
use Rattle.model.specs.Limits.{value_count}
use Rattle.coordinator.specs.Edges.{CoordinatorCallEdges}

pub coordinator_call_edges : CoordinatorCallEdges
unfolding value_count
coordinator_call_edges = record {
  start_enough = refl;
  start_short = refl;
  start_three_before_four = refl;
  message_accepted = refl;
  message_unknown_site = refl;
  message_four_before_eleven = refl;
  message_eleven_before_five = refl;
  wanted = refl;
  wanted_idle = refl;
  wanted_four_before_eleven = refl;
  wanted_eleven_before_nine = refl;
}
