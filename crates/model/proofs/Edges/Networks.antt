-- The network and batches at the edges: the rows of specs/Edges/Networks.antt, each by computation.
use mathlib.Core.Path.{refl}
use Rattle.model.specs.Limits.{value_count}
use Rattle.model.specs.Draws.{is_taken}
use Rattle.model.specs.Edges.Networks.{NetworkEdges, BatchEdges}

pub network_memory : NetworkEdges
unfolding value_count is_taken
network_memory = record {
  at_rest = refl;
  first_site = refl;
  last_site = refl;
  coordinator = refl;
  messages_limit = refl;
  messages_above = refl;
  not_idle = refl;
  threshold_first = refl;
  threshold_last = refl;
  threshold_lower = refl;
  all_counted = refl;
  pending_lost = refl;
  total_more = refl;
  enough = refl;
  sites_short = refl;
  coordinator_short = refl;
  longer = refl;
  three_before_four = refl;
  four_before_eleven = refl;
}

pub batches : BatchEdges
unfolding value_count is_taken
batches = record {
  room_25 = refl;
  room_24 = refl;
  eight_before_fourteen = refl;
  none_given = refl;
  none_accepted = refl;
  one_fits = refl;
  one_accepted = refl;
  one_written = refl;
  log_29 = refl;
  log_29_stopped = refl;
  log_30 = refl;
  log_30_written = refl;
  log_30_stopped = refl;
  stopped = refl;
  stopped_accepted = refl;
  stopped_written = refl;
  stopped_network = refl;
  run_accepted = refl;
  run_messages = refl;
}
