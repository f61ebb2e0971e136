-- One draw, one message at the edges: the rows of specs/Edges/Steps.antt, each by computation.
use mathlib.Core.Path.{refl}
use Rattle.model.specs.Limits.{value_count}
use Rattle.model.specs.Edges.Steps.{DrawEdges, StepEdges}

pub draws : DrawEdges
unfolding value_count
draws = record {
  both_messages = refl;
  both_site = refl;
  item_alone = refl;
  item_site = refl;
  count_alone = refl;
  count_site = refl;
  neither = refl;
  new_code = refl;
}

pub steps : StepEdges
unfolding value_count
steps = record {
  item_record = refl;
  item_estimates = refl;
  item_counts = refl;
  item_silent = refl;
  count_record = refl;
  count_silent = refl;
  count_later = refl;
  count_class = refl;
  close_record = refl;
  close_polls = refl;
  poll_record = refl;
  poll_next = refl;
  closed_record = refl;
  closed_silent = refl;
  probing_record = refl;
  probing_first = refl;
  probe_record = refl;
  probe_next = refl;
  high_record = refl;
  high_probe = refl;
  low_record = refl;
  low_probe = refl;
  enough_exactly = refl;
  enough_short = refl;
  class_low = refl;
  class_high = refl;
  class_silent = refl;
  announced_first = refl;
  announcement_first = refl;
  announced_last = refl;
  announcement_last = refl;
}
