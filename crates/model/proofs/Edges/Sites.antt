-- A site at the edges: the rows of specs/Edges/Sites.antt, each by computation.
use mathlib.Core.Path.{refl}
use Rattle.model.specs.Limits.{value_count}
use Rattle.model.specs.Edges.Sites.{SiteMemoryEdges, ArrivalEdges, SiteMessageEdges, CounterEdges}

pub site_memory : SiteMemoryEdges
unfolding value_count
site_memory = record {
  at_limits_lem = refl;
  used_6 = refl;
  used_7 = refl;
  item_10 = refl;
  item_10_unused = refl;
  full = refl;
  above_full = refl;
  counts_few = refl;
  counts_many = refl;
  overcount = refl;
  overcount_above = refl;
  sent_above = refl;
  count_all = refl;
  count_above = refl;
  unsent = refl;
  pending = refl;
  threshold_0 = refl;
  threshold_limit = refl;
  threshold_above = refl;
  dropped_above = refl;
  enough = refl;
  one_short = refl;
  longer = refl;
  longer_rest = refl;
  three_before_four = refl;
  four_before_eleven = refl;
}

pub arrivals : ArrivalEdges
unfolding value_count
arrivals = record {
  last = refl;
  unknown_site = refl;
  unknown_item = refl;
  value_1024 = refl;
  site_full = refl;
  five_before_six = refl;
  six_before_seven = refl;
  seven_before_eight = refl;
}

pub site_messages : SiteMessageEdges
unfolding value_count
site_messages = record {
  poll_due = refl;
  probe_due = refl;
  announcement_due = refl;
  unknown_site = refl;
  other_site = refl;
  kind_0 = refl;
  kind_1 = refl;
  kind_2 = refl;
  kind_4 = refl;
  kind_6 = refl;
  kind_8 = refl;
  value_1024 = refl;
  poll_a = refl;
  poll_b = refl;
  probe_b = refl;
  same_threshold = refl;
  lower_threshold = refl;
  threshold_limit = refl;
  threshold_above = refl;
  five_before_nine = refl;
  nine_before_seven = refl;
  seven_before_ten = refl;
  poll_answered = refl;
  poll_clears = refl;
  probe_low = refl;
  probe_below_top = refl;
  probe_top = refl;
  announcement_sets = refl;
  announcement_silent = refl;
}

pub counters : CounterEdges
counters = record {
  own_slot = refl;
  next_unused = refl;
  least_last = refl;
  least_count = refl;
  least_first = refl;
  least_after = refl;
  then_holds = refl;
  own_gains = refl;
  unused_starts = refl;
  twice_found = refl;
  twice_least = refl;
  not_found = refl;
  no_slot = refl;
  unsent = refl;
  sent = refl;
  all_unsent = refl;
  nobody_own = refl;
  nobody_unused = refl;
  leaves = refl;
  leaves_with_none = refl;
  leaves_twice = refl;
  gone_with_nobody = refl;
  gone_with = refl;
}
