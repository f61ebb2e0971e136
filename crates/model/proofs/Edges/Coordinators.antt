-- The coordinator at the edges: the rows of specs/Edges/Coordinators.antt, each by computation.
use mathlib.Core.Path.{refl}
use Rattle.model.specs.Limits.{value_count}
use Rattle.model.specs.Edges.Coordinators.{CoordinatorMemoryEdges, CoordinatorMessageEdges}

pub coordinator_memory : CoordinatorMemoryEdges
unfolding value_count
coordinator_memory = record {
  idle_1 = refl;
  idle_2 = refl;
  collecting_1 = refl;
  collecting_2 = refl;
  collecting_3 = refl;
  probing_1 = refl;
  probing_3 = refl;
  announcing_1 = refl;
  announcing_3 = refl;
  collecting_site_1 = refl;
  collecting_site_2 = refl;
  probing_site_1 = refl;
  probing_site_2 = refl;
  announcing_site_1 = refl;
  announcing_site_2 = refl;
  interval_last = refl;
  interval_one = refl;
  interval_beyond = refl;
  sum_limit = refl;
  sum_above = refl;
  threshold_less = refl;
  threshold_more = refl;
  base_all = refl;
  base_above = refl;
  class_1023 = refl;
  class_1024 = refl;
  counts_all = refl;
  counts_few = refl;
  counts_many = refl;
  estimate_limit_lem = refl;
  estimate_above = refl;
  last_estimate_above = refl;
  count_limit = refl;
  count_above = refl;
  total_limit = refl;
  total_above = refl;
  enough = refl;
  one_short = refl;
  longer = refl;
  three_before_four = refl;
  four_before_eleven = refl;
}

pub coordinator_messages : CoordinatorMessageEdges
unfolding value_count
coordinator_messages = record {
  item_report_lem = refl;
  count_report_lem = refl;
  idle_kind_0 = refl;
  idle_kind_3 = refl;
  idle_kind_4 = refl;
  idle_kind_5 = refl;
  idle_kind_6 = refl;
  idle_kind_7 = refl;
  poll_answer_lem = refl;
  poll_answer_other = refl;
  collecting_kind_2 = refl;
  collecting_kind_6 = refl;
  probe_answer_lem = refl;
  probe_answer_other = refl;
  probing_kind_4 = refl;
  announcing_kind_1 = refl;
  announcing_kind_7 = refl;
  wanted = refl;
  wanted_idle = refl;
  wanted_collecting = refl;
  wanted_probing = refl;
  unknown_site = refl;
  unknown_item = refl;
  value_1024 = refl;
  probed_1024 = refl;
  item_amount = refl;
  item_amount_less = refl;
  count_amount = refl;
  count_amount_less = refl;
  count_two = refl;
  count_class = refl;
  count_class_1024 = refl;
  poll_threshold = refl;
  poll_b = refl;
  probed_less = refl;
  probed_more = refl;
  probed_1023 = refl;
  probed_limit = refl;
  probed_above = refl;
  five_before_nine = refl;
  nine_before_six = refl;
  nine_before_seven = refl;
  six_before_ten = refl;
  seven_before_ten = refl;
}
