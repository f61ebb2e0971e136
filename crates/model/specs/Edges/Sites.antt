-- A site: what its memory must hold (4 and 11), the refusals of a draw and of a message and their
-- order, and which counter a draw takes.
use Rattle.std.specs.Prelude.{◌≡◌, Some, None, List, [], ◌∷◌, ◌++◌, ℕ, replicate}
use Rattle.model.specs.declared.SiteRecord.{SiteRecord}
use Rattle.model.specs.Settings.{settings_with}
use Rattle.model.specs.Messages.{poll_kind, probe_kind, message, item_report, count_report, poll, poll_answer, probe, probe_answer, announcement}
use Rattle.model.specs.Counters.{Counter, unreported, unreported_in, find, least_place, placement_for, own, unused, replaced, counters_after, left_with, leaving_by, gone_with, after_report}
use Rattle.model.specs.Site.{Site, fresh_site, arrival_refusal, site_message_refusal, site_receives}
use Rattle.model.specs.SiteMemory.{site_memory_refusal}
use Rattle.model.specs.Instances.{settings_a, settings_p6, arrival_with, counter_with}
use Rattle.model.specs.Edges.Inputs.{site_numbers, site_at_threshold, end_counts, site_refusal}

-- A site under settings A where all is at its limit: code 9, a count of all four draws, overcount
-- plus sent its count, unsent and pending one below the threshold, draws of class 1023, all draws
-- forgotten.
abbrev pub at_limits : SiteRecord
at_limits = site_numbers 4 2 3 2 4

-- Two slots as they stand in memory, of which the second is at its limits.
abbrev pub two_slots : ℕ → ℕ → ℕ → ℕ → List ℕ
two_slots item count overestimate reported =
    item ∷ count ∷ overestimate ∷ reported ∷ 0 ∷ 4 ∷ 2 ∷ 2 ∷ []

-- "memory inconsistent", of a site: each row at its limit and past it.
pub record SiteMemoryEdges : Type 0 where
  pub at_limits_lem : site_refusal at_limits (two_slots 9 3 1 0) (end_counts 1 3) ≡ 0
  -- "slots in use above c"
  pub used_6 : site_refusal (site_numbers 4 2 3 6 0) (two_slots 9 3 1 0) (end_counts 1 3) ≡ 0
  pub used_7 : site_refusal (site_numbers 4 2 3 7 0) (two_slots 9 3 1 0) (end_counts 1 3) ≡ 11
  -- "in a slot in use, a code not below u"
  pub item_10 : site_refusal at_limits (two_slots 10 3 1 0) (end_counts 1 3) ≡ 11
  pub item_10_unused : site_refusal (site_numbers 4 2 3 0 0) (two_slots 10 3 1 0) (end_counts 1 3)
      ≡ 0
  -- "a deck above its limit"
  pub full : site_refusal (site_numbers 1000000000 0 1 0 0) [] (end_counts 1000000000 0) ≡ 0
  pub above_full : site_refusal (site_numbers 1000000001 0 1 0 0) [] (end_counts 1000000001 0) ≡ 11
  -- "class counts not summing to draws", the last class too
  pub counts_few : site_refusal at_limits (two_slots 9 3 1 0) (end_counts 1 2) ≡ 11
  pub counts_many : site_refusal at_limits (two_slots 9 3 1 0) (end_counts 2 3) ≡ 11
  -- "an overcount plus sent above its count"
  pub overcount : site_refusal at_limits (two_slots 9 2 1 1) (end_counts 1 3) ≡ 0
  pub overcount_above : site_refusal at_limits (two_slots 9 2 3 0) (end_counts 1 3) ≡ 11
  pub sent_above : site_refusal at_limits (two_slots 9 2 1 2) (end_counts 1 3) ≡ 11
  -- "a count above draws"
  pub count_all : site_refusal at_limits (two_slots 9 4 3 0) (end_counts 1 3) ≡ 0
  pub count_above : site_refusal at_limits (two_slots 9 5 4 0) (end_counts 1 3) ≡ 11
  -- "unsent or pending not below the threshold"
  pub unsent : site_refusal at_limits (two_slots 9 3 0 0) (end_counts 1 3) ≡ 11
  pub pending : site_refusal (site_numbers 4 3 3 2 0) (two_slots 9 3 1 0) (end_counts 1 3) ≡ 11
  -- "a deck's threshold 0 or above 1,000,000,000"
  pub threshold_0 : site_refusal (site_numbers 0 0 0 0 0) [] (end_counts 0 0) ≡ 11
  pub threshold_limit : site_refusal (site_numbers 0 0 1000000000 0 0) [] (end_counts 0 0) ≡ 0
  pub threshold_above : site_refusal (site_numbers 0 0 1000000001 0 0) [] (end_counts 0 0) ≡ 11
  -- request N1: "A forgotten sum above the deck's draws"
  pub dropped_above : site_refusal (site_numbers 4 2 3 2 5) (two_slots 9 3 1 0) (end_counts 1 3) ≡
      11
  -- "lent memory shorter than above (longer is fine ..)": 4 × 6 + 1024 numbers
  pub enough : site_memory_refusal settings_a (site_numbers 0 0 1 0 0) (replicate 1048 0) ≡ 0
  pub one_short : site_memory_refusal settings_a (site_numbers 0 0 1 0 0) (replicate 1047 0) ≡ 4
  pub longer : site_memory_refusal settings_a (site_numbers 0 0 1 0 0) (replicate 1049 7) ≡ 11
  pub longer_rest : site_refusal (site_numbers 0 0 1 0 0) [] (end_counts 0 0 ++ (7 ∷ [])) ≡ 0
  -- "Order: 1, 2, 3; then 4, 11"
  pub three_before_four :
      site_memory_refusal (settings_with 1 1000 1000 500 5 10) (site_numbers 0 0 1 0 0) [] ≡ 3
  pub four_before_eleven : site_memory_refusal settings_a (site_numbers 0 0 0 0 0) [] ≡ 4

-- Settings A: one site, codes 0 to 9. A site that is full, or one draw short of it.
abbrev pub site_having : ℕ → Site
site_having arrivals = record {
  counters = [];
  histogram = fresh_site.histogram;
  arrivals = arrivals;
  pending = 0;
  threshold = 1;
  dropped = 0;
}

pub record ArrivalEdges : Type 0 where
  -- at the limits: deck k - 1, code u - 1, class 1023, one draw left
  pub last : arrival_refusal settings_a (site_having 999999999) (arrival_with 0 9 1023) ≡ 0
  pub unknown_site : arrival_refusal settings_a fresh_site (arrival_with 1 9 1023) ≡ 5
  pub unknown_item : arrival_refusal settings_a fresh_site (arrival_with 0 10 1023) ≡ 6
  pub value_1024 : arrival_refusal settings_a fresh_site (arrival_with 0 9 1024) ≡ 7
  pub site_full : arrival_refusal settings_a (site_having 1000000000) (arrival_with 0 9 1023) ≡ 8
  -- "for a draw 5, 6, 7, 8"
  pub five_before_six : arrival_refusal settings_a fresh_site (arrival_with 1 10 3) ≡ 5
  pub six_before_seven : arrival_refusal settings_a fresh_site (arrival_with 0 10 1024) ≡ 6
  pub seven_before_eight :
      arrival_refusal settings_a (site_having 1000000000) (arrival_with 0 9 1024) ≡ 7

-- A site with four draws, one of class 0 and three of class 1023, one forgotten, so many pending.
abbrev pub site_after_four : ℕ → Site
site_after_four pending = record {
  counters = [];
  histogram = end_counts 1 3;
  arrivals = 4;
  pending = pending;
  threshold = 3;
  dropped = 1;
}

-- P6's settings: two sites. Messages at site 1.
pub record SiteMessageEdges : Type 0 where
  -- "kinds 3, 5 and 7 are due at any time, with its own deck number"
  pub poll_due : site_message_refusal settings_p6 fresh_site 1 (poll 1) ≡ 0
  pub probe_due : site_message_refusal settings_p6 fresh_site 1 (probe 1 1023) ≡ 0
  pub announcement_due : site_message_refusal settings_p6 fresh_site 1 (announcement 1 1 2) ≡ 0
  pub unknown_site : site_message_refusal settings_p6 fresh_site 1 (poll 2) ≡ 5
  pub other_site : site_message_refusal settings_p6 fresh_site 1 (poll 0) ≡ 9
  pub kind_0 : site_message_refusal settings_p6 fresh_site 1 (message 0 1 0 0) ≡ 9
  pub kind_1 : site_message_refusal settings_p6 fresh_site 1 (item_report 1 0 1) ≡ 9
  pub kind_2 : site_message_refusal settings_p6 fresh_site 1 (count_report 1 1 0) ≡ 9
  pub kind_4 : site_message_refusal settings_p6 fresh_site 1 (poll_answer 1 0) ≡ 9
  pub kind_6 : site_message_refusal settings_p6 fresh_site 1 (probe_answer 1 0 0) ≡ 9
  pub kind_8 : site_message_refusal settings_p6 fresh_site 1 (message 8 1 0 0) ≡ 9
  pub value_1024 : site_message_refusal settings_p6 fresh_site 1 (probe 1 1024) ≡ 7
  -- "an a or b that must be 0"
  pub poll_a : site_message_refusal settings_p6 fresh_site 1 (message poll_kind 1 1 0) ≡ 10
  pub poll_b : site_message_refusal settings_p6 fresh_site 1 (message poll_kind 1 0 1) ≡ 10
  pub probe_b : site_message_refusal settings_p6 fresh_site 1 (message probe_kind 1 3 1) ≡ 10
  -- "7 below the present threshold or above 1,000,000,000"
  pub same_threshold : site_message_refusal settings_p6 (site_at_threshold 5) 1
      (announcement 1 5 9) ≡ 0
  pub lower_threshold :
      site_message_refusal settings_p6 (site_at_threshold 5) 1 (announcement 1 4 9) ≡ 10
  pub threshold_limit :
      site_message_refusal settings_p6 fresh_site 1 (announcement 1 1000000000 9) ≡ 0
  pub threshold_above :
      site_message_refusal settings_p6 fresh_site 1 (announcement 1 1000000001 9) ≡ 10
  -- "for a message 5, 9, .. 7, 10"
  pub five_before_nine : site_message_refusal settings_p6 fresh_site 1 (item_report 2 0 1) ≡ 5
  pub nine_before_seven : site_message_refusal settings_p6 fresh_site 1 (probe 0 1024) ≡ 9
  pub seven_before_ten : site_message_refusal settings_p6 fresh_site 1
      (message probe_kind 1 1024 1) ≡ 7
  -- "pending, then set to 0"; "draws at or below it"; kind 7 sets the threshold
  pub poll_answered : (site_receives (site_after_four 2) (poll 1)).messages ≡ poll_answer 1 2 ∷ []
  pub poll_clears : (site_receives (site_after_four 2) (poll 1)).site ≡ site_after_four 0
  pub probe_low : (site_receives (site_after_four 2) (probe 1 0)).messages ≡ probe_answer 1 0 1 ∷ []
  pub probe_below_top :
      (site_receives (site_after_four 2) (probe 1 1022)).messages ≡ probe_answer 1 1022 1 ∷ []
  pub probe_top :
      (site_receives (site_after_four 2) (probe 1 1023)).messages ≡ probe_answer 1 1023 4 ∷ []
  pub announcement_sets : (site_receives fresh_site (announcement 1 5 9)).site ≡ site_at_threshold 5
  pub announcement_silent : (site_receives fresh_site (announcement 1 5 9)).messages ≡ []

-- A counter with overcount 2 and sent 3.
abbrev pub held : ℕ → ℕ → Counter
held item count = counter_with item count 2 3

-- "A code in a slot gains one count (the lowest such slot ..). Otherwise it takes the next unused
-- slot .. With none unused, it replaces the code of least count (of equals, the least code)".
pub record CounterEdges : Type 0 where
  pub own_slot : placement_for 3 (held 4 7 ∷ held 3 6 ∷ held 1 6 ∷ []) 3 ≡ own 1
  pub next_unused : placement_for 4 (held 4 7 ∷ held 3 6 ∷ held 1 6 ∷ []) 9 ≡ unused
  -- the least code is in the last of three slots
  pub least_last : placement_for 3 (held 4 7 ∷ held 3 6 ∷ held 1 6 ∷ []) 9 ≡ replaced 2
  -- the least count comes first, whatever the codes
  pub least_count : placement_for 3 (held 4 7 ∷ held 3 6 ∷ held 1 7 ∷ []) 9 ≡ replaced 1
  pub least_first : placement_for 3 (held 1 6 ∷ held 3 6 ∷ held 4 7 ∷ []) 9 ≡ replaced 0
  pub least_after : placement_for 3 (held 1 6 ∷ held 3 7 ∷ held 4 5 ∷ []) 9 ≡ replaced 2
  -- "count becomes that count plus one, overcount that count, sent 0"
  pub then_holds : counters_after (replaced 2) (held 4 7 ∷ held 3 6 ∷ held 1 6 ∷ []) 9
      ≡ held 4 7 ∷ held 3 6 ∷ counter_with 9 7 6 0 ∷ []
  pub own_gains : counters_after (own 1) (held 4 7 ∷ held 3 6 ∷ held 1 6 ∷ []) 3
      ≡ held 4 7 ∷ held 3 7 ∷ held 1 6 ∷ []
  pub unused_starts : counters_after unused (held 4 7 ∷ []) 9
      ≡ held 4 7 ∷ counter_with 9 1 0 0 ∷ []
  -- "the lowest such slot, should memory hold it twice; likewise for equal codes below"
  pub twice_found : find 3 (held 4 7 ∷ held 3 7 ∷ held 3 6 ∷ []) ≡ 1
  pub twice_least : least_place (held 4 7 ∷ held 3 6 ∷ held 3 6 ∷ []) ≡ 1
  -- a code that no slot has; no slot
  pub not_found : find 9 (held 4 7 ∷ held 3 7 ∷ held 3 6 ∷ []) ≡ 3
  pub no_slot : least_place [] ≡ 0
  -- "Unsent is count - overcount - sent."; "sent grows by it"
  pub unsent : unreported (held 4 7) ≡ 2
  pub sent : after_report 2 (held 4 7) ≡ counter_with 4 7 2 5
  pub all_unsent : unreported_in (held 4 7 ∷ held 3 6 ∷ held 1 6 ∷ []) ≡ 4
  -- request N1: "which code left and how many unsent draws went"
  pub nobody_own : leaving_by (own 1) (held 4 7 ∷ held 3 6 ∷ held 1 6 ∷ []) ≡ None
  pub nobody_unused : leaving_by unused (held 4 7 ∷ []) ≡ None
  pub leaves : leaving_by (replaced 1) (held 4 9 ∷ held 3 7 ∷ held 1 8 ∷ []) ≡ Some (left_with 3 2)
  pub leaves_with_none : leaving_by (replaced 0) (held 4 5 ∷ held 3 7 ∷ []) ≡ Some (left_with 4 0)
  -- a code held twice: by the slot that leaves
  pub leaves_twice : leaving_by (replaced 1) (held 3 9 ∷ held 3 7 ∷ []) ≡ Some (left_with 3 2)
  pub gone_with_nobody : gone_with None ≡ 0
  pub gone_with : gone_with (Some (left_with 3 2)) ≡ 2
