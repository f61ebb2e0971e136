-- The coordinator: what its memory must hold (4 and 11), the refusals of a message and of a kind 7
-- that is wanted, and their order. P6's settings: two sites, codes 0 to 9.
use Rattle.std.specs.Prelude.{◌≡◌, [], ◌∷◌, ◌++◌, ℕ, replicate}
use Rattle.model.specs.declared.Message.{Message}
use Rattle.model.specs.declared.Phase.{Phase}
use Rattle.model.specs.declared.Phase.TheVariants.{Idle, Collecting, Probing, Announcing}
use Rattle.model.specs.Settings.{settings_with}
use Rattle.model.specs.Messages.{poll_answer_kind, message, item_report, count_report, poll, poll_answer, probe, probe_answer, announcement}
use Rattle.model.specs.Coordinator.{coordinator_refusal, announcement_refusal}
use Rattle.model.specs.CoordinatorMemory.{coordinator_memory_refusal}
use Rattle.model.specs.Instances.{settings_p6}
use Rattle.model.specs.Edges.Inputs.{coordinator_numbers, fresh_numbers, coordinator_at, end_counts, coordinator_refusal_of}

-- Base 120 gives threshold 2 (P6): with these signals, in this phase.
abbrev pub phase_refusal : ℕ → Phase → ℕ
phase_refusal signals phase =
    coordinator_refusal_of (coordinator_numbers 122 120 2 signals 3 phase) [] (end_counts 0 0)

-- "memory inconsistent", of the coordinator: each row at its limit and past it.
pub record CoordinatorMemoryEdges : Type 0 where
  -- "signals ≥ k while idle, or other than k in another phase"
  pub idle_1 : phase_refusal 1 Idle ≡ 0
  pub idle_2 : phase_refusal 2 Idle ≡ 11
  pub collecting_1 : phase_refusal 1 (Collecting 0) ≡ 11
  pub collecting_2 : phase_refusal 2 (Collecting 0) ≡ 0
  pub collecting_3 : phase_refusal 3 (Collecting 0) ≡ 11
  pub probing_1 : phase_refusal 1 (Probing 0 0 1023 0) ≡ 11
  pub probing_3 : phase_refusal 3 (Probing 0 0 1023 0) ≡ 11
  pub announcing_1 : phase_refusal 1 (Announcing 0) ≡ 11
  pub announcing_3 : phase_refusal 3 (Announcing 0) ≡ 11
  -- "a phase with a deck ≥ k"
  pub collecting_site_1 : phase_refusal 2 (Collecting 1) ≡ 0
  pub collecting_site_2 : phase_refusal 2 (Collecting 2) ≡ 11
  pub probing_site_1 : phase_refusal 2 (Probing 1 0 1023 0) ≡ 0
  pub probing_site_2 : phase_refusal 2 (Probing 2 0 1023 0) ≡ 11
  pub announcing_site_1 : phase_refusal 2 (Announcing 1) ≡ 0
  pub announcing_site_2 : phase_refusal 2 (Announcing 2) ≡ 11
  -- "an interval not within 0 to 1023 with low below high"
  pub interval_last : phase_refusal 2 (Probing 0 1022 1023 0) ≡ 0
  pub interval_one : phase_refusal 2 (Probing 0 1023 1023 0) ≡ 11
  pub interval_beyond : phase_refusal 2 (Probing 0 1022 1024 0) ≡ 11
  -- "the sum in its phase, above 100,000,000,000"
  pub sum_limit : phase_refusal 2 (Probing 0 0 1023 100000000000) ≡ 0
  pub sum_above : phase_refusal 2 (Probing 0 0 1023 100000000001) ≡ 11
  -- "a desk threshold other than the one its base gives"
  pub threshold_less :
      coordinator_refusal_of (coordinator_numbers 120 120 1 0 3 Idle) [] (end_counts 120 0) ≡ 11
  pub threshold_more :
      coordinator_refusal_of (coordinator_numbers 120 120 3 0 3 Idle) [] (end_counts 0 0) ≡ 11
  -- "base above total"
  pub base_all :
      coordinator_refusal_of (coordinator_numbers 120 120 2 0 3 Idle) [] (end_counts 0 0) ≡ 0
  pub base_above :
      coordinator_refusal_of (coordinator_numbers 119 120 2 0 3 Idle) [] (end_counts 0 0) ≡ 11
  -- "the desk's class above 1023"
  pub class_1023 :
      coordinator_refusal_of (coordinator_numbers 120 120 2 0 1023 Idle) [] (end_counts 0 0) ≡ 0
  pub class_1024 :
      coordinator_refusal_of (coordinator_numbers 120 120 2 0 1024 Idle) [] (end_counts 0 0) ≡ 11
  -- "the desk's class counts not summing to its total while its threshold is 1"
  pub counts_all :
      coordinator_refusal_of (coordinator_numbers 119 118 1 1 0 Idle) [] (end_counts 1 118) ≡ 0
  pub counts_few :
      coordinator_refusal_of (coordinator_numbers 119 118 1 1 0 Idle) [] (end_counts 1 117) ≡ 11
  pub counts_many :
      coordinator_refusal_of (coordinator_numbers 119 118 1 1 0 Idle) [] (end_counts 2 118) ≡ 11
  -- "a number of the desk's memory or record .. above 100,000,000,000"
  pub estimate_limit_lem :
      coordinator_refusal_of fresh_numbers (100000000000 ∷ []) (end_counts 0 0) ≡ 0
  pub estimate_above :
      coordinator_refusal_of fresh_numbers (100000000001 ∷ []) (end_counts 0 0) ≡ 11
  pub last_estimate_above :
      coordinator_refusal_of fresh_numbers (replicate 9 0 ++ (100000000001 ∷ [])) (end_counts 0 0)
      ≡ 11
  pub count_limit :
      coordinator_refusal_of (coordinator_numbers 120 120 2 0 3 Idle) [] (end_counts 0 100000000000)
      ≡ 0
  pub count_above :
      coordinator_refusal_of (coordinator_numbers 120 120 2 0 3 Idle) [] (end_counts 0 100000000001)
      ≡ 11
  pub total_limit :
      coordinator_refusal_of (coordinator_numbers 100000000000 120 2 0 3 Idle) [] (end_counts 0 0)
      ≡ 0
  pub total_above :
      coordinator_refusal_of (coordinator_numbers 100000000001 120 2 0 3 Idle) [] (end_counts 0 0)
      ≡ 11
  -- "lent memory shorter than above (longer is fine ..)": 10 + 1024 numbers
  pub enough : coordinator_memory_refusal settings_p6 fresh_numbers (replicate 1034 0) ≡ 0
  pub one_short : coordinator_memory_refusal settings_p6 fresh_numbers (replicate 1033 0) ≡ 4
  pub longer : coordinator_refusal_of fresh_numbers [] (end_counts 0 0 ++ (7 ∷ [])) ≡ 0
  -- "Order: 1, 2, 3; then 4, 11"
  pub three_before_four :
      coordinator_memory_refusal (settings_with 1 1000 1000 500 5 10) fresh_numbers [] ≡ 3
  pub four_before_eleven :
      coordinator_memory_refusal settings_p6 (coordinator_numbers 0 0 0 0 0 Idle) [] ≡ 4

-- A message at a coordinator of this threshold, in this phase.
abbrev pub refusal_at : ℕ → Phase → Message → ℕ
refusal_at threshold phase m = coordinator_refusal settings_p6 (coordinator_at threshold phase) m

-- Probing the whole interval at site 1: the class asked for is 511.
abbrev pub probing_one : Phase
probing_one = Probing 1 0 1023 0

pub record CoordinatorMessageEdges : Type 0 where
  -- "kinds 1 and 2 are due while it is idle"
  pub item_report_lem : refusal_at 1 Idle (item_report 1 9 1) ≡ 0
  pub count_report_lem : refusal_at 1 Idle (count_report 1 1 1023) ≡ 0
  pub idle_kind_0 : refusal_at 1 Idle (message 0 0 0 0) ≡ 9
  pub idle_kind_3 : refusal_at 1 Idle (poll 0) ≡ 9
  pub idle_kind_4 : refusal_at 1 Idle (poll_answer 0 0) ≡ 9
  pub idle_kind_5 : refusal_at 1 Idle (probe 0 3) ≡ 9
  pub idle_kind_6 : refusal_at 1 Idle (probe_answer 0 3 0) ≡ 9
  pub idle_kind_7 : refusal_at 1 Idle (announcement 0 1 0) ≡ 9
  -- "kind 4 while it collects and kind 6 while it probes, .. only from the deck that the phase
  -- names"
  pub poll_answer_lem : refusal_at 2 (Collecting 1) (poll_answer 1 1) ≡ 0
  pub poll_answer_other : refusal_at 2 (Collecting 1) (poll_answer 0 1) ≡ 9
  pub collecting_kind_2 : refusal_at 2 (Collecting 1) (count_report 1 2 0) ≡ 9
  pub collecting_kind_6 : refusal_at 2 (Collecting 1) (probe_answer 1 0 0) ≡ 9
  pub probe_answer_lem : refusal_at 2 probing_one (probe_answer 1 511 5) ≡ 0
  pub probe_answer_other : refusal_at 2 probing_one (probe_answer 0 511 5) ≡ 9
  pub probing_kind_4 : refusal_at 2 probing_one (poll_answer 1 0) ≡ 9
  -- "While announcing .. no kind is due."
  pub announcing_kind_1 : refusal_at 2 (Announcing 1) (item_report 1 9 2) ≡ 9
  pub announcing_kind_7 : refusal_at 2 (Announcing 1) (announcement 1 2 12) ≡ 9
  -- "a kind 7 wanted from a desk that isn't announcing"
  pub wanted : announcement_refusal (coordinator_at 2 (Announcing 1)) ≡ 0
  pub wanted_idle : announcement_refusal (coordinator_at 2 Idle) ≡ 9
  pub wanted_collecting : announcement_refusal (coordinator_at 2 (Collecting 1)) ≡ 9
  pub wanted_probing : announcement_refusal (coordinator_at 2 probing_one) ≡ 9
  -- "deck ≥ k", "code ≥ u", "class > 1023"
  pub unknown_site : refusal_at 1 Idle (item_report 2 9 1) ≡ 5
  pub unknown_item : refusal_at 1 Idle (item_report 1 10 1) ≡ 6
  pub value_1024 : refusal_at 1 Idle (count_report 1 1 1024) ≡ 7
  pub probed_1024 : refusal_at 2 probing_one (probe_answer 1 1024 5) ≡ 7
  -- "1 and 2 other than the threshold", and b of kind 2 "class if threshold 1, else 0"
  pub item_amount : refusal_at 1 Idle (item_report 1 9 2) ≡ 10
  pub item_amount_less : refusal_at 2 Idle (item_report 1 9 1) ≡ 10
  pub count_amount : refusal_at 1 Idle (count_report 1 2 3) ≡ 10
  pub count_amount_less : refusal_at 2 Idle (count_report 1 1 0) ≡ 10
  pub count_two : refusal_at 2 Idle (count_report 1 2 0) ≡ 0
  pub count_class : refusal_at 2 Idle (count_report 1 2 1) ≡ 10
  pub count_class_1024 : refusal_at 2 Idle (count_report 1 2 1024) ≡ 10
  -- "4 not below it", and its b
  pub poll_threshold : refusal_at 2 (Collecting 1) (poll_answer 1 2) ≡ 10
  pub poll_b : refusal_at 2 (Collecting 1) (message poll_answer_kind 1 1 1) ≡ 10
  -- "6 for another class or above 1,000,000,000"
  pub probed_less : refusal_at 2 probing_one (probe_answer 1 510 5) ≡ 10
  pub probed_more : refusal_at 2 probing_one (probe_answer 1 512 5) ≡ 10
  pub probed_1023 : refusal_at 2 probing_one (probe_answer 1 1023 5) ≡ 10
  pub probed_limit : refusal_at 2 probing_one (probe_answer 1 511 1000000000) ≡ 0
  pub probed_above : refusal_at 2 probing_one (probe_answer 1 511 1000000001) ≡ 10
  -- "for a message 5, 9, 6, 7, 10, with 6 and 7 only where the message table gives a code or a
  -- class"; no message has both
  pub five_before_nine : refusal_at 1 Idle (poll 2) ≡ 5
  pub nine_before_six : refusal_at 1 (Collecting 1) (item_report 1 10 1) ≡ 9
  pub nine_before_seven : refusal_at 2 probing_one (probe_answer 0 1024 5) ≡ 9
  pub six_before_ten : refusal_at 1 Idle (item_report 1 10 2) ≡ 6
  pub seven_before_ten : refusal_at 1 Idle (count_report 1 2 1024) ≡ 7
