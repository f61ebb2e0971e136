-- One draw at a site and one message at the coordinator, in each phase, where every number is
-- another one: what each becomes, and what goes out. P6's settings: two sites, rank 500.
use Rattle.std.specs.Prelude.{◌≡◌, true, false, List, [], ◌∷◌, ◌++◌, ℕ}
use Rattle.model.specs.declared.Message.{Message}
use Rattle.model.specs.declared.Phase.{Phase}
use Rattle.model.specs.declared.Phase.TheVariants.{Idle, Collecting, Probing, Announcing}
use Rattle.model.specs.declared.CoordinatorRecord.{CoordinatorRecord}
use Rattle.model.specs.Messages.{item_report, count_report, poll, poll_answer, probe, probe_answer, announcement}
use Rattle.model.specs.Counters.{Counter}
use Rattle.model.specs.Site.{Site, SiteStep, observed}
use Rattle.model.specs.Coordinator.{CoordinatorStep, enough, coordinator_receives, announced}
use Rattle.model.specs.CoordinatorMemory.{coordinator_in, coordinator_record}
use Rattle.model.specs.Instances.{settings_p6, arrival_with, counter_with}
use Rattle.model.specs.Edges.Inputs.{coordinator_numbers, end_counts}
use Rattle.model.specs.Edges.Memories.{estimates}

-- ---- A draw

-- A site at threshold 3 with 20 draws, 5 of them forgotten: one slot, code 4, of this count and
-- this sent number.
abbrev pub site_before : ℕ → ℕ → Site
site_before count pending = record {
  counters = counter_with 4 count 2 3 ∷ [];
  histogram = end_counts 18 2;
  arrivals = 20;
  pending = pending;
  threshold = 3;
  dropped = 5;
}

-- The same with 21 draws, the last of class 1023.
abbrev pub site_then : List Counter → ℕ → Site
site_then counters pending = record {
  counters = counters;
  histogram = end_counts 18 3;
  arrivals = 21;
  pending = pending;
  threshold = 3;
  dropped = 5;
}

-- A draw of a code at site 1.
abbrev pub drawn_at : Site → ℕ → SiteStep
drawn_at site item = observed settings_p6 site (arrival_with 1 item 1023)

pub record DrawEdges : Type 0 where
  -- "If unsent reaches the threshold, kind 1 goes out and sent grows by it. Then, if pending
  -- reaches the threshold, kind 2 goes out and pending becomes 0."
  pub both_messages : (drawn_at (site_before 7 2) 4).messages
      ≡ item_report 1 4 3 ∷ count_report 1 3 0 ∷ []
  pub both_site : (drawn_at (site_before 7 2) 4).site ≡ site_then (counter_with 4 8 2 6 ∷ []) 0
  pub item_alone : (drawn_at (site_before 7 1) 4).messages ≡ item_report 1 4 3 ∷ []
  pub item_site : (drawn_at (site_before 7 1) 4).site ≡ site_then (counter_with 4 8 2 6 ∷ []) 2
  pub count_alone : (drawn_at (site_before 6 2) 4).messages ≡ count_report 1 3 0 ∷ []
  pub count_site : (drawn_at (site_before 6 2) 4).site ≡ site_then (counter_with 4 7 2 3 ∷ []) 0
  pub neither : (drawn_at (site_before 6 1) 4).messages ≡ []
  -- a new code takes the next slot, and the other keeps its numbers
  pub new_code : (drawn_at (site_before 7 1) 9).site
      ≡ site_then (counter_with 4 7 2 3 ∷ counter_with 9 1 0 0 ∷ []) 2

-- ---- A message at the coordinator

-- Total 42, base 44, class 46, with ten estimates and class counts 40 and 41 at the ends.
abbrev pub numbers_at : ℕ → ℕ → Phase → CoordinatorRecord
numbers_at threshold signals phase = coordinator_numbers 42 44 threshold signals 46 phase

abbrev pub received_by : CoordinatorRecord → Message → CoordinatorStep
received_by numbers m =
    coordinator_receives settings_p6
    (coordinator_in settings_p6 numbers (estimates ++ end_counts 40 41)) m

abbrev pub record_after : CoordinatorRecord → Message → CoordinatorRecord
record_after numbers m = coordinator_record (received_by numbers m).coordinator

-- The next kind 7.
abbrev pub announced_by : CoordinatorRecord → CoordinatorStep
announced_by numbers =
    announced settings_p6 (coordinator_in settings_p6 numbers (estimates ++ end_counts 40 41))

pub record StepEdges : Type 0 where
  -- "Kind 1 adds to the code's number."
  pub item_record : record_after (numbers_at 5 1 Idle) (item_report 1 9 5) ≡ numbers_at 5 1 Idle
  pub item_estimates : (received_by (numbers_at 5 1 Idle) (item_report 1 9 5)).coordinator.estimates
      ≡ 30 ∷ 31 ∷ 32 ∷ 33 ∷ 34 ∷ 35 ∷ 36 ∷ 37 ∷ 38 ∷ 44 ∷ []
  pub item_counts : (received_by (numbers_at 5 1 Idle) (item_report 1 9 5)).coordinator.histogram
      ≡ end_counts 40 41
  pub item_silent : (received_by (numbers_at 5 1 Idle) (item_report 1 9 5)).messages ≡ []
  -- "Kind 2 adds to the total and to signals; while the threshold is 1 it also counts the draw's
  -- class."
  pub count_record : record_after (numbers_at 5 0 Idle) (count_report 1 5 0)
      ≡ coordinator_numbers 47 44 5 1 46 Idle
  pub count_silent : (received_by (numbers_at 5 0 Idle) (count_report 1 5 0)).messages ≡ []
  pub count_later : (received_by (numbers_at 5 0 Idle) (count_report 1 5 0)).coordinator.histogram
      ≡ end_counts 40 41
  pub count_class : (received_by (numbers_at 1 0 Idle)
      (count_report 1 1 1023)).coordinator.histogram
      ≡ end_counts 40 42
  -- "At k signals the desk closes the round: it polls decks 0 to k - 1"
  pub close_record : record_after (numbers_at 5 1 Idle) (count_report 1 5 0)
      ≡ coordinator_numbers 47 44 5 2 46 (Collecting 0)
  pub close_polls : (received_by (numbers_at 5 1 Idle) (count_report 1 5 0)).messages ≡ poll 0 ∷ []
  -- "the total gains the answers"
  pub poll_record : record_after (numbers_at 5 2 (Collecting 0)) (poll_answer 0 4)
      ≡ coordinator_numbers 46 44 5 2 46 (Collecting 1)
  pub poll_next : (received_by (numbers_at 5 2 (Collecting 0)) (poll_answer 0 4)).messages
      ≡ poll 1 ∷ []
  -- "base becomes the total; the new threshold is e × base / (3000 × k)": 46 gives 1, 120 gives 2
  pub closed_record : record_after (numbers_at 5 2 (Collecting 1)) (poll_answer 1 4)
      ≡ coordinator_numbers 46 46 1 2 46 (Announcing 0)
  pub closed_silent : (received_by (numbers_at 5 2 (Collecting 1)) (poll_answer 1 4)).messages ≡ []
  pub probing_record :
      record_after (coordinator_numbers 119 44 5 2 46 (Collecting 1)) (poll_answer 1 1)
      ≡ coordinator_numbers 120 120 2 2 46 (Probing 0 0 1023 0)
  pub probing_first :
      (received_by (coordinator_numbers 119 44 5 2 46 (Collecting 1)) (poll_answer 1 1)).messages
      ≡ probe 0 511 ∷ []
  -- "each deck in turn gets 5 and answers 6"; "middle = (low + high) / 2 rounded down"
  pub probe_record : record_after (numbers_at 5 2 (Probing 0 100 201 20)) (probe_answer 0 150 3)
      ≡ numbers_at 5 2 (Probing 1 100 201 23)
  pub probe_next : (received_by (numbers_at 5 2 (Probing 0 100 201 20))
      (probe_answer 0 150 3)).messages
      ≡ probe 1 150 ∷ []
  -- "high = middle if 1000 × sum ≥ q × base, else low = middle + 1": 22 of 44 are enough
  pub high_record : record_after (numbers_at 5 2 (Probing 1 100 201 20)) (probe_answer 1 150 2)
      ≡ numbers_at 5 2 (Probing 0 100 150 0)
  pub high_probe : (received_by (numbers_at 5 2 (Probing 1 100 201 20))
      (probe_answer 1 150 2)).messages
      ≡ probe 0 125 ∷ []
  pub low_record : record_after (numbers_at 5 2 (Probing 1 100 201 20)) (probe_answer 1 150 1)
      ≡ numbers_at 5 2 (Probing 0 151 201 0)
  pub low_probe : (received_by (numbers_at 5 2 (Probing 1 100 201 20))
      (probe_answer 1 150 1)).messages
      ≡ probe 0 176 ∷ []
  pub enough_exactly : enough 500 1000 500 ≡ true
  pub enough_short : enough 500 1001 500 ≡ false
  -- "until low = high .. What remains is the class."
  pub class_low : record_after (numbers_at 5 2 (Probing 1 3 4 20)) (probe_answer 1 3 2)
      ≡ coordinator_numbers 42 44 5 2 3 (Announcing 0)
  pub class_high : record_after (numbers_at 5 2 (Probing 1 3 4 20)) (probe_answer 1 3 1)
      ≡ coordinator_numbers 42 44 5 2 4 (Announcing 0)
  pub class_silent :
      (received_by (numbers_at 5 2 (Probing 1 3 4 20)) (probe_answer 1 3 2)).messages ≡ []
  -- "Last, kind 7 goes to decks 0 to k - 1, and signals become 0."
  pub announced_first : coordinator_record (announced_by
      (numbers_at 5 2 (Announcing 0))).coordinator
      ≡ numbers_at 5 2 (Announcing 1)
  pub announcement_first : (announced_by (numbers_at 5 2 (Announcing 0))).messages
      ≡ announcement 0 5 44 ∷ []
  pub announced_last : coordinator_record (announced_by (numbers_at 5 2 (Announcing 1))).coordinator
      ≡ numbers_at 5 0 Idle
  pub announcement_last : (announced_by (numbers_at 5 2 (Announcing 1))).messages
      ≡ announcement 1 5 44 ∷ []
