-- The network: what the batch call tests first (4 and 11), the log's free places, and how a batch
-- counts what it accepted.
use Rattle.std.specs.Prelude.{◌≡◌, List, [], ◌∷◌, length, replicate}
use Rattle.model.specs.declared.Arrival.{Arrival}
use Rattle.model.specs.declared.Phase.TheVariants.{Idle, Announcing}
use Rattle.model.specs.Settings.{settings_with}
use Rattle.model.specs.Network.{Network, fresh_network, with_site}
use Rattle.model.specs.NetworkMemory.{fresh_sites, network_refusal}
use Rattle.model.specs.Runs.{batch_refusal, batch_of, run_of}
use Rattle.model.specs.Instances.{settings_a, settings_p6, arrival_with, draw, draws, messages_p2}
use Rattle.model.specs.Edges.Inputs.{site_numbers, coordinator_numbers, fresh_numbers, end_counts, network_refusal_of}
use Rattle.model.specs.Edges.Sites.{site_having}

-- P6's settings: two sites that hold no code; at threshold 2 with the base 120 that gives it.
pub record NetworkEdges : Type 0 where
  pub at_rest : network_refusal_of (site_numbers 0 0 1 0 0) (end_counts 0 0)
      (site_numbers 0 0 1 0 0) (end_counts 0 0) 0 fresh_numbers ≡ 0
  -- a site that is inconsistent by itself, the first or the last; records 2 to 31 are not read
  pub first_site : network_refusal_of (site_numbers 0 0 0 0 0) (end_counts 0 0)
      (site_numbers 0 0 1 0 0) (end_counts 0 0) 0 fresh_numbers ≡ 11
  pub last_site : network_refusal_of (site_numbers 0 0 1 0 0) (end_counts 0 0)
      (site_numbers 0 0 1 0 0) (end_counts 0 1) 0 fresh_numbers ≡ 11
  pub coordinator : network_refusal_of (site_numbers 0 0 1 0 0) (end_counts 0 0)
      (site_numbers 0 0 1 0 0) (end_counts 0 0) 0 (coordinator_numbers 0 0 1 2 0 Idle) ≡ 11
  -- "the bench's message count above 100,000,000,000,000", of each deck (request N5): the last
  pub messages_limit : network_refusal_of (site_numbers 0 0 1 0 0) (end_counts 0 0)
      (site_numbers 0 0 1 0 0) (end_counts 0 0) 100000000000000 fresh_numbers ≡ 0
  pub messages_above : network_refusal_of (site_numbers 0 0 1 0 0) (end_counts 0 0)
      (site_numbers 0 0 1 0 0) (end_counts 0 0) 100000000000001 fresh_numbers ≡ 11
  -- "desk not idle"
  pub not_idle : network_refusal_of (site_numbers 0 0 1 0 0) (end_counts 0 0)
      (site_numbers 0 0 1 0 0) (end_counts 0 0) 0 (coordinator_numbers 0 0 1 2 0 (Announcing 0)) ≡
      11
  -- "thresholds unequal"
  pub threshold_first : network_refusal_of (site_numbers 0 0 2 0 0) (end_counts 0 0)
      (site_numbers 0 0 1 0 0) (end_counts 0 0) 0 fresh_numbers ≡ 11
  pub threshold_last : network_refusal_of (site_numbers 0 0 1 0 0) (end_counts 0 0)
      (site_numbers 0 0 2 0 0) (end_counts 0 0) 0 fresh_numbers ≡ 11
  pub threshold_lower : network_refusal_of (site_numbers 60 0 2 0 0) (end_counts 60 0)
      (site_numbers 60 0 1 0 0) (end_counts 60 0) 0 (coordinator_numbers 120 120 2 0 3 Idle) ≡ 11
  -- "total plus all pendings other than all draws": 120 and 1 are 121
  pub all_counted : network_refusal_of (site_numbers 60 0 2 0 0) (end_counts 60 0)
      (site_numbers 61 1 2 0 0) (end_counts 61 0) 0 (coordinator_numbers 120 120 2 0 3 Idle) ≡ 0
  pub pending_lost : network_refusal_of (site_numbers 60 0 2 0 0) (end_counts 60 0)
      (site_numbers 61 0 2 0 0) (end_counts 61 0) 0 (coordinator_numbers 120 120 2 0 3 Idle) ≡ 11
  pub total_more : network_refusal_of (site_numbers 60 0 2 0 0) (end_counts 60 0)
      (site_numbers 61 1 2 0 0) (end_counts 61 0) 0 (coordinator_numbers 121 120 2 0 3 Idle) ≡ 11
  -- "lent memory shorter than above (longer is fine ..)": 2 × 1264 and 1034 numbers
  pub enough : network_refusal settings_p6 fresh_sites fresh_numbers
      (replicate 2528 0) (replicate 1034 0) ≡ 0
  pub sites_short : network_refusal settings_p6 fresh_sites fresh_numbers
      (replicate 2527 0) (replicate 1034 0) ≡ 4
  pub coordinator_short : network_refusal settings_p6 fresh_sites fresh_numbers
      (replicate 2528 0) (replicate 1033 0) ≡ 4
  pub longer : network_refusal settings_p6 fresh_sites fresh_numbers
      (replicate 2529 0) (replicate 1035 0) ≡ 0
  -- "Order: 1, 2, 3; then 4, 11"
  pub three_before_four : network_refusal (settings_with 1 1000 1000 500 5 10) fresh_sites
      fresh_numbers
      [] [] ≡ 3
  pub four_before_eleven : network_refusal settings_p6 fresh_sites
      (coordinator_numbers 0 0 0 0 0 Idle)
      [] [] ≡ 4

-- A fresh network under settings A, and one whose site is full.
abbrev pub fresh : Network
fresh = fresh_network settings_a

abbrev pub full_network : Network
full_network = with_site fresh 0 (site_having 1000000000)

-- P2's draw, a draw that is refused with 6, and P2's draw again.
abbrev pub stopped_draws : List Arrival
stopped_draws = draw ∷ arrival_with 0 10 3 ∷ draw ∷ []

-- Settings A: 25 free records before each draw, and five messages a draw.
pub record BatchEdges : Type 0 where
  -- "log lacks 23 × k + 2 free records before a draw"
  pub room_25 : batch_refusal settings_a fresh 25 draw ≡ 0
  pub room_24 : batch_refusal settings_a fresh 24 draw ≡ 14
  -- "for a draw 5, 6, 7, 8, 14"
  pub eight_before_fourteen : batch_refusal settings_a full_network 0 draw ≡ 8
  -- "answers draws accepted, messages written and the refusal that stopped it, if one did"
  pub none_given : (batch_of settings_a 0 fresh []).refusal ≡ 0
  pub none_accepted : (batch_of settings_a 24 fresh (draws 1)).accepted ≡ 0
  pub one_fits : (batch_of settings_a 25 fresh (draws 1)).refusal ≡ 0
  pub one_accepted : (batch_of settings_a 25 fresh (draws 1)).accepted ≡ 1
  pub one_written : (batch_of settings_a 25 fresh (draws 1)).messages ≡ messages_p2
  -- after one draw a log of 29 has 24 free, one of 30 has 25
  pub log_29 : (batch_of settings_a 29 fresh (draws 2)).accepted ≡ 1
  pub log_29_stopped : (batch_of settings_a 29 fresh (draws 2)).refusal ≡ 14
  pub log_30 : (batch_of settings_a 30 fresh (draws 3)).accepted ≡ 2
  pub log_30_written : length (batch_of settings_a 30 fresh (draws 3)).messages ≡ 10
  pub log_30_stopped : (batch_of settings_a 30 fresh (draws 3)).refusal ≡ 14
  -- a refused draw stops it: the earlier draw's work stays, the later draw is not taken
  pub stopped : (batch_of settings_a 100 fresh stopped_draws).refusal ≡ 6
  pub stopped_accepted : (batch_of settings_a 100 fresh stopped_draws).accepted ≡ 1
  pub stopped_written : (batch_of settings_a 100 fresh stopped_draws).messages ≡ messages_p2
  pub stopped_network : (batch_of settings_a 100 fresh stopped_draws).network
      ≡ (run_of settings_a (draws 1)).network
  -- a run leaves a refused draw out and goes on
  pub run_accepted : (run_of settings_a stopped_draws).accepted ≡ draws 2
  pub run_messages : length (run_of settings_a stopped_draws).messages ≡ 10
