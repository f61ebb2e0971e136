-- The instances of request N5, in one table: each message counted at the site that it names, the
-- limit of each count, and their sum, which has none. The theorem `count-instances` of
-- proofs/MessageCount/Instances.antt proves them all.
--
--   both_draws              "k 2, A otherwise; `0;7;3`, `1;7;3`"
--   kinds_naming j messages  the kinds of the messages that name site j, in order
--   refusal_with counts     4 and 11 of a fresh network of two sites with these counts
--   CountInstances          the table
use Rattle.std.specs.Prelude.{◌≡◌, List, [], ◌∷◌, ◌++◌, ℕ, eqb, replicate, if◌then◌else◌}
use Rattle.model.specs.declared.Arrival.{Arrival}
use Rattle.model.specs.declared.Message.{Message}
use Rattle.model.specs.declared.Sites.{Sites}
use Rattle.model.specs.NetworkMemory.{fresh_sites, network_refusal}
use Rattle.model.specs.MessageCounts.{none_counted, counted_up, naming, total_count}
use Rattle.model.specs.Runs.{run_of}
use Rattle.model.specs.Instances.{settings_a, settings_p6, messages_p2}
use Rattle.model.specs.Edges.Inputs.{settings_two, draw_at, fresh_numbers}

abbrev pub both_draws : List Arrival
both_draws = draw_at 0 ∷ draw_at 1 ∷ []

abbrev pub both_messages : List Message
both_messages = (run_of settings_two both_draws).messages

abbrev pub kinds_naming : ℕ → List Message → List ℕ
kinds_naming j [] = []
kinds_naming j (m ∷ messages) =
    (if eqb m.site j then m.kind ∷ [] else []) ++ kinds_naming j messages

-- Fresh records, with these counts.
abbrev pub sites_counting : List ℕ → Sites
sites_counting counts = record { records = fresh_sites.records; messages = counts }

abbrev pub refusal_with : List ℕ → ℕ
refusal_with counts =
    network_refusal settings_p6 (sites_counting counts) fresh_numbers (replicate 2528 0)
    (replicate 1034 0)

pub record CountInstances : Type 0 where
  -- "messages of deck 0: 1, 2, 3, 4, 7; of deck 1: 1, 2, 3, 4, 7; counters 5 and 5"
  pub kinds_of_0 : kinds_naming 0 both_messages ≡ 1 ∷ 2 ∷ 3 ∷ 4 ∷ 7 ∷ []
  pub kinds_of_1 : kinds_naming 1 both_messages ≡ 1 ∷ 2 ∷ 3 ∷ 4 ∷ 7 ∷ []
  pub counters : counted_up none_counted both_messages ≡ 5 ∷ (5 ∷ replicate 30 0)
  pub naming_0 : naming 0 both_messages ≡ 5
  pub naming_1 : naming 1 both_messages ≡ 5
  pub total : total_count settings_two (sites_counting (counted_up none_counted both_messages)) ≡ 10
  -- the first draw alone sends kinds 1 and 2, which name its own deck
  pub first_alone : counted_up none_counted (run_of settings_two (draw_at 0 ∷ [])).messages
      ≡ 2 ∷ replicate 31 0
  -- counted on from what was counted before
  pub counted_on : counted_up (7 ∷ (8 ∷ replicate 30 9)) both_messages
      ≡ 12 ∷ (13 ∷ replicate 30 9)
  -- "P2: counter 5"
  pub p2 : counted_up none_counted messages_p2 ≡ 5 ∷ replicate 31 0
  -- "each with the old limit": reached and passed, at the first deck and at the last
  pub limit_first : refusal_with (100000000000000 ∷ replicate 31 0) ≡ 0
  pub above_first : refusal_with (100000000000001 ∷ replicate 31 0) ≡ 11
  pub limit_last : refusal_with (0 ∷ (100000000000000 ∷ replicate 30 0)) ≡ 0
  pub above_last : refusal_with (0 ∷ (100000000000001 ∷ replicate 30 0)) ≡ 11
  -- "their sum with none"
  pub sum_above : refusal_with (100000000000000 ∷ (100000000000000 ∷ replicate 30 0)) ≡ 0
  -- counters k to 31 are not tested, and not in the sum
  pub past_untested : refusal_with (0 ∷ (0 ∷ replicate 30 100000000000001)) ≡ 0
  pub past_not_summed : total_count settings_a (sites_counting (3 ∷ replicate 31 4)) ≡ 3
