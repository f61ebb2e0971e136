-- The limits and the constants of the claims, held from both sides; draws that reach them.
use Rattle.std.specs.Prelude.{◌≡◌, List, [], ◌∷◌, ◌++◌, ℕ, length, take}
use Rattle.model.specs.declared.Settings.{Settings}
use Rattle.model.specs.declared.Arrival.{Arrival}
use Rattle.model.specs.declared.Message.{Message}
use Rattle.model.specs.declared.Phase.TheVariants.{Idle}
use Rattle.model.specs.Refusals.{list_too_short}
use Rattle.model.specs.Limits.{most_sites, top_value, value_count, site_limit, coordinator_limit, message_limit, most_messages, most_steps, messages_per_arrival, allowance_factor, firm_messages, firm_messages_per_digit}
use Rattle.model.specs.Settings.{settings_with, threshold_of, digits, allowance}
use Rattle.model.specs.Messages.{no_message, item_report, count_report, poll, poll_answer, probe, probe_answer, announcement}
use Rattle.model.specs.SiteMemory.{site_record}
use Rattle.model.specs.CoordinatorMemory.{coordinator_record}
use Rattle.model.specs.Network.{site_at, delivery_fuel}
use Rattle.model.specs.Runs.{run_of}
use Rattle.model.specs.NumberClaims.{estimate_limit, value_count_limit}
use Rattle.model.specs.DeliveryClaims.{Delivery, delivery_steps, delivery_of}
use Rattle.model.specs.Instances.{settings_a, settings_p6, draw, draws, coordinator_after, messages_of}
use Rattle.model.specs.Edges.Inputs.{settings_two, draw_at, twelve, site_numbers, coordinator_numbers}

-- The delivery of one more arrival after a list, so many steps on.
abbrev pub steps_of : Settings → List Arrival → Arrival → ℕ → Delivery
steps_of settings arrivals arrival n =
    delivery_steps n settings (delivery_of settings (run_of settings arrivals).network arrival)

-- The 25 messages of P3's sixth draw, by the rules: kinds 1 and 2, the poll, ten halvings that end
-- at class 3, the announcement of threshold 2 and base 6.
abbrev pub messages_sixth : List Message
messages_sixth =
    item_report 0 7 1 ∷ count_report 0 1 3 ∷ poll 0 ∷ poll_answer 0 0
    ∷ probe 0 511 ∷ probe_answer 0 511 6 ∷ probe 0 255 ∷ probe_answer 0 255 6
    ∷ probe 0 127 ∷ probe_answer 0 127 6 ∷ probe 0 63 ∷ probe_answer 0 63 6
    ∷ probe 0 31 ∷ probe_answer 0 31 6 ∷ probe 0 15 ∷ probe_answer 0 15 6
    ∷ probe 0 7 ∷ probe_answer 0 7 6 ∷ probe 0 3 ∷ probe_answer 0 3 6
    ∷ probe 0 1 ∷ probe_answer 0 1 0 ∷ probe 0 2 ∷ probe_answer 0 2 0
    ∷ announcement 0 2 6 ∷ []

pub record ConstantEdges : Type 0 where
  -- "Decks k 1 to 32", "Volume classes run from 0 to 1023", "at most 1,000,000,000 draws"
  pub most_sites_lem : most_sites ≡ 32
  pub top_value_lem : top_value ≡ 1023
  pub value_count_lem : value_count ≡ 1024
  pub site_limit_lem : site_limit ≡ 1000000000
  -- "above 100,000,000,000", "above 100,000,000,000,000"
  pub coordinator_limit_lem : coordinator_limit ≡ 100000000000
  pub message_limit_lem : message_limit ≡ 100000000000000
  -- and what follows: 10^11, 32 × 3000 counters and 32 sites of 10^9 each; the first and the last
  pub estimate_limit_lem : estimate_limit ≡ 96132000000000
  pub value_count_limit_lem : value_count_limit ≡ 132000000000
  -- "messages ≤ 25 × n", "150,000 × k × (binary digits of n, plus 1) / e rounded down"
  pub messages_per_arrival_lem : (settings : Settings) → messages_per_arrival settings ≡ 25
  pub allowance_factor_lem : (settings : Settings) → allowance_factor settings ≡ 150000
  pub allowance_two_sites : allowance settings_p6 3 ≡ 9000
  pub allowance_rounded : allowance (settings_with 1 7 1000 500 858 10) 0 ≡ 21428
  -- 39,000 × k + (33,000 + 5500 × 20) × k × (digits - 2)
  pub firm_messages_lem : (settings : Settings) → firm_messages settings ≡ 39000
  pub firm_messages_digit : (settings : Settings) → firm_messages_per_digit settings ≡ 143000
  -- "as many as the halvings, each rounded down, that bring n to 0; 0 has no digits"
  pub digits_0 : digits 0 ≡ 0
  pub digits_1 : digits 1 ≡ 1
  pub digits_7 : digits 7 ≡ 3
  pub digits_8 : digits 8 ≡ 4
  -- "e × base / (3000 × k) rounded down, at least 1"
  pub threshold_0 : threshold_of settings_p6 0 ≡ 1
  pub threshold_119 : threshold_of settings_p6 119 ≡ 1
  pub threshold_179 : threshold_of settings_p6 179 ≡ 2
  pub threshold_million : threshold_of settings_a 3000000 ≡ 1000000
  -- a list that is too short has a number, and no message is four zeros
  pub list_too_short_lem : list_too_short ≡ 12
  pub no_message_lem : no_message ≡ record { kind = 0; site = 0; a = 0; b = 0 }
  -- "At most 23 × k + 2 messages follow one draw": reached with one site and with two
  pub most_messages_1 : most_messages settings_a ≡ 25
  pub most_messages_2 : most_messages settings_two ≡ 48
  pub reached_1 : messages_of settings_a (draws 5) draw ≡ messages_sixth
  pub reached_2 : length (messages_of settings_two (take 11 twelve) (draw_at 1)) ≡ 48
  -- 24 × k + 2 steps: of P3's sixth draw the last of 26 hands over the kind 7, and it rests
  pub most_steps_1 : most_steps settings_a ≡ 26
  pub most_steps_2 : most_steps settings_two ≡ 50
  pub fuel_1 : delivery_fuel settings_a ≡ 60
  pub steps_25 : (steps_of settings_a (draws 5) draw 25).waiting ≡ announcement 0 2 6 ∷ []
  pub steps_26 : (steps_of settings_a (draws 5) draw 26).waiting ≡ []
  pub steps_26_idle : (steps_of settings_a (draws 5) draw 26).network.coordinator.phase ≡ Idle
  -- with two sites the 49th step leaves the second kind 7 waiting
  pub steps_49 : (steps_of settings_two (take 11 twelve) (draw_at 1) 49).waiting
      ≡ announcement 1 2 12 ∷ []
  pub steps_50 : (steps_of settings_two (take 11 twelve) (draw_at 1) 50).waiting ≡ []
  -- A's 29 draws send 200 messages, more than 1000 × messages ≤ 39,000 + 50,000 × 3 would allow
  pub messages_29 : length (run_of settings_a (draws 29)).messages ≡ 200
  -- polls and announcements in turn; the class goes with kind 2 while the threshold is 1
  pub two_sites_first : messages_of settings_two [] (draw_at 0)
      ≡ item_report 0 7 1 ∷ count_report 0 1 3 ∷ []
  pub two_sites_close : messages_of settings_two (draw_at 0 ∷ []) (draw_at 1)
      ≡ item_report 1 7 1 ∷ count_report 1 1 3
      ∷ poll 0 ∷ poll_answer 0 0 ∷ poll 1 ∷ poll_answer 1 0
      ∷ announcement 0 1 2 ∷ announcement 1 1 2 ∷ []
  -- the records after P4's seventh draw, and with a signal at two sites
  pub site_seventh : site_record (site_at (run_of settings_a (draws 7)).network 0)
      ≡ site_numbers 7 1 2 1 0
  pub coordinator_seventh : coordinator_record (coordinator_after settings_a (draws 7))
      ≡ coordinator_numbers 6 6 2 0 3 Idle
  pub coordinator_signalled : coordinator_record
      (coordinator_after settings_two (twelve ++ (draw_at 0 ∷ draw_at 0 ∷ [])))
      ≡ coordinator_numbers 14 12 2 1 3 Idle
  -- at threshold 2: amounts of 2, no class, and what site 1 holds back is gained by the poll
  pub two_sites_pending : take 6 (messages_of settings_two
      (twelve ++ (draw_at 1 ∷ draw_at 0 ∷ draw_at 0 ∷ draw_at 0 ∷ [])) (draw_at 0))
      ≡ item_report 0 7 2 ∷ count_report 0 2 0
      ∷ poll 0 ∷ poll_answer 0 0 ∷ poll 1 ∷ poll_answer 1 1 ∷ []
  pub two_sites_base : (coordinator_after settings_two
      (twelve ++ (draw_at 1 ∷ draw_at 0 ∷ draw_at 0 ∷ draw_at 0 ∷ draw_at 0 ∷ []))).base ≡ 17
