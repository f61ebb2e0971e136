-- Document 01's instances marked P, in one table: each field is one sentence of its section
-- "Instances". The theorem `instances` of proofs/Instances.antt proves them all.
use Rattle.std.specs.Prelude.{◌≡◌, List, [], ◌∷◌, ◌++◌, pos, negsuc, ℕ, zero, suc, length, replicate, None, Some}
use Rattle.model.specs.declared.Settings.{Settings}
use Rattle.model.specs.declared.Arrival.{Arrival}
use Rattle.model.specs.declared.Message.{Message}
use Rattle.model.specs.Refusals.{no_refusal, too_few_counters}
use Rattle.model.specs.Settings.{settings_with, settings_refusal, threshold_of, allowance}
use Rattle.model.specs.Lines.{write_fields, line_feed}
use Rattle.model.specs.Messages.{item_report, count_report, poll, poll_answer, announcement}
use Rattle.model.specs.Counters.{Counter, counter_at, unreported}
use Rattle.model.specs.Coordinator.{Coordinator, fresh_coordinator}
use Rattle.model.specs.Reading.{heavy_hitters, margin, quantile_of}
use Rattle.model.specs.Network.{site_at, after_arrival}
use Rattle.model.specs.Runs.{run_of}
use Rattle.model.specs.Transcript.{transcript}

-- ---- The settings and arrivals of the instances

-- "Settings A: 1;1000;1000;500;6;10."
abbrev pub settings_a : Settings
settings_a = settings_with 1 1000 1000 500 6 10

abbrev pub arrival_with : ℕ → ℕ → ℕ → Arrival
arrival_with site item value = record { site = site; item = item; value = value }

-- "0;7;3", and so many of it.
abbrev pub draw : Arrival
draw = arrival_with 0 7 3

abbrev pub draws : ℕ → List Arrival
draws n = replicate n draw

-- "codes 0 to 6 once each": the first n of them.
abbrev pub items_from : ℕ → ℕ → List Arrival
items_from item zero = []
items_from item (suc more) = arrival_with 0 item 3 ∷ items_from (suc item) more

abbrev pub items_once : ℕ → List Arrival
items_once n = items_from 0 n

abbrev pub coordinator_after : Settings → List Arrival → Coordinator
coordinator_after settings arrivals = (run_of settings arrivals).network.coordinator

-- The messages of one more arrival after a list.
abbrev pub messages_of : Settings → List Arrival → Arrival → List Message
messages_of settings arrivals arrival =
    (after_arrival settings (run_of settings arrivals).network arrival).messages

-- The counters of site 0 after a list.
abbrev pub counters_after_all : Settings → List Arrival → List Counter
counters_after_all settings arrivals = (site_at (run_of settings arrivals).network 0).counters

abbrev pub counter_with : ℕ → ℕ → ℕ → ℕ → Counter
counter_with item count overestimate reported = record {
  item = item;
  count = count;
  overestimate = overestimate;
  reported = reported;
}

-- A counter of P5's items 1 to 5: drawn once, and reported at once.
abbrev pub seen_once : ℕ → Counter
seen_once item = counter_with item 1 0 1

-- P2's input, and what `drawtrack` writes for it, whole.
abbrev pub input_p2 : List ℕ
input_p2 =
    write_fields (1 ∷ 1000 ∷ 1000 ∷ 500 ∷ 6 ∷ 10 ∷ [])
    ++ (48 ∷ 59 ∷ 55 ∷ 59 ∷ 51 ∷ line_feed ∷ [])

abbrev pub messages_p2 : List Message
messages_p2 =
    item_report 0 7 1 ∷ count_report 0 1 3 ∷ poll 0 ∷ poll_answer 0 0 ∷ announcement 0 1 1 ∷ []

-- "1 0 7 1", "2 0 1 3", "3 0 0 0", "4 0 0 0", "7 0 1 1", byte for byte.
abbrev pub message_bytes_p2 : List ℕ
message_bytes_p2 =
    (49 ∷ 32 ∷ 48 ∷ 32 ∷ 55 ∷ 32 ∷ 49 ∷ 10 ∷ [])
    ++ (50 ∷ 32 ∷ 48 ∷ 32 ∷ 49 ∷ 32 ∷ 51 ∷ 10 ∷ [])
    ++ (51 ∷ 32 ∷ 48 ∷ 32 ∷ 48 ∷ 32 ∷ 48 ∷ 10 ∷ [])
    ++ (52 ∷ 32 ∷ 48 ∷ 32 ∷ 48 ∷ 32 ∷ 48 ∷ 10 ∷ [])
    ++ (55 ∷ 32 ∷ 48 ∷ 32 ∷ 49 ∷ 32 ∷ 49 ∷ 10 ∷ [])

-- "listed 7", "class 3", "messages 5", byte for byte.
abbrev pub result_bytes_p2 : List ℕ
result_bytes_p2 =
    (108 ∷ 105 ∷ 115 ∷ 116 ∷ 101 ∷ 100 ∷ 32 ∷ 55 ∷ 10 ∷ [])
    ++ (99 ∷ 108 ∷ 97 ∷ 115 ∷ 115 ∷ 32 ∷ 51 ∷ 10 ∷ [])
    ++ (109 ∷ 101 ∷ 115 ∷ 115 ∷ 97 ∷ 103 ∷ 101 ∷ 115 ∷ 32 ∷ 53 ∷ 10 ∷ [])

-- P6's settings; P7's with e 7; P9's A with another rank, and its two draws.
abbrev pub settings_p6 : Settings
settings_p6 = settings_with 2 100 1000 500 60 10

abbrev pub settings_p7 : ℕ → Settings
settings_p7 capacity = settings_with 1 7 1000 500 capacity 10

abbrev pub settings_p9 : ℕ → Settings
settings_p9 rank = settings_with 1 1000 1000 rank 6 10

abbrev pub draws_p9 : List Arrival
draws_p9 = arrival_with 0 7 3 ∷ arrival_with 0 7 9 ∷ []

-- ---- The table

pub record Instances : Type 0 where
  -- "P1 fresh: list empty, class none."
  pub p1_list : heavy_hitters settings_a (fresh_coordinator settings_a) ≡ []
  pub p1_class : quantile_of settings_a (fresh_coordinator settings_a) ≡ None
  -- "P2 A, then `0;7;3`."
  pub p2_messages : messages_of settings_a [] draw ≡ messages_p2
  pub p2_transcript : transcript input_p2 ≡ message_bytes_p2 ++ result_bytes_p2
  -- "P3 six such draws: 5 messages each, the sixth 25, 50 in all; threshold 2."
  pub p3_first : length (messages_of settings_a (draws 0) draw) ≡ 5
  pub p3_second : length (messages_of settings_a (draws 1) draw) ≡ 5
  pub p3_third : length (messages_of settings_a (draws 2) draw) ≡ 5
  pub p3_fourth : length (messages_of settings_a (draws 3) draw) ≡ 5
  pub p3_fifth : length (messages_of settings_a (draws 4) draw) ≡ 5
  pub p3_sixth : length (messages_of settings_a (draws 5) draw) ≡ 25
  pub p3_all : length (run_of settings_a (draws 6)).messages ≡ 50
  pub p3_threshold : (coordinator_after settings_a (draws 6)).threshold ≡ 2
  -- "P4 the seventh sends none; the eighth 25; threshold still 2."
  pub p4_seventh : messages_of settings_a (draws 6) draw ≡ []
  pub p4_eighth : length (messages_of settings_a (draws 7) draw) ≡ 25
  pub p4_threshold : (coordinator_after settings_a (draws 8)).threshold ≡ 2
  -- "P5 A, codes 0 to 6 once each: code 0 leaves; code 6 has count 2, overcount 1, sent 0, unsent 1
  -- and says nothing."
  pub p5_counters : counters_after_all settings_a (items_once 7)
      ≡ counter_with 6 2 1 0 ∷ seen_once 1 ∷ seen_once 2 ∷ seen_once 3 ∷ seen_once 4 ∷ seen_once 5
      ∷ []
  pub p5_unreported : unreported (counter_at (counters_after_all settings_a (items_once 7)) 0) ≡ 1
  pub p5_silent : messages_of settings_a (items_once 6) (arrival_with 0 6 3) ≡ []
  -- "P6 k 2, e 100: base 118 gives 1, 120 gives 2, 180 gives 3."
  pub p6_one : threshold_of settings_p6 118 ≡ 1
  pub p6_two : threshold_of settings_p6 120 ≡ 2
  pub p6_three : threshold_of settings_p6 180 ≡ 3
  -- "P7 e 7: 857 slots is 3, 858 accepted."
  pub p7_few : settings_refusal (settings_p7 857) ≡ too_few_counters
  pub p7_enough : settings_refusal (settings_p7 858) ≡ no_refusal
  -- "P8 after P2: margin of 7 is 1000, of 8 is -1000."
  pub p8_above : margin settings_a (coordinator_after settings_a (draws 1)) 7 ≡ pos 1000
  pub p8_below : margin settings_a (coordinator_after settings_a (draws 1)) 8 ≡ negsuc 999
  -- "P9 A but for q, one draw each of classes 3 and 9: q 500 gives 3, q 501 gives 9."
  pub p9_lower : quantile_of (settings_p9 500) (coordinator_after (settings_p9 500) draws_p9) ≡
      Some 3
  pub p9_upper : quantile_of (settings_p9 501) (coordinator_after (settings_p9 501) draws_p9) ≡
      Some 9
  -- "P10 A: allowance 600 at n 6, 150 at n 0."
  pub p10_six : allowance settings_a 6 ≡ 600
  pub p10_none : allowance settings_a 0 ≡ 150
