-- The instances of request N2, in one table: class 0 is tested, accepted and counted by the batch
-- call, and changes nothing. The theorem `touch-instances` of proofs/Touches/Instances.antt proves
-- them all.
--
--   touch, draw_then_touch    "0;8;0"; "0;7;3" and then it
--   touch_of site item         a touch of an item at a site
--   TouchInstances            the table
use Rattle.std.specs.Prelude.{◌≡◌, true, false, List, [], ◌∷◌, ◌++◌, pos, ℕ, None, Some}
use Rattle.model.specs.declared.Arrival.{Arrival}
use Rattle.model.specs.Settings.{allowance}
use Rattle.model.specs.Lines.{write_fields, line_feed}
use Rattle.model.specs.Draws.{is_draw, draws_of}
use Rattle.model.specs.Site.{fresh_site, line_refusal}
use Rattle.model.specs.Reading.{heavy_hitters, margin, quantile_of}
use Rattle.model.specs.Runs.{run_of, batch_refusal, batch_of}
use Rattle.model.specs.Claims.{counted, count_of}
use Rattle.model.specs.Transcript.{transcript}
use Rattle.model.specs.Instances.{settings_a, arrival_with, draw, draws, coordinator_after, messages_p2, message_bytes_p2, result_bytes_p2, input_p2}
use Rattle.model.specs.Edges.Sites.{site_having}
use Rattle.model.specs.Edges.Networks.{fresh, full_network}

-- ---- Draws and touches

abbrev pub touch_of : ℕ → ℕ → Arrival
touch_of site item = arrival_with site item 0

-- "0;8;0"
abbrev pub touch : Arrival
touch = touch_of 0 8

-- "`0;7;3` then `0;8;0`"
abbrev pub draw_then_touch : List Arrival
draw_then_touch = draw ∷ touch ∷ []

-- A line "0;7;0" behind the settings line of P2, and what `drawtrack` writes for the two: "listed",
-- "class none", "messages 0".
abbrev pub touch_input : List ℕ
touch_input =
    write_fields (1 ∷ 1000 ∷ 1000 ∷ 500 ∷ 6 ∷ 10 ∷ [])
    ++ (48 ∷ 59 ∷ 55 ∷ 59 ∷ 48 ∷ line_feed ∷ [])

abbrev pub touch_output : List ℕ
touch_output =
    (108 ∷ 105 ∷ 115 ∷ 116 ∷ 101 ∷ 100 ∷ 10 ∷ [])
    ++ (99 ∷ 108 ∷ 97 ∷ 115 ∷ 115 ∷ 32 ∷ 110 ∷ 111 ∷ 110 ∷ 101 ∷ 10 ∷ [])
    ++ (109 ∷ 101 ∷ 115 ∷ 115 ∷ 97 ∷ 103 ∷ 101 ∷ 115 ∷ 32 ∷ 48 ∷ 10 ∷ [])

-- ---- The table

pub record TouchInstances : Type 0 where
  -- "draws of class 1 or more"
  pub class_0 : is_draw (arrival_with 0 7 0) ≡ false
  pub class_1 : is_draw (arrival_with 0 7 1) ≡ true
  pub class_1023 : is_draw (arrival_with 0 7 1023) ≡ true
  pub left_out : draws_of (touch ∷ draw ∷ touch ∷ draw ∷ touch ∷ []) ≡ draws 2
  -- "It is tested for deck, code and class as before": 5, 6 and 7 of a line, in that order
  pub unknown_site : line_refusal settings_a fresh_site (touch_of 1 7) ≡ 5
  pub unknown_item : line_refusal settings_a fresh_site (touch_of 0 10) ≡ 6
  pub value_1024 : line_refusal settings_a fresh_site (arrival_with 0 7 1024) ≡ 7
  pub five_before_six : line_refusal settings_a fresh_site (touch_of 1 10) ≡ 5
  -- "then accepted .., even on a full deck": class 0 is, class 1 is 8
  pub full_touch : line_refusal settings_a (site_having 1000000000) touch ≡ 0
  pub full_draw : line_refusal settings_a (site_having 1000000000) (arrival_with 0 7 1) ≡ 8
  pub full_unknown : line_refusal settings_a (site_having 1000000000) (touch_of 0 10) ≡ 6
  -- "or with a full log": no free place, and the deck full too
  pub no_log : batch_refusal settings_a fresh 0 touch ≡ 0
  pub no_log_full : batch_refusal settings_a full_network 0 touch ≡ 0
  pub no_log_draw : batch_refusal settings_a fresh 0 (arrival_with 0 7 1) ≡ 14
  pub no_log_unknown : batch_refusal settings_a fresh 0 (touch_of 0 10) ≡ 6
  -- "A, `0;7;3` then `0;8;0`: 5 messages, listed 7, class 3, records as after P2"
  pub both_messages : (run_of settings_a draw_then_touch).messages ≡ messages_p2
  pub both_listed : heavy_hitters settings_a (coordinator_after settings_a draw_then_touch) ≡ 7 ∷ []
  pub both_class : quantile_of settings_a (coordinator_after settings_a draw_then_touch) ≡ Some 3
  pub both_network : (run_of settings_a draw_then_touch).network ≡
      (run_of settings_a (draws 1)).network
  -- one draw, none of it of code 8
  pub both_counted : counted (run_of settings_a draw_then_touch).accepted ≡ 1
  pub both_of_8 : count_of 8 (run_of settings_a draw_then_touch).accepted ≡ 0
  -- "a batch of these two accepts 2"
  pub both_accepted : (batch_of settings_a 25 fresh draw_then_touch).accepted ≡ 2
  pub both_refusal : (batch_of settings_a 25 fresh draw_then_touch).refusal ≡ 0
  pub both_written : (batch_of settings_a 25 fresh draw_then_touch).messages ≡ messages_p2
  -- a draw behind a touch is taken, and a touch that is refused stops the batch
  pub behind_accepted : (batch_of settings_a 25 fresh (touch ∷ draw ∷ [])).accepted ≡ 2
  pub behind_written : (batch_of settings_a 25 fresh (touch ∷ draw ∷ [])).messages ≡ messages_p2
  pub stopped : (batch_of settings_a 100 fresh (draw ∷ touch_of 0 10 ∷ draw ∷ [])).refusal ≡ 6
  pub stopped_accepted : (batch_of settings_a 100 fresh
      (draw ∷ touch_of 0 10 ∷ draw ∷ [])).accepted ≡ 1
  -- "A, `0;7;0` alone: nothing listed, class none, 0 messages, allowance of n = 0"
  pub alone_listed : heavy_hitters settings_a (coordinator_after settings_a (touch_of 0 7 ∷ [])) ≡
      []
  pub alone_class : quantile_of settings_a (coordinator_after settings_a (touch_of 0 7 ∷ [])) ≡
      None
  pub alone_margin : margin settings_a (coordinator_after settings_a (touch_of 0 7 ∷ [])) 7 ≡ pos 0
  pub alone_messages : (run_of settings_a (touch_of 0 7 ∷ [])).messages ≡ []
  pub alone_counted : counted (run_of settings_a (touch_of 0 7 ∷ [])).accepted ≡ 0
  pub alone_allowance :
      allowance settings_a (counted (run_of settings_a (touch_of 0 7 ∷ [])).accepted) ≡ 150
  -- a batch of touches alone needs no log
  pub touches_accepted : (batch_of settings_a 0 fresh (touch ∷ touch ∷ touch ∷ [])).accepted ≡ 3
  pub touches_refusal : (batch_of settings_a 0 fresh (touch ∷ touch ∷ touch ∷ [])).refusal ≡ 0
  pub touches_network : (batch_of settings_a 0 fresh (touch ∷ touch ∷ touch ∷ [])).network ≡ fresh
  -- `drawtrack`: "`0;7;0` is a good line and writes nothing"
  pub program : transcript touch_input ≡ touch_output
  pub program_behind : transcript (input_p2 ++ (48 ∷ 59 ∷ 56 ∷ 59 ∷ 48 ∷ line_feed ∷ []))
      ≡ message_bytes_p2 ++ result_bytes_p2
