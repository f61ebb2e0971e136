-- The chains of the calls on sites at the edge: for each neighbouring pair of refusals an input
-- that deserves both. (What they are made of, and the parts of the chains, stand in crate `model`'s
-- specs/Edges.)
use Rattle.std.specs.Prelude.{◌≡◌, true, false, replicate}
use Rattle.model.specs.Messages.{item_report, poll}
use Rattle.model.specs.Instances.{settings_a, arrival_with}
use Rattle.model.specs.Edges.Inputs.{site_numbers}
use Rattle.site.specs.Calls.{observe_refusal, observe_takes, receive_refusal}

pub record SiteCallEdges : Type 0 where
  -- a draw: "then 4, 11; for a draw 5, 6, 7, 8". Threshold 0 is inconsistent, A has one site.
  pub draw_accepted :
      observe_refusal settings_a (site_numbers 0 0 1 0 0) (arrival_with 0 9 1023)
      (replicate 1048 0) ≡ 0
  pub draw_unknown_site :
      observe_refusal settings_a (site_numbers 0 0 1 0 0) (arrival_with 1 9 1023)
      (replicate 1048 0) ≡ 5
  pub draw_four_before_eleven :
      observe_refusal settings_a (site_numbers 0 0 0 0 0) (arrival_with 1 9 1023)
      (replicate 1047 0) ≡ 4
  pub draw_eleven_before_five :
      observe_refusal settings_a (site_numbers 0 0 0 0 0) (arrival_with 1 9 1023) (replicate 1048 0)
      ≡ 11
  -- a touch, of class 0: "tested for deck, code and class as before"; and it is not taken
  pub touch_accepted :
      observe_refusal settings_a (site_numbers 0 0 1 0 0) (arrival_with 0 9 0) (replicate 1048 0) ≡
      0
  pub touch_unknown_site :
      observe_refusal settings_a (site_numbers 0 0 1 0 0) (arrival_with 1 9 0) (replicate 1048 0) ≡
      5
  pub touch_four_before_eleven :
      observe_refusal settings_a (site_numbers 0 0 0 0 0) (arrival_with 1 9 0) (replicate 1047 0) ≡
      4
  pub touch_eleven_before_five :
      observe_refusal settings_a (site_numbers 0 0 0 0 0) (arrival_with 1 9 0) (replicate 1048 0) ≡
      11
  pub touch_not_taken :
      observe_takes settings_a (site_numbers 0 0 1 0 0) (arrival_with 0 9 0) (replicate 1048 0)
      ≡ false
  pub class_1_taken :
      observe_takes settings_a (site_numbers 0 0 1 0 0) (arrival_with 0 9 1) (replicate 1048 0)
      ≡ true
  pub refused_not_taken :
      observe_takes settings_a (site_numbers 0 0 1 0 0) (arrival_with 1 9 1) (replicate 1048 0)
      ≡ false
  -- a message: "then 4, 11; .. for a message 5, 9", the site's own number among 5
  pub message_accepted :
      receive_refusal settings_a (site_numbers 0 0 1 0 0) 0 (poll 0) (replicate 1048 0) ≡ 0
  pub message_own_number :
      receive_refusal settings_a (site_numbers 0 0 1 0 0) 1 (poll 0) (replicate 1048 0) ≡ 5
  pub message_four_before_eleven :
      receive_refusal settings_a (site_numbers 0 0 0 0 0) 1 (poll 1) (replicate 1047 0) ≡ 4
  pub message_eleven_before_five :
      receive_refusal settings_a (site_numbers 0 0 0 0 0) 1 (poll 1) (replicate 1048 0) ≡ 11
  pub message_five_before_nine :
      receive_refusal settings_a (site_numbers 0 0 1 0 0) 1 (item_report 0 9 1) (replicate 1048 0)
      ≡ 5
