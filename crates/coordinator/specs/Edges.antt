-- The chains of the calls on the coordinator at the edge: lengths exactly enough and one short, and
-- for each neighbouring pair of refusals an input that deserves both. (What they are made of, and
-- the parts of the chains, stand in crate `model`'s specs/Edges.)
use Rattle.std.specs.Prelude.{◌≡◌, replicate}
use Rattle.model.specs.declared.Phase.TheVariants.{Idle, Announcing}
use Rattle.model.specs.Settings.{settings_with}
use Rattle.model.specs.Messages.{item_report}
use Rattle.model.specs.Instances.{settings_p6}
use Rattle.model.specs.Edges.Inputs.{coordinator_numbers, fresh_numbers}
use Rattle.coordinator.specs.Calls.{start_refusal, receive_refusal, announce_refusal}

pub record CoordinatorCallEdges : Type 0 where
  -- "lent memory shorter than above": 10 + 1024 numbers
  pub start_enough : start_refusal settings_p6 1034 ≡ 0
  pub start_short : start_refusal settings_p6 1033 ≡ 4
  pub start_three_before_four : start_refusal (settings_with 1 1000 1000 500 5 10) 0 ≡ 3
  -- a message: "then 4, 11; .. for a message 5, 9, 6, 7, 10". Threshold 0 is inconsistent, P6 has
  -- two sites.
  pub message_accepted :
      receive_refusal settings_p6 fresh_numbers (item_report 1 9 1) (replicate 1034 0) ≡ 0
  pub message_unknown_site :
      receive_refusal settings_p6 fresh_numbers (item_report 2 9 1) (replicate 1034 0) ≡ 5
  pub message_four_before_eleven :
      receive_refusal settings_p6 (coordinator_numbers 0 0 0 0 0 Idle) (item_report 2 9 1)
      (replicate 1033 0) ≡ 4
  pub message_eleven_before_five :
      receive_refusal settings_p6 (coordinator_numbers 0 0 0 0 0 Idle) (item_report 2 9 1)
      (replicate 1034 0) ≡ 11
  -- a kind 7 that is wanted: 4, 11, then 9
  pub wanted : announce_refusal settings_p6 (coordinator_numbers 0 0 1 2 0 (Announcing 1))
      (replicate 1034 0) ≡ 0
  pub wanted_idle : announce_refusal settings_p6 fresh_numbers (replicate 1034 0) ≡ 9
  pub wanted_four_before_eleven :
      announce_refusal settings_p6 (coordinator_numbers 0 0 0 0 0 Idle) (replicate 1033 0) ≡ 4
  pub wanted_eleven_before_nine :
      announce_refusal settings_p6 (coordinator_numbers 0 0 0 0 0 Idle) (replicate 1034 0) ≡ 11
