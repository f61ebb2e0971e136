-- The head of the messages that wait, about to be handed over: it is accepted, and the log has
-- room for the answer.
--
--   head_accepted       by whom it is for
--   rest_waits          the messages that wait when the head was taken
--   room, stored_then   what the hand-over comes to fits the log, and lent memory
--   answer_names        the answer names a site of the network
use mathlib.Core.Path.{◌≡◌, ap, ◌∙◌}
use mathlib.Core.List.{◌++◌}
use Prim.Native.Nat.{◌*◌, ◌≤◌}
use native.Mathlib.Omega.{arith}
use lib.ListN.{length}
use Rattle.model.specs.declared.Settings.{Settings}
use Rattle.model.specs.declared.Message.{Message}
use Rattle.model.specs.Refusals.{no_refusal}
use Rattle.model.specs.Messages.{message_width}
use Rattle.model.specs.Network.{Network, hand_over}
use Rattle.model.specs.DeliveryClaims.{message_refusal}
use Rattle.model.proofs.MessageCount.CountLaws.{NamesBelow}
use Rattle.mid_delivery.proofs.Stages.MidDelivery.{hand_on}
use Rattle.mid_delivery.proofs.Stages.StageNames.{joined_names}
use Rattle.tracker_queue.specs.declared.Queue.{Queue}
use Rattle.tracker_queue.specs.Sending.{queue_of, without_head}
use Rattle.tracker_delivery.specs.Holding.{Delivering, Carrying}
use Rattle.tracker_queue.proofs.LogLaws.{without_head_queue_of}
use Rattle.tracker_delivery.proofs.HoldingLaws.{Stored}
use Rattle.tracker_delivery.proofs.GoingLaws.{going_fit, going_stage, going_stored, going_room, going_handed}
use Rattle.tracker_delivery.proofs.StepLaws.{Handing}

module _ {settings : Settings} {carry : Carrying} (u : Delivering settings carry)
    (hand : Handing settings carry u) where
  abbrev pub now : Network
  now = u.now.network

  abbrev pub m : Message
  m = carry.waiting.first

  pub head_accepted : message_refusal settings now m ≡ no_refusal
  head_accepted =
      (hand_on (going_fit hand.going.accepting) (going_stage hand.going)).head_accepted

  pub few_rest : length hand.rest ≤ 1
  few_rest = omega (arith, hand.going.few_waiting)

  -- The messages that wait when the head was taken.
  pub rest_waits : (queue : Queue) → queue ≡ without_head carry.waiting
      → queue ≡ queue_of hand.rest
  rest_waits queue is =
      is ∙ ap without_head hand.holds.waiting ∙ without_head_queue_of m hand.rest few_rest

  pub room : message_width
      * length (u.earlier ++ (u.now.log ++ (hand_over settings now m).messages))
      ≤ length u.given.log
  room = going_room (going_handed hand.going)

  pub answer_names : NamesBelow settings.sites (hand_over settings now m).messages
  answer_names = joined_names hand.rest (going_stage (going_handed hand.going))

  pub stored_then : Stored settings (hand_over settings now m).network
  stored_then = going_stored (going_handed hand.going)
