-- A message for the coordinator, handed over as the code does it.
--
--   coordinator_asks     what the coordinator's step requires
--   coordinator_sends    what sending its answer requires
--   coordinator_holds    what the state holds when the answer went out
use mathlib.Core.Path.{◌≡◌, ap, ◌∙◌, subst, subst⁻¹}
use mathlib.Core.Bool.{true}
use mathlib.Core.List.{List, ◌++◌}
use Prim.Native.Nat.{ℕ, ◌*◌, ◌≤◌}
use native.Mathlib.Omega.{arith}
use lib.ListN.{length, get_or}
use Rattle.model.specs.declared.Settings.{Settings}
use Rattle.model.specs.declared.Message.{Message}
use Rattle.model.specs.Messages.{message_width, no_message, to_coordinator}
use Rattle.model.specs.Refusals.{no_refusal}
use Rattle.model.specs.Coordinator.{Coordinator, CoordinatorStep, coordinator_receives, coordinator_refusal}
use Rattle.model.specs.CoordinatorMemory.{coordinator_in}
use Rattle.model.specs.Network.{Network, with_coordinator}
use Rattle.model.specs.DeliveryClaims.{delivery, delivery_step}
use Rattle.coordinator_kinds.specs.declared.Answered as CoordinatorAnswer
use Rattle.coordinator_kinds.specs.Steps.{KindSays}
use Rattle.coordinator_steps.specs.Ready.{CoordinatorReady, StepAsks}
use Rattle.tracker_queue.specs.declared.Queue.{Queue}
use Rattle.tracker_queue.specs.Sending.{without_head, SendAsks}
use Rattle.tracker_delivery.specs.UnderwayParts.{Underway, traffic_of}
use Rattle.tracker_delivery.specs.Holding.{answered, Holds, Fits, Delivering, Carrying, carrying}
use Rattle.tracker_delivery.proofs.OneAnswer.{receives_one}
use Rattle.tracker_delivery.proofs.HoldingLaws.{coordinator_read, coordinator_memory_length, holds_answer, holds_coordinator, coordinator_again}
use Rattle.tracker_delivery.proofs.GoingLaws.{going_ready, going_stored}
use Rattle.tracker_delivery.proofs.StepLaws.{Handing, answer_sends}
use Rattle.tracker_delivery.proofs.HandLaws.{head_accepted, few_rest, rest_waits, room, answer_names, stored_then}

module _ {settings : Settings} {carry : Carrying} (u : Delivering settings carry)
    (hand : Handing settings carry u) where
  abbrev now : Network
  now = u.now.network

  abbrev m : Message
  m = carry.waiting.first

  abbrev fits : Fits settings u.given
  fits = hand.going.accepting.fits

  module _ (way : to_coordinator m ≡ true) where
    abbrev c : Coordinator
    c = now.coordinator

    abbrev after : CoordinatorStep
    after = coordinator_receives settings c m

    c_read : coordinator_in settings carry.held.coordinator carry.held.coordinator_memory ≡ c
    c_read = coordinator_read fits (going_stored hand.going) hand.holds

    pub coordinator_asks : StepAsks settings carry.held.coordinator m
        carry.held.coordinator_memory
    coordinator_asks = record {
      settings_accepted = fits.settings_accepted;
      memory_long = omega (
        arith,
        coordinator_memory_length fits (going_stored hand.going) hand.holds,
        fits.coordinator_memory_long,
      );
      ready = subst⁻¹ (CoordinatorReady settings) c_read (going_ready hand.going);
      message_accepted =
          subst⁻¹ (λ (d : Coordinator). coordinator_refusal settings d m ≡ no_refusal) c_read
          (rw way at (head_accepted u hand));
    }

    module _ (answer : CoordinatorAnswer.Answered) (memory : List ℕ) (queue : Queue)
        (does : KindSays
        (coordinator_receives settings
        (coordinator_in settings carry.held.coordinator carry.held.coordinator_memory) m)
        carry.held.coordinator_memory memory answer)
        (queue-is : queue ≡ without_head carry.waiting) where
      did : KindSays after carry.held.coordinator_memory memory answer
      did =
          subst (λ (x : Coordinator).
          KindSays (coordinator_receives settings x m) carry.held.coordinator_memory memory
          answer)
          c_read does

      abbrev next : Underway
      next = record {
        sites = carry.held.sites;
        coordinator = answer.coordinator;
        written = carry.written;
        waiting = queue;
      }

      changed : Holds settings u.given u.earlier
          (delivery (with_coordinator now after.coordinator) hand.rest u.now.log)
          (carrying next carry.held.site_memory memory carry.log)
      changed =
          let then = rw way at (stored_then u hand) in
          holds_coordinator hand.holds after.coordinator hand.rest answer.coordinator
          queue memory
          (ap (λ (a : CoordinatorAnswer.Answered). a.coordinator) did.answer)
          (rest_waits u hand queue queue-is)
          (did.memory
          ∙ coordinator_again hand.holds after.coordinator
          (going_stored hand.going).coordinator_stored then.coordinator_stored)

      abbrev room_then : message_width * length (u.earlier ++ (u.now.log ++ after.messages))
          ≤ length u.given.log
      room_then = rw way at (room u hand)

      abbrev count_is : answer.count ≡ length after.messages
      count_is = ap (λ (a : CoordinatorAnswer.Answered). a.count) did.answer

      abbrev out_is : answer.out ≡ get_or after.messages 0 no_message
      out_is = ap (λ (a : CoordinatorAnswer.Answered). a.out) did.answer

      pub coordinator_sends : (answer.count ≡ 0 → ⊥)
          → SendAsks (traffic_of next) answer.out carry.held.sites.messages carry.log
      coordinator_sends =
          answer_sends changed after.messages answer.count count_is answer.out out_is
          (rw way at (answer_names u hand)) room_then fits

      pub coordinator_holds :
          Holds settings u.given u.earlier (delivery_step settings u.now)
          (answered answer.count answer.out
          (carrying next carry.held.site_memory memory carry.log))
      coordinator_holds =
          rw (hand.step_is, way)
          (holds_answer after.messages answer.count answer.out changed
          (receives_one settings c m) count_is out_is (few_rest u hand) room_then)
