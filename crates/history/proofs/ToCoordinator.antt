-- The state after a message that the coordinator accepted, in a delivery from any sound network.
--
--   sound_then, held_is   the coordinator then is sound, and what is held is what the model leaves
--   to_coordinator_on     the delivery, one step further
use mathlib.Core.Path.{◌≡◌, sym, ◌∙◌, subst}
use mathlib.Core.Bool.{true}
use mathlib.Core.List.{List, [], ◌∷◌}
use Prim.Native.Nat.{ℕ, suc}
use native.Mathlib.Omega.{arith}
use lib.ListN.{take}
use Rattle.model.specs.declared.Settings.{Settings}
use Rattle.model.specs.declared.Arrival.{Arrival}
use Rattle.model.specs.declared.Message.{Message}
use Rattle.model.specs.Refusals.{no_refusal}
use Rattle.model.specs.Settings.{settings_refusal}
use Rattle.model.specs.Messages.{no_message, to_coordinator}
use Rattle.model.specs.Coordinator.{CoordinatorStep, coordinator_receives}
use Rattle.model.specs.CoordinatorMemory.{coordinator_record, coordinator_memory}
use Rattle.model.specs.Network.{Network, Delivered, hand_to_coordinator, hand_over}
use Rattle.model.specs.SoundNetwork.{SoundCoordinator}
use Rattle.model.specs.DeliveryClaims.{joining, delivery_of}
use Rattle.mid_delivery.specs.SoundClaims.{Reached}
use Rattle.coordinator.specs.Calls.{Reception}
use Rattle.coordinator.specs.Calls as CoordinatorCalls
use Rattle.history.specs.State.{Held, State, network_of, after_coordinator_call, sending}
use Rattle.history.specs.Steps.{received_out}
use Rattle.history.proofs.HandedOut.{one_out, received_few}
use Rattle.history.proofs.Decoded.{Lengths}
use Rattle.history.proofs.DecodedCoordinator.{length_coordinator_memory, network_coordinator_written}
use Rattle.history.proofs.Underway.{Underway}
use Rattle.history.proofs.Answers.{accepted_choice}
use Rattle.history.proofs.DeliveredStep.{goes_on, handed_on, coordinator_sound_then}

module _ {settings : Settings} (passes : settings_refusal settings ≡ no_refusal)
    {origin : Network} {arrival : Arrival} {past : List Message} {n : ℕ} (before : State)
    (mid : Underway settings origin arrival past n before) where
  abbrev held : Held
  held = before.held

  abbrev network : Network
  network = network_of settings held

  abbrev After : State → Type 0
  After after = Underway settings origin arrival past (suc n) after

  module _ (m : Message) (later : List Message)
      (memory : List ℕ) (answer : Reception)
      (waits : before.waiting ≡ m ∷ later)
      (way : to_coordinator m ≡ true)
      (says : CoordinatorCalls.CoordinatorReceiveSays settings held.coordinator m
      held.coordinator_memory
      memory answer)
      (accepts : answer.refusal ≡ no_refusal) where
    abbrev step : CoordinatorStep
    step = coordinator_receives settings network.coordinator m

    none : CoordinatorCalls.receive_refusal settings held.coordinator m held.coordinator_memory
        ≡ no_refusal
    none = sym says.refusal ∙ accepts

    over : hand_over settings network m ≡ hand_to_coordinator settings network m
    over = rw way

    on : Reached settings (delivery_of settings origin arrival) (suc n)
        (joining (hand_to_coordinator settings network m) later mid.log)
    on =
        subst (λ (after : Delivered).
        Reached settings (delivery_of settings origin arrival) (suc n)
        (joining after later mid.log))
        over (handed_on before mid m later waits)

    -- The coordinator then is sound.
    pub sound_then : SoundCoordinator settings step.coordinator
    sound_then =
        coordinator_sound_then before mid passes
        (joining (hand_to_coordinator settings network m) later mid.log) on

    -- What the call answers and leaves is what its contract says of the model's step.
    pub held_is : after_coordinator_call held answer.coordinator memory
        ≡ after_coordinator_call held (coordinator_record step.coordinator)
        (coordinator_memory step.coordinator held.coordinator_memory)
    held_is =
        let record_is = says.answer.coordinator ∙ accepted_choice _ _ _ none in
        let memory_is = says.memory ∙ accepted_choice _ _ _ none in
        λ i. after_coordinator_call held (record_is i) (memory_is i)

    out_is : received_out answer ≡ step.messages
    out_is =
        let count = says.answer.count ∙ accepted_choice _ _ _ none in
        let out = says.answer.out ∙ accepted_choice _ _ _ none in
        (λ i. take (count i) (out i ∷ []))
        ∙ one_out step.messages no_message (received_few settings network.coordinator m)

    lengths_then : Lengths settings
        (after_coordinator_call held (coordinator_record step.coordinator)
        (coordinator_memory step.coordinator held.coordinator_memory))
    lengths_then = record {
      all_records = mid.lengths.all_records;
      sites_long = mid.lengths.sites_long;
      coordinator_long =
          omega (
            arith,
            length_coordinator_memory settings step.coordinator held.coordinator_memory
                sound_then.numbers.estimates_length sound_then.numbers.histogram_length
                mid.lengths.coordinator_long,
            mid.lengths.coordinator_long,
          );
    }

    -- One message further.
    pub to_coordinator_on : After
        (sending before (after_coordinator_call held answer.coordinator memory) later
        (received_out answer))
    to_coordinator_on =
        subst (λ (then : Held). After (sending before then later (received_out answer)))
        (sym held_is)
        (goes_on before mid later (hand_to_coordinator settings network m) on
        (after_coordinator_call held (coordinator_record step.coordinator)
        (coordinator_memory step.coordinator held.coordinator_memory))
        (received_out answer) lengths_then
        (network_coordinator_written settings held step.coordinator
        sound_then.numbers.estimates_length sound_then.numbers.histogram_length)
        out_is)
