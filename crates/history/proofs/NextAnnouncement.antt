-- The state after a kind 7 was asked for and handed out, in a delivery from any sound network.
--
--   announces     a coordinator that hands one out announces
--   next_on       the delivery, one step further
use mathlib.Core.Path.{◌≡◌, refl, sym, ◌∙◌, subst}
use mathlib.Core.Bool.{Bool, true, false}
use mathlib.Core.List.{List, [], ◌∷◌}
use Prim.Native.Nat.{ℕ, suc}
use native.Mathlib.Omega.{arith}
use lib.ListN.{take}
use Rattle.model.specs.declared.Settings.{Settings}
use Rattle.model.specs.declared.Arrival.{Arrival}
use Rattle.model.specs.declared.Message.{Message}
use Rattle.model.specs.declared.CoordinatorRecord.{CoordinatorRecord}
use Rattle.model.specs.Refusals.{no_refusal, message_not_due}
use Rattle.model.specs.Messages.{no_message}
use Rattle.model.specs.Coordinator.{CoordinatorStep, announced, is_announcing}
use Rattle.model.specs.CoordinatorMemory.{coordinator_record, coordinator_memory_refusal}
use Rattle.model.specs.Network.{Network, ask_announcement}
use Rattle.mid_delivery.specs.SoundClaims.{asked}
use Rattle.model.proofs.Thresholds.RefusalLaws.{both_accepted}
use Rattle.coordinator.specs.Calls.{Reception}
use Rattle.coordinator.specs.Calls as CoordinatorCalls
use Rattle.history.specs.State.{Held, State, network_of, after_coordinator_call, sending}
use Rattle.history.specs.Steps.{received_out}
use Rattle.history.proofs.HandedOut.{one_out, announced_few}
use Rattle.history.proofs.DecodedCoordinator.{network_announced}
use Rattle.history.proofs.Underway.{Underway}
use Rattle.history.proofs.Answers.{accepted_choice}
use Rattle.history.proofs.DeliveredStep.{goes_on}

module _ (settings : Settings) (before : State) where
  abbrev held : Held
  held = before.held

  abbrev network : Network
  network = network_of settings held

  module _ (answer : Reception)
      (says : CoordinatorCalls.AnnounceSays settings held.coordinator held.coordinator_memory
      answer)
      (accepts : answer.refusal ≡ no_refusal) where
    abbrev next : CoordinatorStep
    next = announced settings network.coordinator

    none : CoordinatorCalls.announce_refusal settings held.coordinator held.coordinator_memory
        ≡ no_refusal
    none = sym says.refusal ∙ accepts

    -- It announces, as the call accepts the wish.
    pub announces : is_announcing held.coordinator.phase ≡ true
    announces = by_phase (is_announcing held.coordinator.phase) refl
      where
        by_phase : (test : Bool) → is_announcing held.coordinator.phase ≡ test → test ≡ true
        by_phase true is = refl
        by_phase false silent =
            let rows = both_accepted
            (coordinator_memory_refusal settings held.coordinator held.coordinator_memory) _
            none in
            let refused : ◌≡◌ {A = ℕ} message_not_due no_refusal =
            rw silent at rows.later_accepted in
            absurd (omega arith)

    module _ {origin : Network} {arrival : Arrival} {past : List Message} {n : ℕ}
        (mid : Underway settings origin arrival past n before) where
      abbrev After : State → Type 0
      After after = Underway settings origin arrival past (suc n) after

      -- One announcement further.
      pub next_on : After
          (sending before
          (after_coordinator_call held answer.coordinator held.coordinator_memory)
          before.waiting (received_out answer))
      next_on =
          let record_is = says.answer.coordinator ∙ accepted_choice _ _ _ none in
          let count = says.answer.count ∙ accepted_choice _ _ _ none in
          let out = says.answer.out ∙ accepted_choice _ _ _ none in
          let out_is : received_out answer ≡ next.messages =
          (λ i. take (count i) (out i ∷ []))
          ∙ one_out next.messages no_message (announced_few settings network.coordinator) in
          subst (λ (numbers : CoordinatorRecord).
          After (sending before (after_coordinator_call held numbers held.coordinator_memory)
          before.waiting (received_out answer)))
          (sym record_is)
          (goes_on before mid before.waiting (ask_announcement settings network)
          (asked n network before.waiting mid.log mid.reached announces)
          (after_coordinator_call held (coordinator_record next.coordinator)
          held.coordinator_memory)
          (received_out answer)
          (record {
            all_records = mid.lengths.all_records;
            sites_long = mid.lengths.sites_long;
            coordinator_long = mid.lengths.coordinator_long;
          })
          (network_announced settings held) out_is)
