-- A batch call with the touches that it accepted left out answers and leaves the same, but for the
-- number accepted: whatever memory it is lent.
--
--   says_without     the claim, of every batch call
use mathlib.Core.Path.{◌≡◌, refl, sym, ap, ◌∙◌, subst⁻¹}
use mathlib.Core.Bool.{Bool, true, false}
use mathlib.Core.List.{List}
use Prim.Native.Nat.{ℕ}
use lib.ListN.{length, take}
use borrow.Author.Tests.{eqb-true, eqb-false}
use Rattle.model.specs.declared.Message.{Message}
use Rattle.model.specs.Choice.{is_zero}
use Rattle.model.specs.Refusals.{no_refusal}
use Rattle.model.specs.Draws.{draws_of}
use Rattle.model.specs.SiteMemory.{overwrite}
use Rattle.model.specs.CoordinatorMemory.{coordinator_record, coordinator_memory}
use Rattle.model.specs.NetworkMemory.{site_records, sites_memory}
use Rattle.model.specs.Network.{Network}
use Rattle.model.specs.Runs.{Batch}
use Rattle.model.specs.MessageCounts.{counted_up}
use Rattle.tracker.specs.Batch.{BatchCall, BatchHeld, BatchSays, start_refusal, batch_in, unless_refused, log_room, message_numbers}
use Rattle.history.specs.State.{network_of}
use Rattle.history.proofs.Answers.{accepted_choice, refused_choice}
use Rattle.demands.specs.Touches.{call_without, BatchWithout}
use Rattle.demands.proofs.BatchWithout.{SameWithout, batch_without}

module _ (call : BatchCall) (answer : BatchHeld) (says : BatchSays call answer) where
  abbrev other : BatchCall
  other = call_without call answer.accepted

  -- Where the start test passes, as it then does for both.
  both_batches : start_refusal call ≡ no_refusal
      → SameWithout call.settings (log_room call.log)
      (network_of call.settings call.held) call.arrivals answer.accepted
  both_batches none =
      subst⁻¹
      (SameWithout call.settings (log_room call.log)
      (network_of call.settings call.held) call.arrivals)
      (says.accepted ∙ accepted_choice _ _ _ none)
      (batch_without call.settings (log_room call.log)
      (network_of call.settings call.held) call.arrivals)

  -- What the one hands back, the other does.
  handed : {A : Type 0} (x y given : A) (of : Batch → A)
      → x ≡ unless_refused call (of (batch_in call)) given
      → (start_refusal call ≡ no_refusal → x ≡ of (batch_in call) → y ≡ of (batch_in other))
      → (x ≡ given → y ≡ given)
      → y ≡ unless_refused other (of (batch_in other)) given
  handed {A} x y given of is done kept = by_start (is_zero (start_refusal call)) refl
    where
      by_start : (test : Bool) → is_zero (start_refusal call) ≡ test
          → y ≡ unless_refused other (of (batch_in other)) given
      by_start true passes =
          let none = eqb-true (start_refusal call) 0 passes in
          done none (is ∙ accepted_choice _ _ _ none)
          ∙ sym (accepted_choice (start_refusal call) _ _ none)
      by_start false fails =
          let some = eqb-false (start_refusal call) 0 fails in
          kept (is ∙ refused_choice _ _ _ some)
          ∙ sym (refused_choice (start_refusal call) _ _ some)

  -- By the network or the messages, which are the same.
  by_network : {A : Type 0} (x given : A) (of : Network → A)
      → x ≡ unless_refused call (of (batch_in call).network) given
      → x ≡ unless_refused other (of (batch_in other).network) given
  by_network x given of is =
      handed x x given (λ (b : Batch). of b.network) is
      (λ none done. done ∙ ap of (sym (both_batches none).same.same_network)) (λ kept. kept)

  by_messages : {A : Type 0} (x given : A) (of : List Message → A)
      → x ≡ unless_refused call (of (batch_in call).messages) given
      → x ≡ unless_refused other (of (batch_in other).messages) given
  by_messages x given of is =
      handed x x given (λ (b : Batch). of b.messages) is
      (λ none done. done ∙ ap of (sym (both_batches none).same.same_messages)) (λ kept. kept)

  pub says_without : BatchWithout call answer
  says_without = record {
    refusal =
        handed answer.refusal answer.refusal (start_refusal call)
        (λ (b : Batch). b.refusal) says.refusal
        (λ none done. done ∙ sym (both_batches none).same.same_refusal) (λ kept. kept);
    accepted =
        handed answer.accepted (length (draws_of (take answer.accepted call.arrivals))) 0
        (λ (b : Batch). b.accepted) says.accepted
        (λ none done. sym (both_batches none).draws_accepted)
        (λ kept. ap (λ (n : ℕ). length (draws_of (take n call.arrivals))) kept);
    written = by_messages answer.written 0 length says.written;
    sites =
        handed answer.held.sites answer.held.sites call.held.sites
        (λ (b : Batch). record {
          records = site_records b.network.sites call.held.sites.records;
          messages = counted_up call.held.sites.messages b.messages;
        }) says.sites
        (λ none done.
        let network = sym (both_batches none).same.same_network in
        let messages = sym (both_batches none).same.same_messages in
        done
        ∙ (λ i. record {
          records = site_records (network i).sites call.held.sites.records;
          messages = counted_up call.held.sites.messages (messages i);
        }))
        (λ kept. kept);
    coordinator =
        by_network answer.held.coordinator call.held.coordinator
        (λ (n : Network). coordinator_record n.coordinator) says.coordinator;
    site_memory =
        by_network answer.held.site_memory call.held.site_memory
        (λ (n : Network). sites_memory call.settings n.sites call.held.site_memory)
        says.site_memory;
    coordinator_memory =
        by_network answer.held.coordinator_memory call.held.coordinator_memory
        (λ (n : Network). coordinator_memory n.coordinator call.held.coordinator_memory)
        says.coordinator_memory;
    log =
        by_messages answer.log call.log
        (λ (ms : List Message). overwrite (message_numbers ms) call.log) says.log;
  }
