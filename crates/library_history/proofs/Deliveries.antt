-- `tracker_deliver` at a bench is an arrival of a history with its delivery.
--
--   delivered_history        accepted, at rest
--   delivery_left_history    refused, or a touch
--   delivered_decks_long, delivered_desk_long      the rows stay as long as they were
use mathlib.Core.Path.{◌≡◌, refl, sym, ap, ◌∙◌, subst}
use mathlib.Core.Bool.{true, false}
use Prim.Native.Nat.{ℕ}
use lib.ListN.{length}
use Rattle.model.specs.declared.Settings.{Settings}
use Rattle.model.specs.declared.Arrival.{Arrival}
use Rattle.model.specs.Refusals.{no_refusal}
use Rattle.model.specs.Draws.{is_draw}
use Rattle.model.specs.Held.{network_of}
use Rattle.model.proofs.Touches.DrawLaws.{not_taken}
use Rattle.record_numbers.specs.Numbers.{sites_width, settings_from, arrival_from, sites_from, sites_numbers, coordinator_read, coordinator_numbers}
use Rattle.history.specs.State.{Held, held_by, State, AtRest, holding}
use Rattle.history.specs.Histories.{Reachable, Deliveries, no_step, delivered, refused_between}
use Rattle.history.proofs.Answers.{left_choice}
use Rattle.history.proofs.Refused.{refused_same}
use Rattle.history.proofs.DeliveredState.{step_keeps}
use Rattle.single_outcome.specs.Delivery.{DeliveryOutcome, delivery_in, ArrivalDelivered, HistoryGoesOn}
use Rattle.library_history.specs.Bench.{Bench, held_in}
use Rattle.library_history.specs.Calls.{DeliverCall, after_deliver}
use Rattle.library_history.specs.Used.{delivering}
use Rattle.library_history.specs.Claims.{desk_width}
use Rattle.library_history.proofs.OwnRows.{sites_own, coordinator_own}
use Rattle.library_history.proofs.RecordRows.{handed, stays_long, length_sites_numbers, length_coordinator_numbers}

-- ---- The messages that batch calls logged

-- They are as they were, and so is the sum of what these calls answered.
record LogKept (first after : State) : Type 0 where
  same_log : after.log ≡ first.log
  same_logged : after.logged ≡ first.logged

-- No step of a delivery adds to them.
log_kept : {settings : Settings} (first : State) (n : ℕ) (after : State)
    → Deliveries settings first n after
    → LogKept first after
log_kept first n after no_step = record { same_log = refl; same_logged = refl }
log_kept first n after (delivered m before after' earlier step) =
    let keeps = step_keeps before after step in
    let past = log_kept first m before earlier in
    record {
      same_log = keeps.same_log ∙ past.same_log;
      same_logged = keeps.same_logged ∙ past.same_logged;
    }
log_kept first n after (refused_between m before after' earlier step) =
    subst (LogKept first) (sym (refused_same before after step))
    (log_kept first m before earlier)

module _ {bench : Bench} (call : DeliverCall bench) where
  abbrev given : Settings
  given = settings_from call.settings.before

  abbrev draw : Arrival
  draw = arrival_from call.draw.before

  abbrev done : DeliveryOutcome
  done = call.says.done

  -- What the call hands back, before it is written to the rows.
  abbrev leaves : Held
  leaves =
      held_by done.sites done.coordinator call.left.deck_memory call.left.desk_memory

  pub delivered_decks_long : length bench.decks ≡ sites_width
      → length call.left.decks ≡ sites_width
  delivered_decks_long =
      stays_long sites_from (sites_numbers done.sites) done.sites bench.decks
      call.left.decks done.refusal call.says.rows.decks_are sites_width
      (length_sites_numbers done.sites)

  pub delivered_desk_long : length bench.desk ≡ desk_width
      → length call.left.desk ≡ desk_width
  delivered_desk_long =
      stays_long coordinator_read (coordinator_numbers done.coordinator) done.coordinator
      bench.desk call.left.desk done.refusal call.says.rows.desk_is desk_width
      (length_coordinator_numbers done.coordinator)

  -- ---- The rows

  -- Where what it hands back is that of a history.
  rows_are : {settings : Settings} (state : State)
      → Reachable settings state
      → state.held ≡ leaves
      → ((done.refusal ≡ no_refusal → ⊥) → leaves ≡ held_in bench)
      → held_in (after_deliver call) ≡ leaves
  rows_are state reachable held_is stays =
      let sites =
      handed sites_from (sites_numbers done.sites) done.sites bench.decks
      call.left.decks done.refusal call.says.rows.decks_are
      (λ none. subst (λ (held : Held). sites_from (sites_numbers held.sites) ≡ held.sites)
      held_is (sites_own state reachable))
      (λ refused. ap (λ (held : Held). held.sites) (stays refused)) in
      let coordinator =
      handed coordinator_read (coordinator_numbers done.coordinator) done.coordinator
      bench.desk call.left.desk done.refusal call.says.rows.desk_is
      (λ none. subst
      (λ (held : Held).
      coordinator_read (coordinator_numbers held.coordinator) ≡ held.coordinator)
      held_is (coordinator_own state reachable))
      (λ refused. ap (λ (held : Held). held.coordinator) (stays refused)) in
      λ i. held_by (sites i) (coordinator i) call.left.deck_memory call.left.desk_memory

  -- ---- As steps of a history

  module _ (state : State) where
    abbrev at : State
    at = holding state (held_in bench)

    pub delivery_left_history : {settings : Settings}
        → Reachable settings at
        → (call.answer ≡ no_refusal → is_draw draw ≡ false)
        → Reachable settings (holding state (held_in (after_deliver call)))
    delivery_left_history {settings} reachable touches =
        let same : leaves ≡ held_in bench =
        call.says.says.held
        ∙ left_choice _ _ _
        (not_taken draw _
        (λ none. touches (call.says.refusal ∙ call.says.says.refusal ∙ none))) in
        subst (λ (held : Held). Reachable settings (holding state held))
        (sym (rows_are at reachable (sym same) (λ refused. same) ∙ same))
        reachable

    pub delivered_history : Reachable given at
        → AtRest at
        → is_draw draw ≡ true
        → call.answer ≡ no_refusal
        → Reachable given
        (delivering state (held_in (after_deliver call)) draw
        (delivery_in given (network_of given (held_in bench)) draw).messages)
    delivered_history reachable rest is_draw_lem accepts =
        let accepted : done.refusal ≡ no_refusal = sym call.says.refusal ∙ accepts in
        let told : ArrivalDelivered given at draw done leaves =
        call.says.says.delivered accepted is_draw_lem at refl rest.nothing_waits in
        let goes_on : HistoryGoesOn given at draw told.after = told.goes_on rest reachable in
        let held = told.held_is
        ∙ sym (rows_are told.after goes_on.reachable told.held_is
        (λ refused. absurd (refused accepted))) in
        let kept = log_kept _ told.calls told.after told.deliveries in
        subst (Reachable given)
        (λ i. record {
          held = held i;
          waiting = goes_on.at_rest.nothing_waits i;
          accepted = goes_on.accepted_are i;
          messages = told.messages_are i;
          log = kept.same_log i;
          logged = kept.same_logged i;
        })
        goes_on.reachable
