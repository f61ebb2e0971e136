-- A line's draw: the call that takes it does what its definition says.
--
--   draw_refused, draw_taken     the two answers
--   log_holds                    the log has the messages that were written
use mathlib.Core.Path.{◌≡◌, refl, sym, ap, ◌∙◌}
use mathlib.Core.Bool.{Bool, true, false}
use mathlib.Core.List.{List, [], ◌∷◌}
use Prim.Native.Nat.{ℕ, ◌-◌, ◌*◌, ◌≤◌}
use native.Mathlib.Omega.{arith}
use lib.ListN.{length, take, drop, length-append}
use borrow.Author.Tests.{eq-eqb, ne_eqb}
use Rattle.model.specs.declared.Settings.{Settings}
use Rattle.model.specs.declared.Arrival.{Arrival}
use Rattle.model.specs.declared.Message.{Message}
use Rattle.model.specs.Choice.{is_zero}
use Rattle.model.specs.Refusals.{no_refusal}
use Rattle.model.specs.Messages.{message_width}
use Rattle.model.specs.Draws.{draws_of}
use Rattle.model.specs.SiteMemory.{overwrite}
use Rattle.model.specs.Held.{network_of}
use Rattle.model.specs.Network.{Network}
use Rattle.model.specs.Runs.{Batch, batch_refusal, batch_from, batch_of}
use Rattle.model.specs.Transcript.{message_lines}
use Rattle.worklist_reader.specs.Walk.{Step}
use Rattle.tracker_queue.proofs.LogLaws.{length_message_numbers}
use Rattle.tracker.specs.Batch.{BatchCall, BatchSays, start_refusal, batch_in, unless_refused, log_room, message_numbers, messages_in, BatchHeld}
use Rattle.history.specs.State.{State}
use Rattle.history.specs.Steps.{after_batch}
use Rattle.history.specs.Histories.{start_state}
use Rattle.history.proofs.EmptyBatch.{nothing_done, batch_same}
use Rattle.history.proofs.HandedOut.{messages_in_written}
use Rattle.drawtrack_steps.specs.declared.Session.{Session}
use Rattle.output_lines.specs.Promises.{at_start, lines_after}
use Rattle.drawtrack_steps.specs.Output.{lines_of, PutMessagesSays}
use Rattle.drawtrack_steps.specs.Outcome.{outcome, RefuseSays, refused_of, Buffers, buffers}
use Rattle.drawtrack_steps.specs.declared.Moved.{Moved}
use Rattle.drawtrack_steps.specs.Steps.{draw_call, draw_refusal, DrawSays}

-- A batch of one arrival that refuses it accepts nothing.
none_accepted : (settings : Settings) (room : ℕ) (network : Network) (arrival : Arrival)
    → ((batch_of settings room network (arrival ∷ [])).refusal ≡ no_refusal → ⊥)
    → (batch_of settings room network (arrival ∷ [])).accepted ≡ 0
none_accepted settings room network arrival refused =
    by_test (is_zero (batch_refusal settings network (room - 0) arrival)) refl
  where
    by_test : (fine : Bool) → is_zero (batch_refusal settings network (room - 0) arrival) ≡ fine
        → (batch_of settings room network (arrival ∷ [])).accepted ≡ 0
    by_test true fine = absurd (refused (rw (fine, batch_from)))
    by_test false some = rw (some, batch_from)

module _ (session : Session) (step : Step) (given : Buffers) (answer : BatchHeld)
    (says : BatchSays (draw_call session step given) answer) where
  abbrev call : BatchCall
  call = draw_call session step given

  abbrev batch : Batch
  batch = batch_in call

  abbrev network : Network
  network = network_of session.settings call.held

  -- What the batch leaves, with a list and an output.
  abbrev leaving : List ℕ → List ℕ → Buffers
  leaving = buffers answer.held.site_memory answer.held.coordinator_memory answer.log

  -- ---- A draw that is refused

  module _ (refused : answer.refusal ≡ no_refusal → ⊥) where
    accepts_none : answer.accepted ≡ 0
    accepts_none = by_start (is_zero (start_refusal call)) refl
      where
        by_start : (fine : Bool) → is_zero (start_refusal call) ≡ fine → answer.accepted ≡ 0
        by_start true fine =
            says.accepted
            ∙ rw fine
            (none_accepted session.settings (log_room given.log) network step.arrival
            (λ none. refused (says.refusal ∙ rw fine none)))
        by_start false some = says.accepted ∙ rw some

    abbrev before : State
    before =
        start_state session.sites session.coordinator given.site_memory
        given.coordinator_memory

    same : after_batch before (step.arrival ∷ []) answer ≡ before
    same =
        batch_same before session.settings (step.arrival ∷ []) given.log answer
        says (ap (λ (n : ℕ). draws_of (take n (step.arrival ∷ []))) accepts_none)

    site_memory_same : answer.held.site_memory ≡ given.site_memory
    site_memory_same = ap (λ (state : State). state.held.site_memory) same

    coordinator_memory_same : answer.held.coordinator_memory ≡ given.coordinator_memory
    coordinator_memory_same = ap (λ (state : State). state.held.coordinator_memory) same

    log_same : answer.log ≡ given.log
    log_same = by_start (is_zero (start_refusal call)) refl
      where
        by_start : (fine : Bool) → is_zero (start_refusal call) ≡ fine → answer.log ≡ given.log
        by_start true fine =
            let none = nothing_done session.settings (log_room given.log) network
            (step.arrival ∷ [])
            (ap (λ (n : ℕ). draws_of (take n (step.arrival ∷ [])))
            (sym (rw fine at says.accepted) ∙ accepts_none)) in
            says.log
            ∙ rw fine
            (ap (λ (messages : List Message). overwrite (message_numbers messages) given.log)
            none.no_messages)
        by_start false some = says.log ∙ rw some

    pub draw_refused : (list after : List ℕ) (moved : Moved)
        → RefuseSays session answer.refusal given.out after moved
        → DrawSays session step given (leaving list after) moved
    draw_refused list after moved refuses =
        let is-rule : draw_refusal call ≡ no_refusal → ⊥ = λ none. refused (says.refusal ∙ none) in
        record {
          is = λ any.
              refuses.is
              (leaving any [])
              ∙ (λ i. refused_of session (says.refusal i)
              (buffers (site_memory_same i) (coordinator_memory_same i) (log_same i) any
              given.out))
              ∙ sym (rw (ne_eqb (draw_refusal call) 0 is-rule));
          few_bytes = λ none. absurd (is-rule none);
        }

  -- ---- A draw that is taken

  module _ (none : answer.refusal ≡ no_refusal) where
    start_none : is_zero (start_refusal call) ≡ true
    start_none = by_start (is_zero (start_refusal call)) refl
      where
        by_start : (fine : Bool) → is_zero (start_refusal call) ≡ fine
            → is_zero (start_refusal call) ≡ true
        by_start true fine = fine
        by_start false some =
            let start : start_refusal call ≡ no_refusal =
            sym (rw some at says.refusal) ∙ none in
            eq-eqb (start_refusal call) 0 start

    pub done : {A : Type 0} (x y z : A) → x ≡ unless_refused call y z → x ≡ y
    done x y z is = is ∙ rw start_none

    written_is : answer.written ≡ length batch.messages
    written_is = done answer.written _ _ says.written

    log_is : answer.log ≡ overwrite (message_numbers batch.messages) given.log
    log_is = done answer.log _ _ says.log

    pub log_holds : message_width * answer.written ≤ length answer.log
    log_holds =
        let numbers = message_numbers batch.messages in
        omega (
          arith,
          written_is,
          ap length log_is,
          length_message_numbers batch.messages,
          length-append numbers (drop (length numbers) given.log),
        )

    pub messages_are : messages_in answer.written answer.log ≡ batch.messages
    messages_are =
        (λ i. messages_in (written_is i) (log_is i)) ∙ messages_in_written batch.messages _

    abbrev taken : ℕ → Moved
    taken written = record {
      session = record {
        going = true;
        refusal = no_refusal;
        settings = session.settings;
        sites = answer.held.sites;
        coordinator = answer.held.coordinator;
        at = step.at;
        line = step.line;
      };
      written = written;
    }

    pub draw_taken : (list after : List ℕ) (written : ℕ)
        → PutMessagesSays answer.log answer.written given.out after written
        → DrawSays session step given (leaving list after) (taken written)
    draw_taken list after written lines =
        let all = lines.is
        ∙ ap (λ (messages : List Message). lines_after (at_start given.out) (lines_of messages))
        messages_are in
        let sites = done answer.held.sites _ _ says.sites in
        let coordinator = done answer.held.coordinator _ _ says.coordinator in
        let site_memory = done answer.held.site_memory _ _ says.site_memory in
        let memory = done answer.held.coordinator_memory _ _ says.coordinator_memory in
        record {
          is = λ any.
              (λ i. outcome
              (record {
                session = record {
                  going = true;
                  refusal = no_refusal;
                  settings = session.settings;
                  sites = sites i;
                  coordinator = coordinator i;
                  at = step.at;
                  line = step.line;
                };
                written = (all i).place;
              })
              (buffers (site_memory i) (memory i) (log_is i) any (all i).out))
              ∙ sym (rw (eq-eqb (draw_refusal call) 0 (sym says.refusal ∙ none)));
          few_bytes = λ _.
              omega (
                arith,
                lines.few_bytes,
                written_is,
                ap (λ (messages : List Message). length (message_lines messages)) messages_are,
              );
        }
