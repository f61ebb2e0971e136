-- `tracker_run` at a bench is a batch call of a history.
--
--   run_history            at rest
--   none_taken_history     a run that accepts no draw
--   run-long               the rows stay as long as they were
use mathlib.Core.Path.{◌≡◌, sym, ap, ◌∙◌, subst}
use mathlib.Core.List.{List, [], ◌++◌}
use Prim.Native.Nat.{ℕ, ◌+◌}
use native.Mathlib.Decide.{ℕ_discrete}
use lib.ListN.{length, get_or, take}
use borrow.Author.Tests.{eq-eqb, ne_eqb}
use Rattle.model.specs.declared.Settings.{Settings}
use Rattle.model.specs.Draws.{draws_of}
use Rattle.record_numbers.specs.Numbers.{sites_width, settings_from, sites_from, sites_numbers, coordinator_read, coordinator_numbers}
use Rattle.tracker_steps.specs.Steps.{BatchOutcome}
use Rattle.tracker.specs.Batch.{BatchHeld, batch_held, BatchSays, messages_in}
use Rattle.history.specs.State.{Held, held_by, State, AtRest, fronts, lending, put_back, holding}
use Rattle.history.specs.Steps.{batch_call, after_batch, batch, batch_takes_none, Refuses, arrives, refuses}
use Rattle.history.specs.Histories.{Reachable, stepped}
use Rattle.history.proofs.Refused.{refused_same}
use Rattle.library_batch.specs.Batch.{row_after}
use Rattle.library_history.specs.Bench.{Bench, held_in, with_front}
use Rattle.library_history.specs.Calls.{RunCall, after_run, accepted_by, written_by}
use Rattle.library_history.specs.Used.{running}
use Rattle.library_history.specs.Claims.{desk_width}
use Rattle.library_history.proofs.OwnRows.{sites_own, coordinator_own}
use Rattle.library_history.proofs.RecordRows.{length_sites_numbers, length_coordinator_numbers}

-- ---- A row after the run

module _ (own row rowThen : List ℕ) (accepted : ℕ) (are : rowThen ≡ row_after accepted own row)
  where
    row_stays : accepted ≡ 0 → rowThen ≡ row
    row_stays none = are ∙ rw (eq-eqb accepted 0 none)

    row_written : (accepted ≡ 0 → ⊥) → rowThen ≡ own
    row_written some = are ∙ rw (ne_eqb accepted 0 some)

    row_long : (width : ℕ) → length own ≡ width → length row ≡ width → length rowThen ≡ width
    row_long width own-long long = by_count (ℕ_discrete accepted 0)
      where
        by_count : Dec (accepted ≡ 0) → length rowThen ≡ width
        by_count (yes none) = ap length (row_stays none) ∙ long
        by_count (no some) = ap length (row_written some) ∙ own-long

module _ {bench : Bench} (call : RunCall bench) where
  abbrev given : Settings
  given = settings_from call.settings.before

  abbrev done : BatchOutcome
  done = call.says.done

  pub run_decks_long : length bench.decks ≡ sites_width → length call.decks ≡ sites_width
  run_decks_long =
      row_long (sites_numbers done.sites) bench.decks call.decks done.accepted
      call.says.hands.decks_are sites_width (length_sites_numbers done.sites)

  pub run_desk_long : length bench.desk ≡ desk_width → length call.desk ≡ desk_width
  run_desk_long =
      row_long (coordinator_numbers done.coordinator) bench.desk call.desk
      done.accepted call.says.hands.desk_is desk_width
      (length_coordinator_numbers done.coordinator)

  -- ---- The batch call

  abbrev answer : BatchHeld
  answer =
      batch_held done call.deck_memory.left call.desk_memory.left call.log.after

  module _ (state : State) where
    abbrev at : State
    at = holding state (held_in bench)

    abbrev next : State
    next =
        after_batch at call.draws
        (put_back (held_in bench) (fronts call.deck_memory.count call.desk_memory.count) answer)

    says_here : BatchSays
        (batch_call given
        (lending (held_in bench) (fronts call.deck_memory.count call.desk_memory.count))
        call.draws call.log.before)
        answer
    says_here = call.says.says

    takes_none : draws_of (take done.accepted call.draws) ≡ [] → Refuses at next
    takes_none =
        batch_takes_none given (fronts call.deck_memory.count call.desk_memory.count)
        call.draws call.log.before answer says_here

    -- With nothing accepted, what was held.
    same_held : done.accepted ≡ 0 → next.held ≡ held_in bench
    same_held none =
        ap (λ (after : State). after.held)
        (refused_same at next
        (takes_none (ap (λ (n : ℕ). draws_of (take n call.draws)) none)))

    module _ {settings : Settings} (reached : Reachable settings next) where
      records_then : held_in (after_run call) ≡ next.held
      records_then = by_count (ℕ_discrete done.accepted 0)
        where
          by_count : Dec (done.accepted ≡ 0) → held_in (after_run call) ≡ next.held
          by_count (yes none) =
              let sites = ap sites_from (row_stays _ bench.decks call.decks done.accepted
              call.says.hands.decks_are none)
              ∙ sym (ap (λ (held : Held). held.sites) (same_held none)) in
              let coordinator = ap coordinator_read
              (row_stays _ bench.desk call.desk done.accepted
              call.says.hands.desk_is none)
              ∙ sym (ap (λ (held : Held). held.coordinator) (same_held none)) in
              λ i. held_by (sites i) (coordinator i)
              (with_front bench.deck_memory call.deck_memory)
              (with_front bench.desk_memory call.desk_memory)
          by_count (no some) =
              let sites = ap sites_from (row_written _ bench.decks call.decks
              done.accepted call.says.hands.decks_are some)
              ∙ sites_own next reached in
              let coordinator = ap coordinator_read
              (row_written _ bench.desk call.desk done.accepted
              call.says.hands.desk_is some)
              ∙ coordinator_own next reached in
              λ i. held_by (sites i) (coordinator i)
              (with_front bench.deck_memory call.deck_memory)
              (with_front bench.desk_memory call.desk_memory)

      -- The counts' row says how many.
      run_reached : Reachable settings (running state call)
      run_reached =
          let accepted : done.accepted ≡ accepted_by call =
          sym (ap (λ (row : List ℕ). get_or row 0 0) call.says.hands.counts_are) in
          let written : done.written ≡ written_by call =
          sym (ap (λ (row : List ℕ). get_or row 1 0) call.says.hands.counts_are) in
          subst (Reachable settings)
          (λ i. record {
            held = sym records_then i;
            waiting = state.waiting;
            accepted = state.accepted ++ draws_of (take (accepted i) call.draws);
            messages = state.messages ++ messages_in (written i) call.log.after;
            log = state.log ++ messages_in (written i) call.log.after;
            logged = state.logged + written i;
          })
          reached

    -- ---- As steps of a history

    pub run_history : Reachable given at → AtRest at → Reachable given (running state call)
    run_history reachable rest =
        run_reached
        (stepped at next reachable
        (arrives (batch call.deck_memory.count call.desk_memory.count call.draws
        call.log.before answer rest says_here)))

    pub none_taken_history : {settings : Settings}
        → Reachable settings at
        → draws_of (take (accepted_by call) call.draws) ≡ []
        → Reachable settings (running state call)
    none_taken_history reachable nothing =
        let accepted : done.accepted ≡ accepted_by call =
        sym (ap (λ (row : List ℕ). get_or row 0 0) call.says.hands.counts_are) in
        run_reached
        (stepped at next reachable
        (refuses (takes_none
        (ap (λ (n : ℕ). draws_of (take n call.draws)) accepted ∙ nothing))))
