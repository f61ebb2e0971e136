-- What `tracker_run` promises: the tracker's own promise, on the records that the rows stand for;
-- and the two parts around the tracker's call, which make the records and write them back.
--
--   opening_of settings decks desk  the records of three rows
--   OpenRowsSays                    the rows are read
--   row_after accepted numbers row  a record's row after the call
--   counts_numbers done             the two counts
--   CloseRowsSays                   what the tracker answers is handed back
--   call_of opening ..               the tracker's call on an opening
--   RunExported                     the promise
use Rattle.std.specs.Prelude.{◌≡◌, List, [], ◌∷◌, ℕ, if◌then◌else◌}
use Rattle.model.specs.declared.Arrival.{Arrival}
use Rattle.model.specs.Choice.{is_zero}
use Rattle.model.specs.Held.{held_by}
use Rattle.record_numbers.specs.Numbers.{settings_from, sites_from, sites_numbers, coordinator_read, coordinator_numbers}
use Rattle.library_rows.specs.Rows.{Row}
use Rattle.tracker_steps.specs.Steps.{BatchOutcome}
use Rattle.tracker.specs.Batch.{BatchCall, batch_held, BatchSays}
use Rattle.library_batch.specs.declared.Opening.{Opening}

-- ---- Before the tracker's call

-- The desk's row, where it is no record, stands for one that is refused by 11, in its place in the
-- order.
abbrev pub opening_of : List ℕ → List ℕ → List ℕ → Opening
opening_of settings decks desk = record {
  settings = settings_from settings;
  sites = sites_from decks;
  coordinator = coordinator_read desk;
}

pub record OpenRowsSays (settings : List ℕ) (decks desk : Row) (opening : Opening)
    : Type 0 where
  pub opening_is : opening ≡ opening_of settings decks.before desk.before
  pub decks_stay : decks.after ≡ decks.before
  pub desk_stays : desk.after ≡ desk.before

-- ---- After the tracker's call

-- The record's numbers where a draw was accepted; with none accepted the row stays, whatever it
-- was.
abbrev pub row_after : ℕ → List ℕ → List ℕ → List ℕ
row_after accepted numbers row = if is_zero accepted then row else numbers

-- How many draws were accepted, and how many messages were written.
abbrev pub counts_numbers : BatchOutcome → List ℕ
counts_numbers done = done.accepted ∷ (done.written ∷ [])

-- "`counts` is always written" (tracker.h).
pub record CloseRowsSays (done : BatchOutcome) (decks desk counts : Row) (answer : ℕ)
    : Type 0 where
  pub refusal : answer ≡ done.refusal
  pub decks_are : decks.after
      ≡ row_after done.accepted (sites_numbers done.sites) decks.before
  pub desk_is : desk.after
      ≡ row_after done.accepted (coordinator_numbers done.coordinator) desk.before
  pub counts_are : counts.after ≡ counts_numbers done

-- ---- The whole

-- On what the two memories and the log hold when it starts.
abbrev pub call_of : Opening → List Arrival → List ℕ → List ℕ → List ℕ → BatchCall
call_of opening draws deck_memory desk_memory log = record {
  settings = opening.settings;
  held = held_by opening.sites opening.coordinator deck_memory desk_memory;
  arrivals = draws;
  log = log;
}

-- There is an answer of the tracker for which its promise holds: on the records of the rows, the
-- draws, and both memories and the log before and after. It is handed back.
pub record RunExported (settings decks desk : Row) (draws : List Arrival)
    (deck_memory desk_memory log counts : Row) (answer : ℕ) : Type 0 where
  pub done : BatchOutcome
  pub says : BatchSays
      (call_of (opening_of settings.before decks.before desk.before) draws
      deck_memory.before desk_memory.before log.before)
      (batch_held done deck_memory.after desk_memory.after log.after)
  pub hands : CloseRowsSays done decks desk counts answer
