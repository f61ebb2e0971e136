-- The whole of the three calls.
--
--   run_exported   what the three calls say makes the promise
use Prim.Native.Nat.{ℕ}
use mathlib.Core.Path.{subst}
use mathlib.Core.List.{List}
use Rattle.model.specs.declared.Arrival.{Arrival}
use Rattle.library_rows.specs.Rows.{Row}
use Rattle.tracker_steps.specs.Steps.{BatchOutcome}
use Rattle.tracker.specs.Batch.{batch_held, BatchSays}
use Rattle.library_batch.specs.declared.Opening.{Opening}
use Rattle.library_batch.specs.Batch.{OpenRowsSays, CloseRowsSays, call_of, RunExported}

-- A row, from what it held to what it holds.
abbrev pub change : List ℕ → List ℕ → Row
change first last = record { before = first; after = last }

pub run_exported : (settings decks desk : Row) (draws : List Arrival)
    (deck_memory desk_memory log counts : Row)
    (decks' desk' : List ℕ) (opening : Opening) (done : BatchOutcome) (answer : ℕ)
    → OpenRowsSays settings.before (change decks.before decks')
    (change desk.before desk') opening
    → BatchSays
    (call_of opening draws deck_memory.before desk_memory.before log.before)
    (batch_held done deck_memory.after desk_memory.after log.after)
    → CloseRowsSays done (change decks' decks.after) (change desk' desk.after) counts answer
    → RunExported settings decks desk draws deck_memory desk_memory log counts answer
run_exported settings decks desk draws deck_memory desk_memory log counts decks' desk' opening
    done answer opens says closes =
    record {
      done = done;
      says = subst on_opening opens.opening_is says;
      hands =
          subst (closed decks.before) opens.desk_stays
          (subst (λ (first : List ℕ). closed first desk') opens.decks_stay closes);
    }
  where
    on_opening : Opening → Type 0
    on_opening o =
        BatchSays (call_of o draws deck_memory.before desk_memory.before log.before)
        (batch_held done deck_memory.after desk_memory.after log.after)

    -- From what the rows of decks and desk held when it began.
    closed : List ℕ → List ℕ → Type 0
    closed first second =
        CloseRowsSays done (change first decks.after) (change second desk.after) counts answer
