-- What a caller does with the library is a history of calls, so that all that crate `demands`
-- claims of every history holds of it.
--
--   AsHistory settings bench state        the state is that of a history, and the bench holds it
--   Demanded settings state reachable     crate `demands`' claims of one state
--   GoesOn settings bench state           what waits is accepted
--   ReadAgain settings bench other load   what is read is what was held
--   Closes settings bench                 saving and reading are accepted, and give that
--   UseClaims                             all of it, and what is read, of all that callers do
use Rattle.std.specs.Prelude.{◌≡◌, true, false, List, ◌∷◌, ℕ, ◌≤◌, length, take}
use Rattle.model.specs.declared.Settings.{Settings}
use Rattle.model.specs.declared.Message.{Message}
use Rattle.model.specs.Refusals.{no_refusal}
use Rattle.model.specs.Messages.{to_coordinator}
use Rattle.model.specs.Coordinator.{is_announcing}
use Rattle.model.specs.CoordinatorMemory.{coordinator_words}
use Rattle.model.specs.NetworkMemory.{sites_words}
use Rattle.record_numbers.specs.Numbers.{sites_width, message_from}
use Rattle.snapshot_file.specs.Layout.{file_length}
use Rattle.history.specs.State.{State, AtRest, carried_to}
use Rattle.history.specs.Histories.{Reachable, held_at_start}
use Rattle.demands.specs.Demands.{First, Second, Whole, Third, Dropped, LeftOut, Closing, given_in, AsGiven}
use Rattle.library_history.specs.Bench.{Bench, held_in, unchanged}
use Rattle.library_history.specs.Calls.{Under, DeckMessageCall, DeskMessageCall, AnnouncementCall, SaveCall, file_by, LoadCall, after_load}
use Rattle.library_history.specs.Used.{Used}
use Rattle.library_history.specs.Reading.{ReadsRight}

-- The numbers of the desk's row.
abbrev pub desk_width : ℕ
desk_width = 10

pub record AsHistory (settings : Settings) (bench : Bench) (state : State) : Type 0 where
  pub reachable : Reachable settings state
  pub held_is : state.held ≡ held_in bench
  -- the rows are as long as C has them
  pub decks_long : length bench.decks ≡ sites_width
  pub desk_long : length bench.desk ≡ desk_width

-- Each of `Demands` that speaks of a state and the history that reaches it.
pub record Demanded (settings : Settings) (state : State) (reachable : Reachable settings state)
    : Type 0 where
  pub first : First settings state
  pub second : Second settings state
  pub whole : Whole settings (held_at_start reachable) state
  pub third : Third settings state
  pub dropped : Dropped settings state
  pub touches : LeftOut settings reachable
  pub closing : Closing settings state
  pub given : AsGiven settings (given_in reachable) state

-- No delivery is ever stuck: lent enough memory, the head of the queue is accepted by whom it is
-- for, and a kind 7 comes while the desk announces.
pub record GoesOn (settings : Settings) (bench : Bench) (state : State) : Type 0 where
  pub deck_accepts : (call : DeckMessageCall bench) (later : List Message)
      → Under settings call.settings
      → sites_words settings ≤ call.lent
      → state.waiting ≡ message_from call.message.before ∷ later
      → to_coordinator (message_from call.message.before) ≡ false
      → call.answer ≡ no_refusal
  pub desk_accepts : (call : DeskMessageCall bench) (later : List Message)
      → Under settings call.settings
      → coordinator_words settings ≤ call.memory.count
      → state.waiting ≡ message_from call.message.before ∷ later
      → to_coordinator (message_from call.message.before) ≡ true
      → call.answer ≡ no_refusal
  pub announcement_comes : (call : AnnouncementCall bench)
      → Under settings call.settings
      → coordinator_words settings ≤ call.lent
      → is_announcing state.held.coordinator.phase ≡ true
      → call.answer ≡ no_refusal

-- Request N3: "A bench saved and read goes on exactly as one never closed".
pub record ReadAgain (settings : Settings) (bench other : Bench) (load : LoadCall other)
    : Type 0 where
  -- the row that is handed out is what later calls are given
  pub settings_are : Under settings (unchanged load.settings.after)
  -- the same records, and the bench's own numbers of both memories; what lies behind these in the
  -- other memories is untouched
  pub held_is : held_in (after_load load)
      ≡ carried_to settings (held_in bench) other.deck_memory other.desk_memory

-- At any time, in mid-delivery too.
pub record Closes (settings : Settings) (bench : Bench) : Type 0 where
  -- lent as many numbers of both memories as the settings need, and as many bytes, or more
  pub save_accepts : (save : SaveCall bench)
      → Under settings save.settings
      → sites_words settings ≤ save.deck_lent
      → coordinator_words settings ≤ save.desk_lent
      → file_length settings ≤ length save.bytes.before
      → save.answer ≡ no_refusal
  -- into as many numbers, or more
  pub load_accepts : (save : SaveCall bench) (other : Bench) (load : LoadCall other)
      → Under settings save.settings
      → save.answer ≡ no_refusal
      → load.file ≡ file_by save
      → sites_words settings ≤ length (take load.deck_memory.count other.deck_memory)
      → coordinator_words settings ≤ length (take load.desk_memory.count other.desk_memory)
      → load.answer ≡ no_refusal
  pub read_again : (save : SaveCall bench) (other : Bench) (load : LoadCall other)
      → Under settings save.settings
      → save.answer ≡ no_refusal
      → load.file ≡ file_by save
      → load.answer ≡ no_refusal
      → ReadAgain settings bench other load

pub record UseClaims : Type 0 where
  pub as_history : (settings : Settings) (bench : Bench) (state : State)
      → Used settings bench state
      → AsHistory settings bench state
  pub demanded : (settings : Settings) (bench : Bench) (state : State)
      → (used : Used settings bench state)
      → Demanded settings state (as_history settings bench state used).reachable
  pub goes_on : (settings : Settings) (bench : Bench) (state : State)
      → Used settings bench state
      → GoesOn settings bench state
  pub closes : (settings : Settings) (bench : Bench) (state : State)
      → Used settings bench state
      → Closes settings bench
  pub reads_right : (settings : Settings) (bench : Bench) (state : State)
      → Used settings bench state
      → AtRest state
      → ReadsRight settings bench state
