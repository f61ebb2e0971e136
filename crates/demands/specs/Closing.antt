-- Request N3 of every history: it can be closed at any time, in mid-delivery too, and what is read
-- back is what was held. So every later call is given the same, and answers the same; the messages
-- on their way are the caller's to keep.
--
--   Again ..                  what reading hands back, by what was held
--   Closing settings state    saving and reading are accepted, and give that
use Rattle.std.specs.Prelude.{◌≡◌, List, ℕ, ◌≤◌, take}
use Rattle.model.specs.declared.Settings.{Settings}
use Rattle.model.specs.Refusals.{no_refusal}
use Rattle.model.specs.CoordinatorMemory.{coordinator_words}
use Rattle.model.specs.NetworkMemory.{sites_words}
use Rattle.snapshot_file.specs.Answers.{LoadAnswer, SaveAnswer}
use Rattle.snapshot_file.specs.Layout.{file_length}
use Rattle.snapshot_file.specs.File.{file_of, save_refusal}
use Rattle.snapshot_file.specs.Reading.{load_refusal}
use Rattle.snapshot_file.specs.Calls.{SaveSays, LoadSays}
use Rattle.history.specs.State.{Held, held_by, State, fronts, lending, carried_to}

-- "A bench saved and read goes on exactly as one never closed".
pub record Again
    (settings : Settings)
    (held : Held)
    (site_memory coordinator_memory site_after coordinator_after : List ℕ)
    (loaded : LoadAnswer) : Type 0 where
  pub settings_are : loaded.settings ≡ settings
  -- both records, those of sites k to 31 too, and the network's own numbers of both memories; what
  -- lies behind these is untouched
  pub held_is : held_by loaded.sites loaded.coordinator site_after coordinator_after
      ≡ carried_to settings held site_memory coordinator_memory

pub record Closing (settings : Settings) (state : State) : Type 0 where
  -- saved from as many numbers of both memories as the settings need, or more, to as many bytes as
  -- the file has, or more: neither 4 nor 11, nor 1, 2, 3
  pub saved : (site_count coordinator_count room : ℕ)
      → sites_words settings ≤ site_count
      → coordinator_words settings ≤ coordinator_count
      → file_length settings ≤ room
      → save_refusal settings (lending state.held (fronts site_count coordinator_count)) room
      ≡ no_refusal
  -- the file read into memories of as many numbers, or more: nor 15, nor 16
  pub read : (site_count coordinator_count site_room coordinator_room : ℕ)
      → sites_words settings ≤ site_count
      → coordinator_words settings ≤ coordinator_count
      → sites_words settings ≤ site_room
      → coordinator_words settings ≤ coordinator_room
      → load_refusal (file_of settings (lending state.held (fronts site_count coordinator_count)))
      site_room coordinator_room
      ≡ no_refusal
  -- whatever the two calls answer and leave, if they accept and keep their promise
  pub goes_on : (site_count coordinator_count : ℕ) (bytes written : List ℕ) (saved : SaveAnswer)
      (site_memory coordinator_memory site_after coordinator_after : List ℕ) (loaded : LoadAnswer)
      → SaveSays settings (lending state.held (fronts site_count coordinator_count)) bytes
      written saved
      → saved.refusal ≡ no_refusal
      → LoadSays (take saved.length written) site_memory coordinator_memory site_after
      coordinator_after loaded
      → loaded.refusal ≡ no_refusal
      → Again settings state.held site_memory coordinator_memory site_after coordinator_after loaded
