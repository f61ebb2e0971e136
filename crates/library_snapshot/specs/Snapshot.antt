-- What saving a bench and reading it back promise to callers of the library (request N3): the
-- promises of `save_bench` and `load_bench`, on the records that the rows stand for; and the rows
-- and the length where they accept.
--
--   FileLengthExported      the bytes of a file, by the settings
--   HandLengthSays          the length that is written
--   SaveExported            the promise of the call that saves
--   HandBenchSays           the rows that are written
--   LoadExported            the promise of the call that reads
use Rattle.std.specs.Prelude.{◌≡◌, ℕ}
use Rattle.model.specs.Held.{held_by}
use Rattle.model.specs.Settings.{settings_refusal}
use Rattle.record_numbers.specs.Numbers.{settings_from, settings_numbers, sites_from, sites_numbers, coordinator_read, coordinator_numbers}
use Rattle.library_rows.specs.Rows.{Row, Number, handed_out}
use Rattle.snapshot_file.specs.Layout.{file_length}
use Rattle.snapshot_file.specs.Answers.{SaveAnswer, LoadAnswer}
use Rattle.snapshot_file.specs.Calls.{SaveSays, LoadSays}

pub record FileLengthExported (settings : Row) (length : Number) (answer : ℕ) : Type 0 where
  pub refusal : answer ≡ settings_refusal (settings_from settings.before)
  pub length_is : length.after
      ≡ handed_out (settings_refusal (settings_from settings.before))
      (file_length (settings_from settings.before)) length.before

-- The length where the file was written.
pub record HandLengthSays (saved : SaveAnswer) (length : Number) : Type 0 where
  pub length_is : length.after ≡ handed_out saved.refusal saved.length length.before

pub record SaveExported (settings decks desk deck_memory desk_memory bytes : Row) (length : Number)
    (answer : ℕ) : Type 0 where
  pub saved : SaveAnswer
  pub says : SaveSays (settings_from settings.before)
      (held_by (sites_from decks.before) (coordinator_read desk.before) deck_memory.before
      desk_memory.before)
      bytes.before bytes.after saved
  pub refusal : answer ≡ saved.refusal
  pub file_length_lem : HandLengthSays saved length

-- Settings and both records.
pub record HandBenchSays (loaded : LoadAnswer) (settings decks desk : Row) : Type 0 where
  pub settings_are : settings.after
      ≡ handed_out loaded.refusal (settings_numbers loaded.settings) settings.before
  pub decks_are : decks.after
      ≡ handed_out loaded.refusal (sites_numbers loaded.sites) decks.before
  pub desk_is : desk.after
      ≡ handed_out loaded.refusal (coordinator_numbers loaded.coordinator) desk.before

pub record LoadExported (file settings decks desk deck_memory desk_memory : Row) (answer : ℕ)
    : Type 0 where
  pub loaded : LoadAnswer
  pub says : LoadSays file.before deck_memory.before desk_memory.before
      deck_memory.after desk_memory.after loaded
  pub refusal : answer ≡ loaded.refusal
  pub rows : HandBenchSays loaded settings decks desk
