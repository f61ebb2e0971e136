-- What saving and reading a bench promise (request N3): the number, the length or the records, and
-- every byte and number that was lent.
--
--   save_answer, load_answer                what the calls come to, as numbers and records
--   SaveSays                                the call that saves
--   zero_settings, fresh_record, refused_by  what a refused reading comes to
--   bench_in file                           the bench that a file holds
--   LoadSays                                the call that reads
use Rattle.std.specs.Prelude.{◌≡◌, List, ℕ, length, if◌then◌else◌, Result, Ok, Err}
use Rattle.laws.specs.Writing.{written_at}
use Rattle.model.specs.declared.Settings.{Settings}
use Rattle.model.specs.declared.CoordinatorRecord.{CoordinatorRecord}
use Rattle.model.specs.declared.Refusal.{Refusal}
use Rattle.model.specs.Refusals.{no_refusal, number_of}
use Rattle.model.specs.Choice.{is_zero}
use Rattle.model.specs.Settings.{settings_with}
use Rattle.model.specs.SiteMemory.{overwrite}
use Rattle.model.specs.Coordinator.{fresh_coordinator}
use Rattle.model.specs.CoordinatorMemory.{coordinator_record}
use Rattle.model.specs.NetworkMemory.{fresh_sites}
use Rattle.model.specs.Held.{Held}
use Rattle.snapshot_file.specs.declared.Loaded.{Loaded}
use Rattle.snapshot_file.specs.Answers.{SaveAnswer, LoadAnswer}
use Rattle.snapshot_file.specs.Layout.{file_length}
use Rattle.snapshot_file.specs.File.{file_of, save_refusal}
use Rattle.snapshot_file.specs.Reading.{settings_in, held_in, load_refusal}

-- ---- Saving

-- What saving comes to: how many bytes the file has; refused, none.
abbrev pub save_answer : Result ℕ Refusal → SaveAnswer
save_answer (Ok bytes) = record { refusal = no_refusal; length = bytes }
save_answer (Err refusal) = record { refusal = number_of refusal; length = 0 }

-- "Write the whole bench to a file": where it is refused nothing changes and the length is 0;
-- "longer bytes are fine, the rest untouched".
pub record SaveSays (settings : Settings) (held : Held) (before after : List ℕ)
    (answer : SaveAnswer)
    : Type 0 where
  pub refusal : answer.refusal ≡ save_refusal settings held (length before)
  pub saved_length : answer.length
      ≡ (if is_zero answer.refusal then file_length settings else 0)
  pub bytes : after
      ≡ (if is_zero answer.refusal then written_at 0 (file_of settings held) before else before)

-- ---- Reading

-- "A refused reading .. answers zero settings and fresh records".
abbrev pub zero_settings : Settings
zero_settings = settings_with 0 0 0 0 0 0

abbrev pub fresh_record : CoordinatorRecord
fresh_record = coordinator_record (fresh_coordinator zero_settings)

abbrev pub refused_by : ℕ → LoadAnswer
refused_by refusal = record {
  refusal = refusal;
  settings = zero_settings;
  sites = fresh_sites;
  coordinator = fresh_record;
}

-- What reading comes to.
abbrev pub load_answer : Result Loaded Refusal → LoadAnswer
load_answer (Ok loaded) = record {
  refusal = no_refusal;
  settings = loaded.settings;
  sites = loaded.sites;
  coordinator = loaded.coordinator;
}
load_answer (Err refusal) = refused_by (number_of refusal)

-- The bench that a file holds, with the settings that it has.
abbrev pub bench_in : List ℕ → Held
bench_in file = held_in (settings_in file) file

-- "read it back": the front of each memory is the file's, what lies behind it is left; refused,
-- "returns its number and changes nothing".
pub record LoadSays
    (file site_before coordinatorBefore site_after coordinator_after : List ℕ)
    (answer : LoadAnswer) : Type 0 where
  pub refusal : answer.refusal
      ≡ load_refusal file (length site_before) (length coordinatorBefore)
  pub settings : answer.settings
      ≡ (if is_zero answer.refusal then settings_in file else zero_settings)
  pub sites : answer.sites
      ≡ (if is_zero answer.refusal then (bench_in file).sites else fresh_sites)
  pub coordinator : answer.coordinator
      ≡ (if is_zero answer.refusal then (bench_in file).coordinator else fresh_record)
  pub site_memory : site_after
      ≡ (if is_zero answer.refusal then overwrite (bench_in file).site_memory site_before
      else site_before)
  pub coordinator_memory : coordinator_after
      ≡ (if is_zero answer.refusal then overwrite (bench_in file).coordinator_memory
      coordinatorBefore
      else coordinatorBefore)
