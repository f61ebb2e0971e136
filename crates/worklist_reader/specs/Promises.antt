-- The contracts of reading the settings line and of walking a worklist (document 01's section
-- "Worklist").
--
--   line_refusal found       13 for a malformed line, else accepted
--   settings_in found        the settings of a line, all zeros if it is malformed
--   bytes_after bytes found  the bytes after a line, all of them if it is malformed
use Rattle.std.specs.Prelude.{◌≡◌, Result, Ok, Err, List, [], ℕ, ◌-◌, length, drop}
use Rattle.model.specs.declared.Settings.{Settings}
use Rattle.model.specs.declared.Refusal.{Refusal}
use Rattle.model.specs.Refusals.{no_refusal, malformed_line, number_of}
use Rattle.model.specs.Lines.{Fields, malformed, fields, read_fields, settings_of}
use Rattle.worklist_reader.specs.declared.SettingsRead.{SettingsRead}

-- ---- The settings line

abbrev pub line_refusal : Fields → ℕ
line_refusal malformed = malformed_line
line_refusal (fields numbers rest) = no_refusal

abbrev pub settings_in : Fields → Settings
settings_in malformed = settings_of []
settings_in (fields numbers rest) = settings_of numbers

abbrev pub bytes_after : List ℕ → Fields → List ℕ
bytes_after bytes malformed = bytes
bytes_after bytes (fields numbers rest) = rest

-- What reading the settings line comes to: 0 or refusal 13, its settings, and how many bytes it
-- takes; refused, zeros.
pub record SettingsReadOutcome : Type 0 where
  pub refusal : ℕ
  pub settings : Settings
  pub used : ℕ

abbrev pub settings_outcome : Result SettingsRead Refusal → SettingsReadOutcome
settings_outcome (Ok read) = record {
  refusal = no_refusal;
  settings = read.settings;
  used = read.used;
}
settings_outcome (Err refusal) = record {
  refusal = number_of refusal;
  settings = settings_of [];
  used = 0;
}

-- The settings line at the front of some bytes: 13 if it is malformed; its settings and the bytes
-- it takes, zeros if it is malformed.
pub record SettingsSays (bytes : List ℕ) (answer : SettingsReadOutcome) : Type 0 where
  pub refusal : answer.refusal ≡ line_refusal (read_fields 6 bytes)
  pub settings : answer.settings ≡ settings_in (read_fields 6 bytes)
  pub used : answer.used ≡ length bytes - length (bytes_after bytes (read_fields 6 bytes))
  -- What stands after the bytes used: the worklist, where the line is well formed.
  pub rest : drop answer.used bytes ≡ bytes_after bytes (read_fields 6 bytes)
