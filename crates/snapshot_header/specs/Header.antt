-- What the tests of a file before its bench require and promise (request N3): trailer, settings and
-- layout.
--
--   narrowed_settings settings    each number as one of four bytes: the nearest. Settings that pass
--                                 are as they were, and no others come to pass
--   LongFile file                 a file that is not too short for settings and trailer
--   WholeFile settings file       settings that pass, and a file of their length
use Rattle.std.specs.Prelude.{◌≡◌, List, ℕ, ◌≤◌, length}
use Rattle.model.specs.declared.Settings.{Settings}
use Rattle.model.specs.Refusals.{no_refusal}
use Rattle.model.specs.Settings.{settings_refusal, settings_with}
use Rattle.record_numbers.specs.Numbers.{narrowed}
use Rattle.snapshot_file.specs.Layout.{least_length, file_length}

-- "taken whole: k = 2^32 + 1 is 1": tested before it is narrowed.
abbrev pub narrowed_settings : Settings → Settings
narrowed_settings settings =
    settings_with
    (narrowed settings.sites)
    (narrowed settings.epsilon)
    (narrowed settings.phi)
    (narrowed settings.rank)
    (narrowed settings.capacity)
    (narrowed settings.universe)

pub record LongFile (file : List ℕ) : Type 0 where
  pub long : least_length ≤ length file

pub record WholeFile (settings : Settings) (file : List ℕ) : Type 0 where
  pub settings_accepted : settings_refusal settings ≡ no_refusal
  pub length_is : length file ≡ file_length settings

-- Settings that pass, and a file that is not too short for settings and trailer.
pub record SettledFile (settings : Settings) (file : List ℕ) : Type 0 where
  pub settings_accepted : settings_refusal settings ≡ no_refusal
  pub long : least_length ≤ length file
