-- What the tests of a whole file require and promise (request N3).
--
--   CountLies settings file j   a file of the length that its settings give, and one of their decks
--   BenchLies settings file     such a file, with a phase in it
use Rattle.std.specs.Prelude.{◌≡◌, true, List, ℕ, ◌<◌}
use Rattle.model.specs.declared.Settings.{Settings}
use Rattle.record_numbers.specs.Numbers.{phase_well_in}
use Rattle.snapshot_file.specs.Reading.{desk_record}
use Rattle.snapshot_header.specs.Header.{WholeFile}

pub record CountLies (settings : Settings) (file : List ℕ) (which : ℕ) : Type 0 where
  pub whole : WholeFile settings file
  pub known : which < settings.sites

pub record BenchLies (settings : Settings) (file : List ℕ) : Type 0 where
  pub whole : WholeFile settings file
  pub phase_well_lem : phase_well_in (desk_record settings file) ≡ true
