-- What the writing parts of saving a bench require, and what they write (request N3).
--
--   desk_row, trailer_over                      the desk part's numbers; the trailer's bytes
--   TrailerAsks, DeskAsks, DecksAsk, DeckAsks   what the writing parts require
use Rattle.std.specs.Prelude.{◌≡◌, List, ◌++◌, ℕ, ◌+◌, ◌-◌, ◌≤◌, length, take}
use Rattle.model.specs.declared.Settings.{Settings}
use Rattle.model.specs.declared.CoordinatorRecord.{CoordinatorRecord}
use Rattle.model.specs.Refusals.{no_refusal}
use Rattle.model.specs.Settings.{settings_refusal}
use Rattle.model.specs.SiteMemory.{site_words}
use Rattle.model.specs.CoordinatorMemory.{coordinator_words}
use Rattle.model.specs.NetworkMemory.{sites_words}
use Rattle.record_numbers.specs.Numbers.{coordinator_numbers}
use Rattle.little_endian.specs.Numbers.{little_endian}
use Rattle.little_endian.specs.Sections.{sections_bytes}
use Rattle.checksum.specs.Sums.{byte_sum}
use Rattle.snapshot_file.specs.Layout.{sum_bytes, trailer_length, file_length}
use Rattle.snapshot_file.specs.File.{trailer_sections}
use Rattle.snapshot_file.specs.Reading.{deck_size}

-- ---- The parts

-- The numbers of the desk part, from the coordinator's record and memory and the first k counts of
-- messages.
abbrev pub desk_row : Settings → CoordinatorRecord → List ℕ → List ℕ → List ℕ
desk_row settings coordinator counts memory =
    take (coordinator_words settings) memory
    ++ (coordinator_numbers coordinator ++ take settings.sites counts)

-- Settings that pass, and bytes for the file.
pub record TrailerAsks (settings : Settings) (bytes : List ℕ) : Type 0 where
  pub settings_accepted : settings_refusal settings ≡ no_refusal
  pub bytes_enough : file_length settings ≤ length bytes

-- And the coordinator's memory.
pub record DeskAsks (settings : Settings) (memory bytes : List ℕ) : Type 0 where
  pub file_fits : TrailerAsks settings bytes
  pub memory_long : coordinator_words settings ≤ length memory

-- And the memory of all sites.
pub record DecksAsk (settings : Settings) (memory bytes : List ℕ) : Type 0 where
  pub file_fits : TrailerAsks settings bytes
  pub memory_long : sites_words settings ≤ length memory

-- Of one deck, which lies within the bytes.
pub record DeckAsks (settings : Settings) (memory bytes : List ℕ) (place : ℕ) : Type 0 where
  pub settings_accepted : settings_refusal settings ≡ no_refusal
  pub memory_long : site_words settings ≤ length memory
  pub deck_fits : place + deck_size settings ≤ length bytes

-- Where the trailer begins, and its first ten bytes.
abbrev pub trailer_place : Settings → ℕ
trailer_place settings = file_length settings - trailer_length

abbrev pub trailer_ten : Settings → List ℕ
trailer_ten settings = sections_bytes (trailer_sections settings)

-- All twelve, over bytes whose first are the file's: the sum is of all before it, these ten too.
abbrev pub trailer_over : Settings → List ℕ → List ℕ
trailer_over settings bytes =
    trailer_ten settings
    ++ little_endian sum_bytes (byte_sum (take (trailer_place settings) bytes ++ trailer_ten
    settings))
