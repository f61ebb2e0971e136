-- What is claimed of saving a bench and reading it back (request N3), of every bench that saving
-- accepts and every file that reading accepts, arisen or not.
--
--   closed settings held     what of a bench is saved: the records and counts of its k sites, those
--                            of sites k to 31 fresh, and as much memory as the settings need
--   OfMachine settings held  facts of the values that code holds: all 32 records and counts, and
--                            numbers of the sites' memory that are machine numbers
--   FileClaims               both ways round
use Rattle.std.specs.Prelude.{◌≡◌, List, ◌++◌, ℕ, ◌-◌, ◌^◌, ◌≤◌, length, take, replicate}
use Rattle.model.specs.declared.Settings.{Settings}
use Rattle.model.specs.Refusals.{no_refusal}
use Rattle.model.specs.Limits.{most_sites}
use Rattle.model.specs.Site.{fresh_site}
use Rattle.model.specs.SiteMemory.{site_record}
use Rattle.model.specs.CoordinatorMemory.{coordinator_words}
use Rattle.model.specs.NetworkMemory.{sites_words}
use Rattle.model.specs.Held.{Held, held_by}
use Rattle.little_endian.specs.Numbers.{byte_range, AllBelow}
use Rattle.snapshot_file.specs.Layout.{deck_bytes, file_length}
use Rattle.snapshot_file.specs.File.{own_counts, file_of, save_refusal}
use Rattle.snapshot_file.specs.Reading.{settings_in, held_in, load_refusal}

abbrev pub closed : Settings → Held → Held
closed settings held =
    held_by (record {
      records = take settings.sites held.sites.records
          ++ replicate (most_sites - settings.sites) (site_record fresh_site);
      messages = own_counts settings held ++ replicate (most_sites - settings.sites) 0;
    })
    held.coordinator
    (take (sites_words settings) held.site_memory)
    (take (coordinator_words settings) held.coordinator_memory)

pub record OfMachine (settings : Settings) (held : Held) : Type 0 where
  pub all_records : length held.sites.records ≡ most_sites
  pub all_counts : length held.sites.messages ≡ most_sites
  pub words_fit : AllBelow (byte_range ^ deck_bytes) (take (sites_words settings) held.site_memory)

pub record FileClaims : Type 0 where
  -- what is saved has the length that its settings give
  pub saved_length : (settings : Settings) (held : Held) (room : ℕ)
      → save_refusal settings held room ≡ no_refusal
      → OfMachine settings held
      → length (file_of settings held) ≡ file_length settings
  -- "A bench saved and read goes on exactly as one never closed": what is saved is accepted, by
  -- whatever memory is long enough, and says the same settings and the same bench
  pub saved_settings : (settings : Settings) (held : Held) (room : ℕ)
      → save_refusal settings held room ≡ no_refusal
      → OfMachine settings held
      → settings_in (file_of settings held) ≡ settings
  pub saved_bench : (settings : Settings) (held : Held) (room : ℕ)
      → save_refusal settings held room ≡ no_refusal
      → OfMachine settings held
      → held_in settings (file_of settings held) ≡ closed settings held
  pub saved_accepted : (settings : Settings) (held : Held) (room sites coordinator : ℕ)
      → save_refusal settings held room ≡ no_refusal
      → OfMachine settings held
      → sites_words settings ≤ sites
      → coordinator_words settings ≤ coordinator
      → load_refusal (file_of settings held) sites coordinator ≡ no_refusal
  -- "an accepted file that is read and saved again has the same bytes"
  pub read_accepted : (file : List ℕ) (sites coordinator : ℕ)
      → AllBelow byte_range file
      → load_refusal file sites coordinator ≡ no_refusal
      → save_refusal (settings_in file) (held_in (settings_in file) file) (length file) ≡ no_refusal
  pub read_bytes : (file : List ℕ) (sites coordinator : ℕ)
      → AllBelow byte_range file
      → load_refusal file sites coordinator ≡ no_refusal
      → file_of (settings_in file) (held_in (settings_in file) file) ≡ file
