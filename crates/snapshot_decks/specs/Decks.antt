-- What the tests of the decks of a file require and promise (request N3): refusal 11 of each deck,
-- told from the bytes.
--
--   deck_record, deck_memory   a deck at the front of bytes: its record, and its memory
--   DeckLies                   a deck within the file, from a place on
--   DeckAsks, DecksAsk         the same with numbers that are lent for its memory; all decks
--   decks_in settings file     the bytes from the first deck on
use Rattle.std.specs.Prelude.{◌≡◌, List, ℕ, ◌+◌, ◌≤◌, length, take, drop}
use Rattle.model.specs.declared.Settings.{Settings}
use Rattle.model.specs.declared.SiteRecord.{SiteRecord}
use Rattle.model.specs.Refusals.{no_refusal}
use Rattle.model.specs.Settings.{settings_refusal}
use Rattle.model.specs.SiteMemory.{site_words}
use Rattle.record_numbers.specs.Numbers.{site_from}
use Rattle.snapshot_file.specs.Layout.{decks_place_of}
use Rattle.snapshot_file.specs.Reading.{deck_in, deck_size}
use Rattle.snapshot_header.specs.Header.{WholeFile}

abbrev pub deck_record : Settings → List ℕ → SiteRecord
deck_record settings bytes = site_from (drop (site_words settings) (deck_in settings bytes))

abbrev pub deck_memory : Settings → List ℕ → List ℕ
deck_memory settings bytes = take (site_words settings) (deck_in settings bytes)

abbrev pub decks_in : Settings → List ℕ → List ℕ
decks_in settings file = drop (decks_place_of settings) file

pub record DeckLies (settings : Settings) (file : List ℕ) (place : ℕ) : Type 0 where
  pub settings_accepted : settings_refusal settings ≡ no_refusal
  pub within : place + deck_size settings ≤ length file

-- And numbers for its memory.
pub record DeckAsks (settings : Settings) (file : List ℕ) (place : ℕ) (scratch : List ℕ) : Type 0
  where
    pub lies : DeckLies settings file place
    pub room : site_words settings ≤ length scratch

-- The whole file, and numbers for the memory of a deck.
pub record DecksAsk (settings : Settings) (file scratch : List ℕ) : Type 0 where
  pub whole : WholeFile settings file
  pub room : site_words settings ≤ length scratch
