-- The decks of a file, as the tests read them.
--
--   record_number       a number of a deck's record, as the code reads it
--   read-back           a deck's memory, as the code reads it
--   deck_lies           where each deck lies
--   decks_step          the test of all decks: the first, and those behind it
--   Walked ..           so many decks passed, those that are left decide
use mathlib.Core.Path.{◌≡◌, sym, ap, ◌∙◌}
use mathlib.Core.Bool.{Bool, true, false, ◌&&◌}
use mathlib.Core.List.{List, ◌++◌}
use Prim.Native.Nat.{ℕ, suc, ◌+◌, ◌-◌, ◌*◌, ◌≤◌, ◌<◌}
use native.Mathlib.Nat.{mul-le-mul_right}
use native.Mathlib.Omega.{arith}
use lib.ListN.{length, get_or, take, drop}
use lib.Seq.{drop-drop, take_at, drop_at, length-take-le}
use Rattle.model.specs.declared.Settings.{Settings}
use Rattle.model.specs.declared.SiteRecord.{SiteRecord}
use Rattle.model.specs.SiteMemory.{site_words, site_consistent}
use Rattle.model.specs.NetworkMemory.{sites_consistent}
use Rattle.record_numbers.specs.Numbers.{site_width}
use Rattle.little_endian.specs.Numbers.{number_of, number_at, numbers_in}
use Rattle.little_endian.proofs.NumberLaws.{number_in, numbers_take, numbers_drop, length_numbers_in}
use Rattle.snapshot_file.specs.Layout.{deck_bytes, deck_count, decks_place_of}
use Rattle.snapshot_file.specs.Reading.{deck_in, deck_size, records_in, words_in}
use Rattle.snapshot_file.proofs.LayoutLaws.{length_of_decks}
use Rattle.snapshot_file.proofs.FrontLaws.{site_front}
use Rattle.snapshot_header.specs.Header.{WholeFile}
use Rattle.snapshot_decks.specs.Decks.{deck_record, deck_memory, DeckLies}

-- ---- One deck

module _ (settings : Settings) (file : List ℕ) (place : ℕ) where
  abbrev bytes : List ℕ
  bytes = drop place file

  pub record_number : (i at read : ℕ)
      → i < site_width
      → at ≡ place + deck_bytes * site_words settings
      → read ≡ number_at deck_bytes (at + deck_bytes * i) file
      → read ≡ get_or (drop (site_words settings) (deck_in settings bytes)) i 0
  record_number i at read inside at-is is =
      let words = site_words settings in
      is
      ∙ ap (λ (n : ℕ). number_at deck_bytes (n + deck_bytes * i) file) at-is
      ∙ ap (λ (l : List ℕ). number_of (take deck_bytes l))
      (sym (drop-drop (deck_bytes * i) (place + deck_bytes * words) file)
      ∙ ap (drop (deck_bytes * i)) (sym (drop-drop (deck_bytes * words) place file)))
      ∙ sym (number_in deck_bytes site_width i (drop (deck_bytes * words) bytes) inside)
      ∙ ap (λ (l : List ℕ). get_or l i 0) (sym (numbers_drop deck_bytes words site_width bytes))

  memory_there : (words : ℕ)
      → words ≡ site_words settings
      → numbers_in deck_bytes words bytes ≡ deck_memory settings bytes
  memory_there words is =
      ap (λ (n : ℕ). numbers_in deck_bytes n bytes) is
      ∙ sym (numbers_take deck_bytes (site_words settings) site_width bytes)

  -- What was read, at the front of numbers that are lent.
  pub read_back : (words : ℕ) (scratch last : List ℕ)
      → words ≡ site_words settings
      → site_words settings ≤ length scratch
      → last ≡ numbers_in deck_bytes (length (take words scratch)) bytes
      → take words (last ++ drop words scratch) ≡ deck_memory settings bytes
  read_back words scratch last is room read =
      let front : length (take words scratch) ≡ words =
      length-take-le words scratch (omega (arith, is, room)) in
      let long : length last ≡ words =
      ap length read ∙ length_numbers_in deck_bytes (length (take words scratch)) bytes ∙ front in
      take_at last (drop words scratch) words long
      ∙ read
      ∙ ap (λ (n : ℕ). numbers_in deck_bytes n bytes) front
      ∙ memory_there words is

-- ---- All decks

module _ (settings : Settings) where
  pub memory_long : (bytes : List ℕ) → length (deck_memory settings bytes) ≡ site_words settings
  memory_long bytes =
      length-take-le (site_words settings) (deck_in settings bytes)
      (omega (arith, length_numbers_in deck_bytes (deck_count settings) bytes))

  -- The decks' test from the front of bytes on, whatever records follow.
  abbrev pub test_of : List SiteRecord → ℕ → List ℕ → Bool
  test_of others k bytes =
      sites_consistent k settings (records_in k settings bytes ++ others)
      (words_in k settings bytes)

  pub decks_step : (others : List SiteRecord) (k : ℕ) (bytes : List ℕ)
      → test_of others (suc k) bytes
      ≡ (site_consistent settings (deck_record settings bytes) (deck_memory settings bytes)
      && test_of others k (drop (deck_size settings) bytes))
  decks_step others k bytes =
      let memory = deck_memory settings bytes in
      let rest = words_in k settings (drop (deck_size settings) bytes) in
      λ i. site_front settings (deck_record settings bytes) memory rest
      (omega (arith, memory_long bytes)) i
      && sites_consistent k settings
      (records_in k settings (drop (deck_size settings) bytes) ++ others)
      (drop_at memory rest (site_words settings) (memory_long bytes) i)

module _ (settings : Settings) (file : List ℕ) (others : List SiteRecord) where
  abbrev decks : List ℕ
  decks = drop (decks_place_of settings) file

  -- So many decks are passed.
  pub record Walked (j : ℕ) : Type 0 where
    pub within : j ≤ settings.sites
    pub rest_decides : test_of settings others settings.sites decks
        ≡ test_of settings others (settings.sites - j) (drop (j * deck_size settings) decks)

  pub walked_start : Walked 0
  walked_start =
      let none : 0 * deck_size settings ≡ 0 = omega arith in
      let all : settings.sites - 0 ≡ settings.sites = omega arith in
      record { within = omega arith; rest_decides = rw (none, all) }

  module _ (j : ℕ) (walked : Walked j) (inside : j < settings.sites) where
    -- The next deck, and those behind it.
    abbrev here : List ℕ
    here = drop (j * deck_size settings) decks

    -- The same bytes, as the code counts the place.
    pub here_is : (first size : ℕ)
        → first ≡ decks_place_of settings
        → size ≡ deck_size settings
        → drop (first + j * size) file ≡ here
    here_is first size first_is size_is =
        (λ i. drop (first_is i + j * size_is i) file)
        ∙ sym (drop-drop (j * deck_size settings) (decks_place_of settings) file)

    next : test_of settings others settings.sites decks
        ≡ (site_consistent settings (deck_record settings here) (deck_memory settings here)
        && test_of settings others (settings.sites - (j + 1))
        (drop ((j + 1) * deck_size settings) decks))
    next =
        let size = deck_size settings in
        let left : settings.sites - j ≡ suc (settings.sites - (j + 1)) = omega arith in
        let place : j * size + size ≡ (j + 1) * size = omega arith in
        walked.rest_decides
        ∙ ap (λ (k : ℕ). test_of settings others k here) left
        ∙ decks_step settings others (settings.sites - (j + 1)) here
        ∙ ap (λ (l : List ℕ).
        site_consistent settings (deck_record settings here) (deck_memory settings here)
        && test_of settings others (settings.sites - (j + 1)) l)
        (drop-drop size (j * size) decks ∙ ap (λ (n : ℕ). drop n decks) place)

    pub walked_on :
        site_consistent settings (deck_record settings here) (deck_memory settings here) ≡ true
        → Walked (j + 1)
    walked_on holds =
        record {
          within = omega arith;
          rest_decides = next
              ∙ ap (λ (b : Bool). b && test_of settings others (settings.sites - (j + 1))
              (drop ((j + 1) * deck_size settings) decks)) holds;
        }

    pub walked_off :
        site_consistent settings (deck_record settings here) (deck_memory settings here) ≡ false
        → test_of settings others settings.sites decks ≡ false
    walked_off fails =
        next
        ∙ ap (λ (b : Bool). b && test_of settings others (settings.sites - (j + 1))
        (drop ((j + 1) * deck_size settings) decks)) fails

  pub walked_end : (j : ℕ)
      → Walked j
      → settings.sites ≤ j
      → test_of settings others settings.sites decks ≡ true
  walked_end j walked past =
      let none : settings.sites - j ≡ 0 = omega arith in
      walked.rest_decides
      ∙ ap (λ (k : ℕ). test_of settings others k (drop (j * deck_size settings) decks)) none

  -- Where the deck lies, as the code counts it.
  pub deck_lies : WholeFile settings file
      → (j : ℕ)
      → j < settings.sites
      → DeckLies settings file (decks_place_of settings + j * deck_size settings)
  deck_lies whole j inside =
      let size = deck_size settings in
      let some : suc j ≤ settings.sites = omega arith in
      let most : suc j * size ≤ settings.sites * size = mul-le-mul_right size some in
      record {
        settings_accepted = whole.settings_accepted;
        within = omega (arith, most, whole.length_is, length_of_decks settings);
      }
