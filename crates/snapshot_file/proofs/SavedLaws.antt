-- What is saved is read back: the settings, the desk part, and deck after deck.
--
--   sections_back            the sections that the file says are those of the bench
--   decks-back               records and memory of the decks, one after another
--   settings_back, bench_back
use mathlib.Core.Path.{◌≡◌, refl, sym, ap, ◌∙◌, subst}
use mathlib.Core.List.{List, [], ◌∷◌, ◌++◌}
use Prim.Native.Nat.{ℕ, zero, suc, ◌+◌, ◌-◌, ◌*◌, ◌≤◌}
use native.Mathlib.Omega.{arith}
use lib.ListN.{length, get_or, take, drop, replicate, length-drop}
use lib.Seq.{take_at, drop_at, length-take-le, take-add, drop-drop}
use Rattle.model.specs.declared.Settings.{Settings}
use Rattle.model.specs.declared.SiteRecord.{SiteRecord}
use Rattle.model.specs.Limits.{most_sites}
use Rattle.model.specs.Site.{fresh_site}
use Rattle.model.specs.SiteMemory.{site_words, site_record}
use Rattle.model.specs.CoordinatorMemory.{coordinator_words}
use Rattle.model.specs.Held.{Held, held_by}
use Rattle.record_numbers.specs.Numbers.{site_numbers, site_from, settings_from, coordinator_numbers, coordinator_from, coordinator_width}
use Rattle.record_numbers.proofs.Inverse.{coordinator_back}
use Rattle.little_endian.specs.Numbers.{little_endian}
use Rattle.little_endian.specs.Sections.{Section, section, Shape, sections_bytes, sections_in}
use Rattle.little_endian.proofs.SectionLaws.{sections_read_of_written}
use Rattle.checksum.specs.Sums.{byte_sum}
use Rattle.snapshot_file.specs.Layout.{sum_bytes, desk_place, decks_place_of, desk_count, deck_shape, trailer_shapes, file_shapes}
use Rattle.snapshot_file.specs.File.{own_counts, desk_numbers, deck_numbers, deck_sections, trailer_sections, file_sections, file_of}
use Rattle.snapshot_file.specs.Reading.{settings_in, desk_in, desk_record, counts_in, deck_in, deck_size, records_in, words_in, held_in}
use Rattle.snapshot_file.specs.Claims.{OfMachine, closed}
use Rattle.snapshot_file.proofs.LayoutLaws.{file_shapes_lem}
use Rattle.snapshot_file.proofs.FitLaws.{Passed, long_of, all_fit}

-- The numbers of a section, by its place among sections.
abbrev numbers_of : ℕ → List Section → List ℕ
numbers_of i sections = (get_or sections i (section 0 [])).numbers

-- ---- The decks

-- Both parts of a deck's numbers.
module _ (settings : Settings) (numbers : SiteRecord) (memory : List ℕ)
    (long : site_words settings ≤ length memory) where
  front_long : length (take (site_words settings) memory) ≡ site_words settings
  front_long = length-take-le (site_words settings) memory long

  deck_memory : take (site_words settings) (deck_numbers settings numbers memory)
      ≡ take (site_words settings) memory
  deck_memory =
      take_at (take (site_words settings) memory) (site_numbers numbers) (site_words settings)
      front_long

  deck_record : drop (site_words settings) (deck_numbers settings numbers memory)
      ≡ site_numbers numbers
  deck_record =
      drop_at (take (site_words settings) memory) (site_numbers numbers) (site_words settings)
      front_long

module _ (settings : Settings) (shapes : List Shape) (others : List Section) where
  -- Sections of k decks, and others behind them, as bytes say them.
  abbrev Says : ℕ → List ℕ → List SiteRecord → List ℕ → Type 0
  Says k bytes records memory =
      sections_in (replicate k (deck_shape settings) ++ shapes) bytes
      ≡ deck_sections k settings records memory ++ others

  pub records_back : (k : ℕ) (bytes : List ℕ) (records : List SiteRecord) (memory : List ℕ)
      → k ≤ length records
      → k * site_words settings ≤ length memory
      → Says k bytes records memory
      → records_in k settings bytes ≡ take k records
  records_back zero bytes records memory enough long says = refl
  records_back (suc k) bytes [] memory enough long says = absurd (omega arith)
  records_back (suc k) bytes (first ∷ rest) memory enough long says =
      let deck : deck_in settings bytes ≡ deck_numbers settings first memory =
      ap (numbers_of 0) says in
      let own = ap (drop (site_words settings)) deck
      ∙ deck_record settings first memory (omega arith) in
      let more = records_back k (drop (deck_size settings) bytes) rest
      (drop (site_words settings) memory) (omega arith)
      (omega (arith, length-drop (site_words settings) memory)) (ap (drop 1) says) in
      λ i. site_from (own i) ∷ more i

  pub words_back : (k : ℕ) (bytes : List ℕ) (records : List SiteRecord) (memory : List ℕ)
      → k ≤ length records
      → k * site_words settings ≤ length memory
      → Says k bytes records memory
      → words_in k settings bytes ≡ take (k * site_words settings) memory
  words_back zero bytes records memory enough long says =
      let none : 0 * site_words settings ≡ 0 = omega arith in rw none
  words_back (suc k) bytes [] memory enough long says = absurd (omega arith)
  words_back (suc k) bytes (first ∷ rest) memory enough long says =
      let words = site_words settings in
      let deck : deck_in settings bytes ≡ deck_numbers settings first memory =
      ap (numbers_of 0) says in
      let own = ap (take words) deck ∙ deck_memory settings first memory (omega arith) in
      let more = words_back k (drop (deck_size settings) bytes) rest (drop words memory)
      (omega arith) (omega (arith, length-drop words memory)) (ap (drop 1) says) in
      let next : words + k * words ≡ suc k * words = omega arith in
      (λ i. own i ++ more i)
      ∙ sym (take-add words (k * words) memory)
      ∙ ap (λ (n : ℕ). take n memory) next

-- ---- The file

module _ (settings : Settings) (held : Held) (room : ℕ) (p : Passed settings held room)
    (machine : OfMachine settings held) where
  abbrev file : List ℕ
  file = file_of settings held

  sections_back : sections_in (file_shapes settings) file ≡ file_sections settings held
  sections_back =
      let sections = file_sections settings held in
      let bytes = sections_bytes sections in
      subst (λ (shapes : List Shape). sections_in shapes file ≡ sections)
      (file_shapes_lem settings held (long_of settings held room p machine))
      (sections_read_of_written sections (little_endian sum_bytes (byte_sum bytes))
      (all_fit settings held room p machine))

  pub settings_back : settings_in file ≡ settings
  settings_back = ap (λ (s : List Section). settings_from (numbers_of 0 s)) sections_back

  pub desk_back : desk_in settings file ≡ desk_numbers settings held
  desk_back = ap (numbers_of 1) sections_back

  decks_say : Says settings trailer_shapes (trailer_sections settings) settings.sites
      (drop (decks_place_of settings) file) held.sites.records held.site_memory
  decks_say =
      let behind : drop (8 * desk_count settings) (drop desk_place file)
      ≡ drop (decks_place_of settings) file =
      let place : desk_place + 8 * desk_count settings ≡ decks_place_of settings = omega arith in
      drop-drop (8 * desk_count settings) desk_place file ∙ ap (λ (n : ℕ). drop n file) place in
      subst (λ (bytes : List ℕ).
      Says settings trailer_shapes (trailer_sections settings) settings.sites bytes
      held.sites.records held.site_memory)
      behind (ap (drop 2) sections_back)

  -- Memory, record and counts of the desk part.
  memory_front : length (take (coordinator_words settings) held.coordinator_memory)
      ≡ coordinator_words settings
  memory_front =
      length-take-le (coordinator_words settings) held.coordinator_memory p.coordinator_long

  pub record_back : desk_record settings file
      ≡ coordinator_numbers held.coordinator ++ own_counts settings held
  record_back =
      ap (drop (coordinator_words settings)) desk_back
      ∙ drop_at (take (coordinator_words settings) held.coordinator_memory) _
      (coordinator_words settings) memory_front

  pub bench_back : held_in settings file ≡ closed settings held
  bench_back =
      let long = long_of settings held room p machine in
      let k = settings.sites in
      let records = records_back settings trailer_shapes (trailer_sections settings) k
      (drop (decks_place_of settings) file) held.sites.records held.site_memory
      long.records_enough long.sites_long decks_say in
      let words = words_back settings trailer_shapes (trailer_sections settings) k
      (drop (decks_place_of settings) file) held.sites.records held.site_memory
      long.records_enough long.sites_long decks_say in
      let counts : counts_in settings file ≡ own_counts settings held =
      ap (drop coordinator_width) record_back in
      let coordinator : coordinator_from (desk_record settings file) ≡ held.coordinator =
      ap coordinator_from record_back
      ∙ coordinator_back held.coordinator (own_counts settings held) in
      let memory : take (coordinator_words settings) (desk_in settings file)
      ≡ take (coordinator_words settings) held.coordinator_memory =
      ap (take (coordinator_words settings)) desk_back
      ∙ take_at (take (coordinator_words settings) held.coordinator_memory) _
      (coordinator_words settings) memory_front in
      λ i. held_by (record {
        records = records i ++ replicate (most_sites - k) (site_record fresh_site);
        messages = counts i ++ replicate (most_sites - k) 0;
      })
      (coordinator i) (words i) (memory i)
