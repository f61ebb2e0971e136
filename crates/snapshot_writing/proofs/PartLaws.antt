-- The pieces of the desk part and the decks, written one after another.
--
--   numbers_append, numbers_written     numbers after numbers, as bytes, and written
--   desk_fits, desk_written             the desk part fits; its three pieces
--   length_decks, sections_more         the bytes of the first j decks; one deck more
--   deck_inside                         deck j lies within the bytes
--   Written, written_none, -more, -all  the first j decks are written
-- Letter: j a deck.
use mathlib.Core.Path.{◌≡◌, refl, sym, ap, ◌∙◌}
use mathlib.Core.List.{List, [], ◌∷◌, ◌++◌, append_assoc, append-nil}
use Prim.Native.Nat.{ℕ, zero, suc, ◌+◌, ◌*◌, ◌≤◌, ◌<◌}
use native.Mathlib.Nat.{mul-le-mul_right}
use native.Mathlib.Omega.{arith}
use lib.ListN.{length, get_or, take, drop, length-append, length-drop}
use lib.Seq.{length-take-le, drop-drop}
use Rattle.laws.specs.Writing.{written_at}
use Rattle.laws.proofs.Writing.{written_nothing, written_append}
use Rattle.model.specs.declared.Settings.{Settings}
use Rattle.model.specs.declared.SiteRecord.{SiteRecord}
use Rattle.model.specs.declared.CoordinatorRecord.{CoordinatorRecord}
use Rattle.model.specs.SiteMemory.{site_words}
use Rattle.model.specs.CoordinatorMemory.{coordinator_words}
use Rattle.model.specs.Held.{no_record}
use Rattle.record_numbers.specs.Numbers.{coordinator_numbers}
use Rattle.little_endian.specs.Numbers.{numbers_bytes}
use Rattle.little_endian.specs.Sections.{Section, section, sections_bytes}
use Rattle.little_endian.proofs.NumberLaws.{length_numbers_bytes}
use Rattle.little_endian.proofs.SectionLaws.{bytes_append}
use Rattle.snapshot_file.specs.Layout.{deck_bytes, desk_count, desk_place, decks_place_of}
use Rattle.snapshot_file.specs.File.{deck_numbers, deck_sections}
use Rattle.snapshot_file.specs.Reading.{deck_size}
use Rattle.snapshot_file.proofs.LayoutLaws.{length_deck, length_of_decks}
use Rattle.snapshot_writing.specs.Parts.{desk_row, TrailerAsks, DecksAsk}

-- ---- Numbers after numbers

pub numbers_append : (width : ℕ) (first second : List ℕ)
    → numbers_bytes width (first ++ second)
    ≡ numbers_bytes width first ++ numbers_bytes width second
numbers_append width [] second = refl
numbers_append width (n ∷ first) second = rw (numbers_append width first second, append_assoc)

pub numbers_written : (width place count : ℕ) (first second bytes : List ℕ)
    → length first ≡ count
    → place + width * count + width * length second ≤ length bytes
    → written_at (place + width * count) (numbers_bytes width second)
    (written_at place (numbers_bytes width first) bytes)
    ≡ written_at place (numbers_bytes width (first ++ second)) bytes
numbers_written width place count first second bytes counted fits =
    let long : length (numbers_bytes width first) ≡ width * count =
    length_numbers_bytes width first ∙ ap (λ (n : ℕ). width * n) counted in
    let room : place + length (numbers_bytes width first) + length (numbers_bytes width second)
    ≤ length bytes =
    omega (arith, long, length_numbers_bytes width second) in
    rw (
      ← long,
      written_append place (numbers_bytes width first) (numbers_bytes width second) bytes room,
      numbers_append width first second,
    )

-- ---- The desk part

pub desk_fits : (settings : Settings) (bytes : List ℕ)
    → TrailerAsks settings bytes
    → desk_place + 8 * desk_count settings ≤ length bytes
desk_fits settings bytes asks = omega (arith, asks.bytes_enough, length_of_decks settings)

-- The memory, the record and the counts of messages, with the words that the code counted.
pub desk_written : (settings : Settings) (coordinator : CoordinatorRecord) (words : ℕ)
    (counts memory bytes : List ℕ)
    → words ≡ coordinator_words settings
    → settings.sites ≤ length counts
    → coordinator_words settings ≤ length memory
    → TrailerAsks settings bytes
    → written_at (desk_place + 8 * words + 80) (numbers_bytes 8 (take settings.sites counts))
    (written_at (desk_place + 8 * words) (numbers_bytes 8 (coordinator_numbers coordinator))
    (written_at desk_place (numbers_bytes 8 (take words memory)) bytes))
    ≡ written_at desk_place (numbers_bytes 8 (desk_row settings coordinator counts memory)) bytes
desk_written settings coordinator words counts memory bytes words_are enough long asks =
    let first = take words memory in
    let second = coordinator_numbers coordinator in
    let third = take settings.sites counts in
    let fits = desk_fits settings bytes asks in
    let first-long : length first ≡ words =
    length-take-le words memory (omega (arith, words_are, long)) in
    let both_long : length (first ++ second) ≡ words + 10 =
    omega (arith, length-append first second, first-long) in
    let third-long = length-take-le settings.sites counts enough in
    let place : desk_place + 8 * words + 80 ≡ desk_place + 8 * (words + 10) = omega arith in
    (λ i. written_at (place i) (numbers_bytes 8 third)
    (numbers_written 8 desk_place words first second bytes first-long
    (omega (arith, words_are, fits)) i))
    ∙ numbers_written 8 desk_place (words + 10) (first ++ second) third bytes both_long
    (omega (arith, words_are, third-long, fits))
    ∙ ap (λ (l : List ℕ). written_at desk_place (numbers_bytes 8 l) bytes)
    (append_assoc first second third)
    ∙ ap (λ (n : ℕ). written_at desk_place (numbers_bytes 8 (take n memory ++ (second ++ third)))
    bytes) words_are

-- ---- The decks

pub length_decks : (j : ℕ) (settings : Settings) (records : List SiteRecord) (memory : List ℕ)
    → j ≤ length records
    → j * site_words settings ≤ length memory
    → length (sections_bytes (deck_sections j settings records memory)) ≡ j * deck_size settings
length_decks zero settings records memory enough long = omega arith
length_decks (suc j) settings [] memory enough long = absurd (omega arith)
length_decks (suc j) settings (first ∷ others) memory enough long =
    let numbers = deck_numbers settings first memory in
    let rest = drop (site_words settings) memory in
    omega (
      arith,
      length-append (numbers_bytes deck_bytes numbers)
          (sections_bytes (deck_sections j settings others rest)),
      length_numbers_bytes deck_bytes numbers,
      length_deck settings first memory (omega arith),
      length_decks j settings others rest (omega arith)
          (omega (arith, length-drop (site_words settings) memory)),
    )

-- The numbers of deck j, from its record and its own memory.
abbrev pub numbers_of : Settings → List SiteRecord → List ℕ → ℕ → List ℕ
numbers_of settings records memory j =
    deck_numbers settings (get_or records j no_record) (drop (j * site_words settings) memory)

-- One deck more.
pub sections_more : (j : ℕ) (settings : Settings) (records : List SiteRecord) (memory : List ℕ)
    → j < length records
    → deck_sections (suc j) settings records memory
    ≡ deck_sections j settings records memory
    ++ (section deck_bytes (numbers_of settings records memory j) ∷ [])
sections_more zero settings [] memory inside = absurd (omega arith)
sections_more zero settings (first ∷ others) memory inside =
    let none : 0 * site_words settings ≡ 0 = omega arith in rw none
sections_more (suc j) settings [] memory inside = absurd (omega arith)
sections_more (suc j) settings (first ∷ others) memory inside =
    let words = site_words settings in
    let next : words + j * words ≡ suc j * words = omega arith in
    let own : drop (j * words) (drop words memory) ≡ drop (suc j * words) memory =
    drop-drop (j * words) words memory ∙ ap (λ (n : ℕ). drop n memory) next in
    ap (λ (l : List Section). section deck_bytes (deck_numbers settings first memory) ∷ l)
    (sections_more j settings others (drop words memory) (omega arith)
    ∙ ap (λ (l : List ℕ). deck_sections j settings others (drop words memory)
    ++ (section deck_bytes (deck_numbers settings (get_or others j no_record) l) ∷ [])) own)

-- The decks before j, deck j itself, and the bytes.
pub deck_inside : (settings : Settings) (bytes : List ℕ) (j : ℕ)
    → TrailerAsks settings bytes
    → j < settings.sites
    → decks_place_of settings + j * deck_size settings + deck_size settings ≤ length bytes
deck_inside settings bytes j asks known =
    let more : suc j * deck_size settings ≤ settings.sites * deck_size settings =
    mul-le-mul_right (deck_size settings) known in
    omega (arith, more, asks.bytes_enough, length_of_decks settings)

-- The first j decks are written, and nothing else.
module _ (settings : Settings) (records : List SiteRecord) (memory before : List ℕ) where
  abbrev first_bytes : ℕ → List ℕ
  first_bytes j = sections_bytes (deck_sections j settings records memory)

  abbrev own_bytes : ℕ → List ℕ
  own_bytes j = numbers_bytes deck_bytes (numbers_of settings records memory j)

  pub record Written (bytes : List ℕ) (j : ℕ) : Type 0 where
    pub within : j ≤ settings.sites
    pub same_length : length bytes ≡ length before
    pub bytes_are : bytes ≡ written_at (decks_place_of settings) (first_bytes j) before

  pub written_none : Written before 0
  written_none = record {
    within = omega arith;
    same_length = refl;
    bytes_are = sym (written_nothing (decks_place_of settings) before);
  }

  bytes_more : (j : ℕ) → j < length records → first_bytes j ++ own_bytes j ≡ first_bytes (j + 1)
  bytes_more j inside =
      let own = section deck_bytes (numbers_of settings records memory j) ∷ [] in
      let next : suc j ≡ j + 1 = omega arith in
      ap (λ (l : List ℕ). first_bytes j ++ l) (sym (append-nil (own_bytes j)))
      ∙ sym (bytes_append (deck_sections j settings records memory) own)
      ∙ ap sections_bytes (sym (sections_more j settings records memory inside))
      ∙ ap first_bytes next

  module _ (asks : DecksAsk settings memory before) (all : settings.sites ≤ length records) (j : ℕ)
    where
      length_own : j < settings.sites → length (own_bytes j) ≡ deck_size settings
      length_own known =
          let words = site_words settings in
          let more : suc j * words ≤ settings.sites * words = mul-le-mul_right words known in
          length_numbers_bytes deck_bytes (numbers_of settings records memory j)
          ∙ ap (λ (n : ℕ). deck_bytes * n)
          (length_deck settings (get_or records j no_record) (drop (j * words) memory)
          (omega (arith, more, asks.memory_long, length-drop (j * words) memory)))

      length_first : j ≤ settings.sites → length (first_bytes j) ≡ j * deck_size settings
      length_first within =
          let words = site_words settings in
          let more : j * words ≤ settings.sites * words = mul-le-mul_right words within in
          length_decks j settings records memory (omega arith)
          (omega (arith, more, asks.memory_long))

      module _ {bytes : List ℕ} (written : Written bytes j) where
        pub written_more : {after : List ℕ}
            → j < settings.sites
            → length after ≡ length bytes
            → after ≡ written_at (decks_place_of settings + j * deck_size settings) (own_bytes j)
            bytes
            → Written after (j + 1)
        written_more {after} known kept is =
            let place = decks_place_of settings in
            let long = length_first written.within in
            let own-long = length_own known in
            let inside = deck_inside settings before j asks.file_fits known in
            record {
              within = omega arith;
              same_length = kept ∙ written.same_length;
              bytes_are =
                  is
                  ∙ (λ i. written_at (place + sym long i) (own_bytes j) (written.bytes_are i))
                  ∙ written_append place (first_bytes j) (own_bytes j) before
                  (omega (arith, long, own-long, inside))
                  ∙ ap (λ (l : List ℕ). written_at place l before) (bytes_more j (omega arith));
            }

        pub written_all : settings.sites ≤ j
            → bytes ≡ written_at (decks_place_of settings) (first_bytes settings.sites) before
        written_all done =
            let last : j ≡ settings.sites = omega (arith, written.within) in
            written.bytes_are
            ∙ ap (λ (n : ℕ). written_at (decks_place_of settings) (first_bytes n) before) last
