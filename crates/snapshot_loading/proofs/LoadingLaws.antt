-- What a file says, stored number after number.
--
--   desk_memory          the coordinator's memory, as the code reads it
--   words_from ..        the decks' memory by the numbers that the code computed
--   words_stored         one deck's memory more, right after those stored
--   words_end            all of them, in front of what was there
--   Recording ..         the decks' records, over 32 fresh ones
--   Counting ..          their counts of messages, over 32 zeros
use mathlib.Core.Path.{◌≡◌, refl, sym, ap, ◌∙◌, subst}
use mathlib.Core.List.{List, [], ◌∷◌, ◌++◌, append_assoc, append-nil}
use Prim.Native.Nat.{ℕ, zero, suc, ◌+◌, ◌-◌, ◌*◌, ◌≤◌, ◌<◌}
use native.Mathlib.Omega.{arith}
use lib.ListN.{length, take, drop, set, replicate, length-append, length-replicate}
use lib.Seq.{take_at, drop_at, drop-drop, take-suc, take_all, length-take-le}
use Rattle.laws.proofs.Fronts.{Growing, growing_begins, growing_on, growing_ends}
use Rattle.model.specs.declared.Settings.{Settings}
use Rattle.model.specs.declared.SiteRecord.{SiteRecord}
use Rattle.model.specs.Limits.{most_sites}
use Rattle.model.specs.Site.{fresh_site}
use Rattle.model.specs.SiteMemory.{site_words, site_record, overwrite}
use Rattle.model.specs.CoordinatorMemory.{coordinator_words}
use Rattle.model.specs.MessageCounts.{count_at}
use Rattle.record_numbers.specs.Numbers.{site_width, coordinator_width}
use Rattle.little_endian.specs.Numbers.{numbers_in}
use Rattle.little_endian.proofs.NumberLaws.{numbers_take, length_numbers_in}
use Rattle.snapshot_file.specs.Layout.{desk_bytes, deck_bytes, desk_count, desk_place, decks_place_of}
use Rattle.snapshot_file.specs.Reading.{desk_in, counts_in, deck_size, records_in, words_in}
use Rattle.snapshot_header.proofs.HeaderLaws.{desk_counts}
use Rattle.snapshot_decks.specs.Decks.{deck_record}

-- ---- The coordinator's memory

pub desk_memory : (settings : Settings) (file : List ℕ) (words : ℕ)
    → words ≡ coordinator_words settings
    → numbers_in desk_bytes words (drop desk_place file)
    ≡ take (coordinator_words settings) (desk_in settings file)
desk_memory settings file words are =
    let beside = coordinator_width + settings.sites in
    let count : desk_count settings ≡ coordinator_words settings + beside = omega arith in
    ap (λ (n : ℕ). numbers_in desk_bytes n (drop desk_place file)) are
    ∙ sym (ap (λ (n : ℕ). take (coordinator_words settings) (numbers_in desk_bytes n
    (drop desk_place file))) count
    ∙ numbers_take desk_bytes (coordinator_words settings) beside (drop desk_place file))

-- ---- The decks' memory

module _ (words size : ℕ) where
  -- So many numbers at the front of each of j decks of this size.
  abbrev pub words_from : ℕ → List ℕ → List ℕ
  words_from zero bytes = []
  words_from (suc j) bytes = numbers_in deck_bytes words bytes ++ words_from j (drop size bytes)

  pub length_words : (j : ℕ) (bytes : List ℕ) → length (words_from j bytes) ≡ j * words
  length_words zero bytes = omega arith
  length_words (suc j) bytes =
      omega (
        arith,
        length-append (numbers_in deck_bytes words bytes) (words_from j (drop size bytes)),
        length_numbers_in deck_bytes words bytes,
        length_words j (drop size bytes),
      )

  -- One deck more.
  words_more : (j : ℕ) (bytes : List ℕ)
      → words_from (suc j) bytes
      ≡ words_from j bytes ++ numbers_in deck_bytes words (drop (j * size) bytes)
  words_more zero bytes =
      let none : 0 * size ≡ 0 = omega arith in
      rw none (append-nil (numbers_in deck_bytes words bytes))
  words_more (suc j) bytes =
      let next : size + j * size ≡ suc j * size = omega arith in
      let front = numbers_in deck_bytes words bytes in
      ap (λ (l : List ℕ). front ++ l)
      (words_more j (drop size bytes)
      ∙ ap (λ (l : List ℕ). words_from j (drop size bytes) ++ numbers_in deck_bytes words l)
      (drop-drop (j * size) size bytes ∙ ap (λ (n : ℕ). drop n bytes) next))
      ∙ sym (append_assoc front (words_from j (drop size bytes))
      (numbers_in deck_bytes words (drop (suc j * size) bytes)))

  -- A turn of the loop that stores them: the part of the next deck is read from the file.
  pub words_stored : (j first : ℕ) (file memory₀ memory part : List ℕ)
      → memory ≡ words_from j (drop first file) ++ drop (j * words) memory₀
      → part ≡ numbers_in deck_bytes words (drop (first + j * size) file)
      → take (j * words) memory ++ (part ++ drop (j * words + words) memory)
      ≡ words_from (j + 1) (drop first file) ++ drop ((j + 1) * words) memory₀
  words_stored j first file memory₀ memory part memory_is part_is =
      let bytes = drop first file in
      let front = words_from j bytes in
      let rest = drop (j * words) memory₀ in
      let long : length front ≡ j * words = length_words j bytes in
      let kept : take (j * words) memory ≡ front =
      ap (take (j * words)) memory_is ∙ take_at front rest (j * words) long in
      let behind : drop (j * words) memory ≡ rest =
      ap (drop (j * words)) memory_is ∙ drop_at front rest (j * words) long in
      let place : j * words + words ≡ (j + 1) * words = omega arith in
      let left : drop (j * words + words) memory ≡ drop ((j + 1) * words) memory₀ =
      sym (drop-drop words (j * words) memory)
      ∙ ap (drop words) behind
      ∙ drop-drop words (j * words) memory₀
      ∙ ap (λ (n : ℕ). drop n memory₀) place in
      let read : part ≡ numbers_in deck_bytes words (drop (j * size) bytes) =
      part_is ∙ ap (numbers_in deck_bytes words) (sym (drop-drop (j * size) first file)) in
      let more : j + 1 ≡ suc j = omega arith in
      (λ i. kept i ++ (read i ++ left i))
      ∙ sym (append_assoc front (numbers_in deck_bytes words (drop (j * size) bytes))
      (drop ((j + 1) * words) memory₀))
      ∙ ap (λ (l : List ℕ). l ++ drop ((j + 1) * words) memory₀) (sym (words_more j bytes))
      ∙ ap (λ (n : ℕ). words_from n bytes ++ drop ((j + 1) * words) memory₀) (sym more)

-- They are what the file says.
pub words_are : (k : ℕ) (settings : Settings) (bytes : List ℕ)
    → words_from (site_words settings) (deck_size settings) k bytes ≡ words_in k settings bytes
words_are zero settings bytes = refl
words_are (suc k) settings bytes =
    let own = sym (numbers_take deck_bytes (site_words settings) site_width bytes) in
    λ i. own i ++ words_are k settings (drop (deck_size settings) bytes) i

-- All that was stored, in front of what was there.
pub words_end : (settings : Settings) (file memory₀ memory : List ℕ) (words size first j : ℕ)
    → words ≡ site_words settings
    → size ≡ deck_size settings
    → first ≡ decks_place_of settings
    → j ≡ settings.sites
    → memory ≡ words_from words size j (drop first file) ++ drop (j * words) memory₀
    → memory ≡ overwrite (words_in settings.sites settings (drop (decks_place_of settings) file))
    memory₀
words_end settings file memory₀ memory words size first j words-are-so size_is first_is all is =
    let k = settings.sites in
    let bytes = drop (decks_place_of settings) file in
    let front = words_are k settings bytes in
    let long : k * site_words settings ≡ length (words_in k settings bytes) =
    sym (ap length (sym front) ∙ length_words (site_words settings) (deck_size settings) k bytes) in
    is
    ∙ (λ i. words_from (words-are-so i) (size_is i) (all i) (drop (first_is i) file)
    ++ drop (all i * words-are-so i) memory₀)
    ∙ (λ i. front i ++ drop (long i) memory₀)

-- ---- The decks' records

records_more : (settings : Settings) (j : ℕ) (bytes : List ℕ)
    → records_in j settings bytes ++ (deck_record settings (drop (j * deck_size settings) bytes) ∷
    [])
    ≡ records_in (suc j) settings bytes
records_more settings zero bytes =
    let none : 0 * deck_size settings ≡ 0 = omega arith in rw none
records_more settings (suc j) bytes =
    let size = deck_size settings in
    let next : size + j * size ≡ suc j * size = omega arith in
    ap (λ (l : List SiteRecord). deck_record settings bytes ∷ l)
    (ap (λ (l : List ℕ). records_in j settings (drop size bytes) ++ (deck_record settings l ∷ []))
    (sym (drop-drop (j * size) size bytes ∙ ap (λ (n : ℕ). drop n bytes) next))
    ∙ records_more settings j (drop size bytes))

length_records : (settings : Settings) (j : ℕ) (bytes : List ℕ)
    → length (records_in j settings bytes) ≡ j
length_records settings zero bytes = refl
length_records settings (suc j) bytes =
    ap suc (length_records settings j (drop (deck_size settings) bytes))

-- What is left of equal elements.
rest_of : {A : Type 0} (n k : ℕ) (r : A) → k ≤ n → drop k (replicate n r) ≡ replicate (n - k) r
rest_of n zero r few =
    let all : n - 0 ≡ n = omega arith in rw all
rest_of zero (suc k) r few = absurd (omega arith)
rest_of (suc n) (suc k) r few =
    let less : suc n - suc k ≡ n - k = omega arith in
    rest_of n k r (omega arith) ∙ ap (λ (m : ℕ). replicate m r) (sym less)

abbrev fresh : SiteRecord
fresh = site_record fresh_site

module _ (settings : Settings) (file : List ℕ) where
  abbrev decks : List ℕ
  decks = drop (decks_place_of settings) file

  -- 32 fresh records, over which those of the file are written.
  abbrev pub Recording : List SiteRecord → ℕ → Type 0
  Recording =
      Growing (λ (n : ℕ). records_in n settings decks) (replicate most_sites fresh)
      settings.sites

  pub recording_begins : Recording (replicate most_sites fresh) 0
  recording_begins = growing_begins _ _ _ refl

  pub recording_on : (records : List SiteRecord) (j first size : ℕ) (record_read : SiteRecord)
      → Recording records j
      → j < settings.sites
      → settings.sites ≤ most_sites
      → first ≡ decks_place_of settings
      → size ≡ deck_size settings
      → record_read ≡ deck_record settings (drop (first + j * size) file)
      → Recording (set records j record_read) (j + 1)
  recording_on records j first size record_read recording inside few first_is size_is is =
      let here : drop (first + j * size) file ≡ drop (j * deck_size settings) decks =
      (λ i. drop (first_is i + j * size_is i) file)
      ∙ sym (drop-drop (j * deck_size settings) (decks_place_of settings) file) in
      let found = is ∙ ap (deck_record settings) here in
      let more : suc j ≡ j + 1 = omega arith in
      subst (λ (r : SiteRecord). Recording (set records j r) (j + 1)) (sym found)
      (growing_on (λ (n : ℕ). records_in n settings decks) (replicate most_sites fresh)
      settings.sites records j recording j
      (deck_record settings (drop (j * deck_size settings) decks) ∷ []) inside
      (length_records settings j decks)
      (omega (arith, length-replicate most_sites fresh, few))
      (records_more settings j decks ∙ ap (λ (n : ℕ). records_in n settings decks) more) refl)

  pub recording_ends : (records : List SiteRecord) (j : ℕ)
      → Recording records j
      → settings.sites ≤ j
      → settings.sites ≤ most_sites
      → records
      ≡ records_in settings.sites settings decks
      ++ replicate (most_sites - settings.sites) fresh
  recording_ends records j recording past few =
      let k = settings.sites in
      let front = records_in k settings decks in
      growing_ends (λ (n : ℕ). records_in n settings decks) (replicate most_sites fresh) k records j
      recording past
      ∙ ap (λ (l : List SiteRecord). front ++ l)
      (ap (λ (n : ℕ). drop n (replicate most_sites fresh)) (length_records settings k decks)
      ∙ rest_of most_sites k fresh few)

-- ---- The decks' counts of messages

module _ (settings : Settings) (file : List ℕ) where
  abbrev k : ℕ
  k = settings.sites

  abbrev counts : List ℕ
  counts = counts_in settings file

  length_counts : length counts ≡ k
  length_counts =
      let first = desk_place + desk_bytes * (coordinator_words settings + coordinator_width) in
      ap length (desk_counts settings file) ∙ length_numbers_in desk_bytes k (drop first file)

  -- 32 zeros, over which those of the file are written.
  abbrev pub Counting : List ℕ → ℕ → Type 0
  Counting = Growing (λ (n : ℕ). take n counts) (replicate most_sites 0) k

  pub counting_begins : Counting (replicate most_sites 0) 0
  counting_begins = growing_begins _ _ _ refl

  pub counting_on : (now : List ℕ) (j read : ℕ)
      → Counting now j
      → j < k
      → k ≤ most_sites
      → read ≡ count_at counts j
      → Counting (set now j read) (j + 1)
  counting_on now j read counting inside few is =
      let zeros = length-replicate {A = ℕ} most_sites 0 in
      let more : suc j ≡ j + 1 = omega arith in
      growing_on (λ (n : ℕ). take n counts) (replicate most_sites 0) k now j counting j
      (count_at counts j ∷ []) inside
      (length-take-le j counts (omega (arith, length_counts)))
      (omega (arith, zeros, few))
      (sym (take-suc counts j 0 (omega (arith, length_counts)))
      ∙ ap (λ (n : ℕ). take n counts) more)
      (ap (λ (n : ℕ). set now j n) is)

  pub counting_ends : (now : List ℕ) (j : ℕ)
      → Counting now j
      → k ≤ j
      → k ≤ most_sites
      → now ≡ counts ++ replicate (most_sites - k) 0
  counting_ends now j counting past few =
      let all : take k counts ≡ counts = take_all k counts (omega (arith, length_counts)) in
      growing_ends (λ (n : ℕ). take n counts) (replicate most_sites 0) k now j counting past
      ∙ (λ i. all i ++ drop (length (all i)) (replicate most_sites 0))
      ∙ ap (λ (l : List ℕ). counts ++ l)
      (ap (λ (n : ℕ). drop n (replicate most_sites 0)) length_counts ∙ rest_of most_sites k 0 few)
