-- What is read is saved again with the same bytes: the sections that a file says are those of the
-- bench that it holds.
--
--   Accepted, accepted_of    what an accepted reading is worth
--   decks_again              deck after deck
--   sections_again           all sections
--   bytes_again              the whole file, its sum too
use mathlib.Core.Path.{◌≡◌, refl, sym, ap, ◌∙◌}
use mathlib.Core.Bool.{true, ◌||◌, not}
use mathlib.Core.List.{List, [], ◌∷◌, ◌++◌}
use Prim.Native.Nat.{ℕ, zero, suc, ◌+◌, ◌-◌, ◌*◌, ◌≤◌}
use native.Mathlib.Omega.{arith}
use lib.Dec.{ltb, eqb}
use lib.ListN.{length, take, drop, replicate, length-drop, take-append-drop}
use lib.Seq.{take_at, drop_at, length-take-le, take_all, drop-drop, take-take}
use borrow.Author.Tests.{ltb-false, eqb-true, not-false}
use Rattle.laws.proofs.Tests.{neither_of_or}
use Rattle.model.specs.declared.Settings.{Settings}
use Rattle.model.specs.declared.SiteRecord.{SiteRecord}
use Rattle.model.specs.Refusals.{no_refusal, memory_too_short, file_unreadable, checksum_wrong}
use Rattle.model.specs.Limits.{most_sites}
use Rattle.model.specs.Settings.{settings_refusal}
use Rattle.model.specs.SiteMemory.{site_words}
use Rattle.model.specs.CoordinatorMemory.{coordinator_words}
use Rattle.model.specs.NetworkMemory.{sites_words}
use Rattle.model.specs.Held.{Held, held_consistent}
use Rattle.model.proofs.Thresholds.RefusalLaws.{both_accepted, passed}
use Rattle.model.proofs.Thresholds.TestedMemory.{consistent_of}
use Rattle.record_numbers.specs.Numbers.{site_width, site_numbers, site_from, settings_width, settings_numbers, coordinator_width, coordinator_numbers, coordinator_from, phase_well_in}
use Rattle.record_numbers.proofs.Inverse.{settings_same, site_same, coordinator_whole}
use Rattle.little_endian.specs.Numbers.{byte_range, little_endian, number_of, numbers_in, AllBelow}
use Rattle.little_endian.specs.Sections.{section, Shape, size_of, sections_bytes, sections_in}
use Rattle.little_endian.proofs.NumberLaws.{length_numbers_in, written_of_read, all_below_drop}
use Rattle.little_endian.proofs.SectionLaws.{sections_written_of_read}
use Rattle.checksum.specs.Sums.{byte_sum}
use Rattle.snapshot_file.specs.Layout.{desk_bytes, deck_bytes, sum_bytes, desk_count, deck_count, deck_shape, bench_shapes, trailer_shapes, file_shapes, desk_place, decks_place_of, file_length, least_length, trailer_length}
use Rattle.snapshot_file.specs.File.{own_counts, desk_numbers, deck_sections, bench_sections, trailer_sections, file_sections, file_of}
use Rattle.snapshot_file.specs.Reading.{settings_in, desk_in, desk_record, counts_in, deck_in, deck_size, records_in, words_in, held_in, shape_wrong, layout_wrong, load_refusal, desk_pointer, decks_pointer, width_in, sum_in, unsummed}
use Rattle.snapshot_file.proofs.LayoutLaws.{size_bench}

-- ---- What an accepted reading is worth

pub record Accepted (file : List ℕ) (sites coordinator : ℕ) : Type 0 where
  pub long : least_length ≤ length file
  pub width_is : width_in file ≡ deck_bytes
  pub sum_is : byte_sum (unsummed file) ≡ sum_in file
  pub settings_accepted : settings_refusal (settings_in file) ≡ no_refusal
  pub desk_is : desk_pointer file ≡ desk_place
  pub decks_is : decks_pointer file ≡ decks_place_of (settings_in file)
  pub length_is : length file ≡ file_length (settings_in file)
  pub phase_well_lem : phase_well_in (desk_record (settings_in file) file) ≡ true
  pub sites_enough : sites_words (settings_in file) ≤ sites
  pub coordinator_enough : coordinator_words (settings_in file) ≤ coordinator
  pub consistent : held_consistent (settings_in file) (held_in (settings_in file) file) ≡ true

pub accepted_of : (file : List ℕ) (sites coordinator : ℕ)
    → load_refusal file sites coordinator ≡ no_refusal
    → Accepted file sites coordinator
accepted_of file sites coordinator none =
    let settings = settings_in file in
    let shape = passed (shape_wrong file) file_unreadable _ (omega arith) none in
    let sums = passed (not (eqb (byte_sum (unsummed file)) (sum_in file))) checksum_wrong _
    (omega arith) shape.later_accepted in
    let chain = both_accepted (settings_refusal settings) _ sums.later_accepted in
    let layout = passed (layout_wrong settings file) file_unreadable _ (omega arith)
    chain.later_accepted in
    let short = passed
    (ltb sites (sites_words settings) || ltb coordinator (coordinator_words settings))
    memory_too_short _ (omega arith) layout.later_accepted in
    let two = neither_of_or (ltb (length file) least_length) _ shape.test_failed in
    let phase = neither_of_or _ (not (phase_well_in (desk_record settings file)))
    layout.test_failed in
    let whole = neither_of_or _ (not (eqb (length file) (file_length settings)))
    phase.first_false in
    let pointers = neither_of_or (not (eqb (desk_pointer file) desk_place)) _
    whole.first_false in
    let lent = neither_of_or (ltb sites (sites_words settings)) _ short.test_failed in
    record {
      long = ltb-false _ _ two.first_false;
      width_is = eqb-true _ _ (not-false _ two.second_false);
      sum_is = eqb-true _ _ (not-false _ sums.test_failed);
      settings_accepted = chain.first_accepted;
      desk_is = eqb-true _ _ (not-false _ pointers.first_false);
      decks_is = eqb-true _ _ (not-false _ pointers.second_false);
      length_is = eqb-true _ _ (not-false _ whole.second_false);
      phase_well_lem = not-false _ phase.second_false;
      sites_enough = ltb-false _ _ lent.first_false;
      coordinator_enough = ltb-false _ _ lent.second_false;
      consistent = consistent_of _ short.later_accepted;
    }

-- ---- The decks

module _ (settings : Settings) where
  -- A deck's numbers are its memory's and its record's.
  deck_again : (bytes : List ℕ)
      → take (site_words settings) (deck_in settings bytes)
      ++ site_numbers (site_from (drop (site_words settings) (deck_in settings bytes)))
      ≡ deck_in settings bytes
  deck_again bytes =
      let deck = deck_in settings bytes in
      let words = site_words settings in
      let long : length deck ≡ deck_count settings =
      length_numbers_in deck_bytes (deck_count settings) bytes in
      let rest : length (drop words deck) ≡ site_width =
      omega (arith, length-drop words deck, long) in
      ap (λ (l : List ℕ). take words deck ++ l)
      (site_same (drop words deck) (omega (arith, rest))
      ∙ take_all site_width (drop words deck) (omega (arith, rest)))
      ∙ take-append-drop words deck

  words_long : (bytes : List ℕ)
      → length (take (site_words settings) (deck_in settings bytes)) ≡ site_words settings
  words_long bytes =
      length-take-le (site_words settings) (deck_in settings bytes)
      (omega (arith, length_numbers_in deck_bytes (deck_count settings) bytes))

  pub decks_again : (k : ℕ) (bytes : List ℕ) (records : List SiteRecord)
      → deck_sections k settings (records_in k settings bytes ++ records)
      (words_in k settings bytes)
      ≡ sections_in (replicate k (deck_shape settings)) bytes
  decks_again zero bytes records = refl
  decks_again (suc k) bytes records =
      let words = site_words settings in
      let front = take words (deck_in settings bytes) in
      let rest = drop (deck_size settings) bytes in
      let own : take words (front ++ words_in k settings rest) ≡ front =
      take_at front (words_in k settings rest) words (words_long bytes) in
      let others : drop words (front ++ words_in k settings rest) ≡ words_in k settings rest =
      drop_at front (words_in k settings rest) words (words_long bytes) in
      rw (own, others, deck_again bytes, decks_again k rest records)

-- ---- The file

sections_append : (first second : List Shape) (bytes : List ℕ)
    → sections_in (first ++ second) bytes
    ≡ sections_in first bytes ++ sections_in second (drop (size_of first) bytes)
sections_append [] second bytes = refl
sections_append (s ∷ first) second bytes =
    rw (
      sections_append first second (drop (s.width * s.count) bytes),
      drop-drop (size_of first) (s.width * s.count) bytes,
    )

module _ (file : List ℕ) (sites coordinator : ℕ) (below : AllBelow byte_range file)
    (a : Accepted file sites coordinator) where
  abbrev settings : Settings
  settings = settings_in file

  abbrev held : Held
  held = held_in settings file

  settings_again : settings_numbers settings ≡ numbers_in desk_bytes settings_width file
  settings_again =
      let numbers = numbers_in desk_bytes settings_width file in
      let long = length_numbers_in desk_bytes settings_width file in
      settings_same numbers (omega (arith, long)) ∙ take_all 6 numbers (omega (arith, long))

  -- The record's ten numbers, and the counts behind them.
  record_again : coordinator_numbers (coordinator_from (desk_record settings file))
      ++ own_counts settings held
      ≡ desk_record settings file
  record_again =
      let numbers = desk_record settings file in
      let long : length numbers ≡ coordinator_width + settings.sites =
      omega (
        arith,
        length-drop (coordinator_words settings) (desk_in settings file),
        length_numbers_in desk_bytes (desk_count settings) (drop desk_place file),
      ) in
      let counts = take_at (counts_in settings file) (replicate (most_sites - settings.sites) 0)
      settings.sites (omega (arith, long, length-drop coordinator_width numbers)) in
      (λ i. coordinator_whole numbers (omega (arith, long)) a.phase_well_lem i ++ counts i)
      ∙ take-append-drop coordinator_width numbers

  desk_again : desk_numbers settings held ≡ desk_in settings file
  desk_again =
      let words = coordinator_words settings in
      let desk = desk_in settings file in
      (λ i. take-take words words desk (omega arith) i ++ record_again i)
      ∙ take-append-drop words desk

  decks_place : drop (8 * desk_count settings) (drop desk_place file)
      ≡ drop (decks_place_of settings) file
  decks_place =
      let place : desk_place + 8 * desk_count settings ≡ decks_place_of settings = omega arith in
      drop-drop (8 * desk_count settings) desk_place file ∙ ap (λ (n : ℕ). drop n file) place

  bench_again : bench_sections settings held ≡ sections_in (bench_shapes settings) file
  bench_again =
      rw (
        settings_again,
        desk_again,
        decks_again settings settings.sites (drop (decks_place_of settings) file) _,
        decks_place,
      )

  trailer_again : trailer_sections settings
      ≡ sections_in trailer_shapes (drop (size_of (bench_shapes settings)) file)
  trailer_again =
      let place : size_of (bench_shapes settings) ≡ length file - trailer_length =
      omega (arith, size_bench settings, a.length_is) in
      let start = length file - trailer_length in
      let bytes = drop start file in
      let four : start + 4 ≡ length file - 8 = omega (arith, a.long) in
      let eight : start + 8 ≡ length file - 4 = omega (arith, a.long) in
      let second : decks_place_of settings ≡ number_of (take 4 (drop 4 bytes)) =
      sym a.decks_is
      ∙ ap (λ (n : ℕ). number_of (take 4 (drop n file))) (sym four)
      ∙ ap (λ (l : List ℕ). number_of (take 4 l)) (sym (drop-drop 4 start file)) in
      let third : deck_bytes ≡ number_of (take 2 (drop 8 bytes)) =
      sym a.width_is
      ∙ ap (λ (n : ℕ). number_of (take 2 (drop n file))) (sym eight)
      ∙ ap (λ (l : List ℕ). number_of (take 2 l)) (sym (drop-drop 8 start file)) in
      (λ i. section 4 (sym a.desk_is i ∷ (second i ∷ [])) ∷ (section 2 (third i ∷ []) ∷ []))
      ∙ ap (λ (n : ℕ). sections_in trailer_shapes (drop n file)) (sym place)

  pub sections_again : file_sections settings held ≡ sections_in (file_shapes settings) file
  sections_again =
      (λ i. bench_again i ++ trailer_again i)
      ∙ sym (sections_append (bench_shapes settings) trailer_shapes file)

  pub bytes_again : file_of settings held ≡ file
  bytes_again =
      let size : size_of (file_shapes settings) ≡ length file - sum_bytes =
      omega (arith, a.length_is) in
      let front : sections_bytes (file_sections settings held) ≡ unsummed file =
      ap sections_bytes sections_again
      ∙ sections_written_of_read (file_shapes settings) file below (omega (arith, a.length_is))
      ∙ ap (λ (n : ℕ). take n file) size in
      let rest = drop (length file - sum_bytes) file in
      let two : length rest ≡ sum_bytes =
      omega (arith, length-drop (length file - sum_bytes) file, a.long) in
      let last : little_endian sum_bytes (byte_sum (unsummed file)) ≡ rest =
      ap (little_endian sum_bytes) a.sum_is
      ∙ ap (λ (l : List ℕ). little_endian sum_bytes (number_of l))
      (take_all sum_bytes rest (omega (arith, two)))
      ∙ ap (λ (n : ℕ). little_endian n (number_of rest)) (sym two)
      ∙ written_of_read rest (all_below_drop (length file - sum_bytes) file below) in
      ap (λ (l : List ℕ). l ++ little_endian sum_bytes (byte_sum l)) front
      ∙ ap (λ (l : List ℕ). unsummed file ++ l) last
      ∙ take-append-drop (length file - sum_bytes) file
