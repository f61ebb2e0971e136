-- The sections of a bench have the shapes that its settings give.
--
--   length_desk, length_deck      how many numbers the desk part has, and a deck
--   deck_shapes, bench_shapes_lem  the shapes of the decks, and of all
--   file_shapes_lem, length_file  with the trailer's; the bytes of a file
--   size_bench                    the bytes before the trailer
--   length_of_decks               the length of a file by its decks
--   decks_few, file_small         the most bytes of the decks, and of a file
use mathlib.Core.Path.{◌≡◌, refl, ap, ◌∙◌}
use mathlib.Core.List.{List, [], ◌∷◌, ◌++◌}
use Prim.Native.Nat.{ℕ, zero, suc, ◌+◌, ◌*◌, ◌≤◌}
use native.Mathlib.Nat.{mul-le-mul}
use native.Mathlib.Omega.{arith}
use lib.ListN.{length, take, drop, replicate, length-append, length-drop}
use lib.Seq.{length-take-le}
use Rattle.model.specs.declared.Settings.{Settings}
use Rattle.model.specs.declared.SiteRecord.{SiteRecord}
use Rattle.model.specs.Refusals.{no_refusal}
use Rattle.model.specs.Settings.{settings_refusal}
use Rattle.model.specs.SiteMemory.{site_words}
use Rattle.model.specs.CoordinatorMemory.{coordinator_words}
use Rattle.model.specs.NetworkMemory.{sites_words}
use Rattle.model.specs.Held.{Held}
use Rattle.model.proofs.Thresholds.SettingsLaws.{settled}
use Rattle.model.proofs.BetweenArrivals.ReportLaws.{value_count_is}
use Rattle.record_numbers.specs.Numbers.{coordinator_numbers, site_numbers, site_width}
use Rattle.little_endian.specs.Numbers.{little_endian}
use Rattle.little_endian.specs.Sections.{Shape, shapes_of, size_of, sections_bytes}
use Rattle.little_endian.proofs.NumberLaws.{length_little_endian}
use Rattle.little_endian.proofs.SectionLaws.{length_sections_bytes, shapes_append, size_append}
use Rattle.checksum.specs.Sums.{byte_sum}
use Rattle.snapshot_file.specs.Layout.{sum_bytes, desk_count, deck_count, deck_shape, bench_shapes, trailer_shapes, file_shapes, decks_place_of, file_length, trailer_length}
use Rattle.snapshot_file.specs.Reading.{deck_size}
use Rattle.snapshot_file.specs.File.{own_counts, desk_numbers, deck_numbers, deck_sections, bench_sections, trailer_sections, file_sections, file_of}

-- Memory for all, and a record and a count for each site.
pub record Long (settings : Settings) (held : Held) : Type 0 where
  pub records_enough : settings.sites ≤ length held.sites.records
  pub counts_enough : settings.sites ≤ length held.sites.messages
  pub sites_long : sites_words settings ≤ length held.site_memory
  pub coordinator_long : coordinator_words settings ≤ length held.coordinator_memory

pub length_deck : (settings : Settings) (numbers : SiteRecord) (memory : List ℕ)
    → site_words settings ≤ length memory
    → length (deck_numbers settings numbers memory) ≡ deck_count settings
length_deck settings numbers memory long =
    length-append (take (site_words settings) memory) (site_numbers numbers)
    ∙ ap (λ (n : ℕ). n + site_width) (length-take-le (site_words settings) memory long)

pub deck_shapes : (k : ℕ) (settings : Settings) (records : List SiteRecord) (memory : List ℕ)
    → k ≤ length records
    → k * site_words settings ≤ length memory
    → shapes_of (deck_sections k settings records memory) ≡ replicate k (deck_shape settings)
deck_shapes zero settings records memory enough long = refl
deck_shapes (suc k) settings [] memory enough long = absurd (omega arith)
deck_shapes (suc k) settings (first ∷ others) memory enough long =
    rw (
      length_deck settings first memory (omega arith),
      deck_shapes k settings others (drop (site_words settings) memory) (omega arith)
          (omega (arith, length-drop (site_words settings) memory)),
    )

module _ (settings : Settings) (held : Held) (long : Long settings held) where
  pub length_desk : length (desk_numbers settings held) ≡ desk_count settings
  length_desk =
      let front = take (coordinator_words settings) held.coordinator_memory in
      omega (
        arith,
        length-append front
            (coordinator_numbers held.coordinator ++ own_counts settings held),
        length-append (coordinator_numbers held.coordinator) (own_counts settings held),
        length-take-le settings.sites held.sites.messages long.counts_enough,
        length-take-le (coordinator_words settings) held.coordinator_memory
            long.coordinator_long,
      )

  pub bench_shapes_lem : shapes_of (bench_sections settings held) ≡ bench_shapes settings
  bench_shapes_lem =
      rw (
        length_desk,
        deck_shapes settings.sites settings held.sites.records held.site_memory
            long.records_enough long.sites_long,
      )

  pub file_shapes_lem : shapes_of (file_sections settings held) ≡ file_shapes settings
  file_shapes_lem =
      shapes_append (bench_sections settings held) (trailer_sections settings)
      ∙ ap (λ (shapes : List Shape). shapes ++ trailer_shapes) bench_shapes_lem

  pub length_bytes : length (sections_bytes (file_sections settings held))
      ≡ size_of (file_shapes settings)
  length_bytes = length_sections_bytes (file_sections settings held) ∙ ap size_of file_shapes_lem

  pub length_file : length (file_of settings held) ≡ file_length settings
  length_file =
      let bytes = sections_bytes (file_sections settings held) in
      omega (
        arith,
        length-append bytes (little_endian sum_bytes (byte_sum bytes)),
        length_little_endian sum_bytes (byte_sum bytes),
        length_bytes,
      )

-- The trailer is the last bytes.
pub size_bench : (settings : Settings)
    → size_of (bench_shapes settings) + trailer_length ≡ file_length settings
size_bench settings = omega (arith, size_append (bench_shapes settings) trailer_shapes)

-- The decks take as many bytes each.
size_decks : (k : ℕ) (settings : Settings)
    → size_of (replicate k (deck_shape settings)) ≡ k * deck_size settings
size_decks zero settings = omega arith
size_decks (suc k) settings = omega (arith, size_decks k settings)

pub length_of_decks : (settings : Settings)
    → file_length settings ≡ decks_place_of settings + settings.sites * deck_size settings
    + trailer_length
length_of_decks settings =
    let decks = replicate settings.sites (deck_shape settings) in
    omega (arith, size_bench settings, size_decks settings.sites settings)

-- So many bytes the decks have at most, and a file.
pub decks_few : (settings : Settings) (size : ℕ)
    → settings_refusal settings ≡ no_refusal
    → size ≡ deck_size settings
    → settings.sites * size ≤ 32 * 60000
decks_few settings size passes is =
    let s = settled settings passes in
    let few : size ≤ 60000 = omega (arith, is, s.capacity.at_most, value_count_is) in
    mul-le-mul s.sites.at_most few

pub file_small : (settings : Settings)
    → settings_refusal settings ≡ no_refusal
    → file_length settings ≤ 3000000
file_small settings passes =
    omega (
      arith,
      length_of_decks settings,
      decks_few settings (deck_size settings) passes refl,
      (settled settings passes).universe.at_most,
      (settled settings passes).sites.at_most,
      value_count_is,
    )
