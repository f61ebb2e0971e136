-- The claims on saving and reading, put together: `file-claims`.
use mathlib.Core.Path.{◌≡◌, refl, sym, ap, ◌∙◌, subst}
use mathlib.Core.Bool.{true, false, ◌||◌, not}
use mathlib.Core.List.{List, ◌++◌, append-nil, append_assoc}
use Prim.Native.Nat.{ℕ, zero, suc, ◌*◌, ◌≤◌}
use native.Mathlib.Nat.{mod-lt}
use native.Mathlib.Omega.{arith}
use lib.Dec.{ltb, eqb}
use lib.ListN.{length, take, drop, length-append}
use lib.Seq.{length-take-le}
use borrow.Author.Tests.{le-ltb, eq-eqb}
use Rattle.model.specs.declared.Settings.{Settings}
use Rattle.model.specs.declared.Phase.{Phase}
use Rattle.model.specs.declared.Phase.TheVariants.{Idle, Collecting, Probing, Announcing}
use Rattle.model.specs.Refusals.{when, ◌or_else◌, no_refusal, memory_too_short, memory_inconsistent, file_unreadable, checksum_wrong}
use Rattle.model.specs.Settings.{settings_refusal}
use Rattle.model.specs.SiteMemory.{site_words}
use Rattle.model.specs.CoordinatorMemory.{coordinator_words}
use Rattle.model.specs.NetworkMemory.{sites_words}
use Rattle.model.specs.Held.{Held, held_consistent}
use Rattle.model.proofs.Thresholds.RefusalLaws.{begin, pass, pass_part, end}
use Rattle.model.proofs.Thresholds.SettingsLaws.{settled}
use Rattle.model.proofs.BetweenArrivals.ReportLaws.{value_count_is}
use Rattle.record_numbers.specs.Numbers.{phase_numbers, phase_well, phase_well_in}
use Rattle.little_endian.specs.Numbers.{little_endian}
use Rattle.little_endian.specs.Sections.{sections_bytes}
use Rattle.little_endian.proofs.NumberLaws.{length_numbers_in}
use Rattle.little_endian.proofs.SectionLaws.{bytes_append}
use Rattle.checksum.specs.Sums.{sum_of, byte_sum}
use Rattle.snapshot_file.specs.Layout.{deck_bytes, pointer_bytes, width_bytes, sum_bytes, desk_count, deck_count, desk_place, decks_place_of, file_length, least_length}
use Rattle.snapshot_file.specs.File.{bench_sections, trailer_sections, file_sections, file_of, save_refusal}
use Rattle.snapshot_file.specs.Reading.{settings_in, desk_in, desk_record, deck_in, deck_size, words_in, held_in, shape_wrong, layout_wrong, load_refusal, desk_pointer, decks_pointer, width_in, sum_in, unsummed}
use Rattle.snapshot_file.specs.Claims.{OfMachine, FileClaims}
use Rattle.snapshot_file.proofs.LayoutLaws.{size_bench, length_file}
use Rattle.snapshot_file.proofs.FitLaws.{Passed, passed_of, long_of}
use Rattle.snapshot_file.proofs.FrontLaws.{held_closed}
use Rattle.snapshot_file.proofs.TrailerLaws.{Trailer, trailer_of}
use Rattle.snapshot_file.proofs.SavedLaws.{settings_back, record_back, bench_back}
use Rattle.snapshot_file.proofs.ReadLaws.{Accepted, accepted_of, bytes_again}

-- ---- What is saved is accepted

-- A phase's own numbers are well formed.
phase_well_lem : (phase : Phase)
    → let n = phase_numbers phase in
    phase_well n.which n.site n.low n.high n.sum ≡ true
phase_well_lem Idle = refl
phase_well_lem (Collecting site) = refl
phase_well_lem (Probing site low high sum) = refl
phase_well_lem (Announcing site) = refl

module _ (settings : Settings) (held : Held) (room : ℕ) (p : Passed settings held room)
    (machine : OfMachine settings held) where
  abbrev file : List ℕ
  file = file_of settings held

  abbrev bench : List ℕ
  bench = sections_bytes (bench_sections settings held)

  abbrev first : List ℕ
  first = little_endian pointer_bytes desk_place

  abbrev second : List ℕ
  second = little_endian pointer_bytes (decks_place_of settings)

  abbrev third : List ℕ
  third = little_endian width_bytes deck_bytes

  abbrev pointers : List ℕ
  pointers = first ++ (second ++ third)

  -- The bytes before the sum, as the trailer's laws have them.
  before_sum : sections_bytes (file_sections settings held) ≡ bench ++ pointers
  before_sum =
      let ends : sections_bytes (trailer_sections settings) ≡ pointers =
      (λ i. (first ++ append-nil second i) ++ append-nil (append-nil third i) i)
      ∙ append_assoc first second third in
      bytes_append (bench_sections settings held) (trailer_sections settings)
      ∙ ap (λ (l : List ℕ). bench ++ l) ends

  trailer : Trailer file desk_place (decks_place_of settings) deck_bytes
      (byte_sum (bench ++ pointers))
      (bench ++ pointers)
  trailer =
      let s = settled settings p.settings_accepted in
      subst (λ (bytes : List ℕ). Trailer (bytes ++ little_endian sum_bytes (byte_sum bytes))
      desk_place
      (decks_place_of settings) deck_bytes (byte_sum (bench ++ pointers)) (bench ++ pointers))
      (sym before_sum)
      (trailer_of bench desk_place (decks_place_of settings) deck_bytes
      (byte_sum (bench ++ pointers))
      (omega arith) (omega (arith, s.universe.at_most, s.sites.at_most, value_count_is))
      (omega arith)
      (mod-lt (sum_of (bench ++ pointers)) (omega arith)))

  well : phase_well_in (desk_record settings file) ≡ true
  well =
      ap phase_well_in (record_back settings held room p machine)
      ∙ phase_well_lem held.coordinator.phase

  long_enough : ltb (length file) least_length ≡ false
  long_enough =
      le-ltb (length file) least_length
      (omega (
        arith,
        length_file settings held (long_of settings held room p machine),
        size_bench settings,
      ))

  bench_consistent : held_consistent settings (held_in settings file) ≡ true
  bench_consistent =
      ap (held_consistent settings) (bench_back settings held room p machine)
      ∙ held_closed settings held p.sites_long p.coordinator_long p.consistent

  -- Row by row, with the bench's own settings.
  abbrev chain : ℕ → ℕ → Settings → ℕ
  chain sites coordinator s =
      when (shape_wrong file) file_unreadable
      or_else when (not (eqb (byte_sum (unsummed file)) (sum_in file))) checksum_wrong
      or_else settings_refusal s
      or_else when (layout_wrong s file) file_unreadable
      or_else when (ltb sites (sites_words s) || ltb coordinator (coordinator_words s))
      memory_too_short
      or_else when (not (held_consistent s (held_in s file))) memory_inconsistent
      or_else no_refusal

  shape_right : shape_wrong file ≡ false
  shape_right = rw (long_enough, eq-eqb (width_in file) deck_bytes trailer.width_is)

  sum_right : not (eqb (byte_sum (unsummed file)) (sum_in file)) ≡ false
  sum_right =
      ap not (eq-eqb (byte_sum (unsummed file)) (sum_in file)
      (ap byte_sum trailer.unsummed_is ∙ sym trailer.sum_is))

  layout_right : layout_wrong settings file ≡ false
  layout_right =
      rw (
        eq-eqb (desk_pointer file) desk_place trailer.desk_is,
        eq-eqb (decks_pointer file) (decks_place_of settings) trailer.decks_is,
        eq-eqb (length file) (file_length settings)
            (length_file settings held (long_of settings held room p machine)),
        well,
      )

  pub accepts : (sites coordinator : ℕ)
      → sites_words settings ≤ sites
      → coordinator_words settings ≤ coordinator
      → load_refusal file sites coordinator ≡ no_refusal
  accepts sites coordinator sites_enough coordinator_enough =
      let short : (ltb sites (sites_words settings) || ltb coordinator (coordinator_words settings))
      ≡ false =
      rw (
        le-ltb sites (sites_words settings) sites_enough,
        le-ltb coordinator (coordinator_words settings) coordinator_enough,
      ) in
      ap (chain sites coordinator) (settings_back settings held room p machine)
      ∙ sym (end
      (pass _ _ _
      (pass _ _ _
      (pass _ _ _
      (pass_part _ _
      (pass _ _ _
      (pass _ _ _ (begin (chain sites coordinator settings)) refl shape_right)
      refl sum_right)
      refl p.settings_accepted)
      refl layout_right)
      refl short)
      refl (ap not bench_consistent))
      refl)

-- ---- What is read can be saved

length_words : (k : ℕ) (settings : Settings) (bytes : List ℕ)
    → length (words_in k settings bytes) ≡ k * site_words settings
length_words zero settings bytes = omega arith
length_words (suc k) settings bytes =
    omega (
      arith,
      length-append (take (site_words settings) (deck_in settings bytes))
          (words_in k settings (drop (deck_size settings) bytes)),
      length-take-le (site_words settings) (deck_in settings bytes)
          (omega (arith, length_numbers_in deck_bytes (deck_count settings) bytes)),
      length_words k settings (drop (deck_size settings) bytes),
    )

saves : (file : List ℕ) (sites coordinator : ℕ)
    → Accepted file sites coordinator
    → save_refusal (settings_in file) (held_in (settings_in file) file) (length file) ≡ no_refusal
saves file sites coordinator a =
    let settings = settings_in file in
    let held = held_in settings file in
    let desk = length-take-le (coordinator_words settings) (desk_in settings file)
    (omega (arith, length_numbers_in 8 (desk_count settings) (drop desk_place file))) in
    rw (
      a.settings_accepted,
      le-ltb (length held.site_memory) (sites_words settings)
          (omega
          (arith, length_words settings.sites settings (drop (decks_place_of settings) file))),
      le-ltb (length held.coordinator_memory) (coordinator_words settings) (omega (arith, desk)),
      le-ltb (length file) (file_length settings) (omega (arith, a.length_is)),
      a.consistent,
    )

-- ---- The claims

pub file_claims : FileClaims
file_claims = record {
  saved_length = λ settings held room none machine.
      length_file settings held
      (long_of settings held room (passed_of settings held room none) machine);
  saved_settings = λ settings held room none machine.
      settings_back settings held room (passed_of settings held room none) machine;
  saved_bench = λ settings held room none machine.
      bench_back settings held room (passed_of settings held room none) machine;
  saved_accepted = λ settings held room sites coordinator none machine enough enough-2.
      accepts settings held room (passed_of settings held room none) machine sites coordinator
      enough enough-2;
  read_accepted = λ file sites coordinator below none.
      saves file sites coordinator (accepted_of file sites coordinator none);
  read_bytes = λ file sites coordinator below none.
      bytes_again file sites coordinator below (accepted_of file sites coordinator none);
}
