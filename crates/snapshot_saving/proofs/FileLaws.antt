-- The file: its four parts written one after another.
--
--   three_written, sum_written     three pieces from the first byte on; what stands behind them
--   file_written                   settings, desk part, decks and trailer
use mathlib.Core.Path.{◌≡◌, sym, ap, ◌∙◌}
use mathlib.Core.List.{List, ◌++◌, append_assoc}
use Prim.Native.Nat.{ℕ, ◌+◌, ◌≤◌}
use native.Mathlib.Omega.{arith}
use lib.ListN.{length, take, length-append}
use Rattle.laws.specs.Writing.{written_at}
use Rattle.laws.proofs.Writing.{written_append, take_written}
use Rattle.model.specs.declared.Settings.{Settings}
use Rattle.model.specs.Held.{Held}
use Rattle.record_numbers.specs.Numbers.{settings_numbers}
use Rattle.little_endian.specs.Numbers.{little_endian, numbers_bytes}
use Rattle.little_endian.specs.Sections.{size_of, sections_bytes}
use Rattle.little_endian.proofs.NumberLaws.{length_little_endian, length_numbers_bytes}
use Rattle.little_endian.proofs.SectionLaws.{length_sections_bytes, bytes_append}
use Rattle.checksum.specs.Sums.{byte_sum}
use Rattle.snapshot_file.specs.Layout.{desk_bytes, sum_bytes, desk_place, decks_place_of, bench_shapes}
use Rattle.snapshot_file.specs.File.{desk_numbers, deck_sections, bench_sections, trailer_sections, summed, file_of}
use Rattle.snapshot_file.proofs.LayoutLaws.{Long, length_desk, bench_shapes_lem, size_bench}
use Rattle.snapshot_writing.specs.Parts.{TrailerAsks, trailer_place, trailer_ten, trailer_over}

pub three_written : (second-place third-place : ℕ) (first second third bytes : List ℕ)
    → second-place ≡ length first
    → third-place ≡ length first + length second
    → length first + length second + length third ≤ length bytes
    → written_at third-place third (written_at second-place second (written_at 0 first bytes))
    ≡ written_at 0 (first ++ (second ++ third)) bytes
three_written second-place third-place first second third bytes second_is third-is fits =
    let both = length-append first second in
    let second_at : second-place ≡ 0 + length first = omega (arith, second_is) in
    let third_at : third-place ≡ 0 + length (first ++ second) = omega (arith, third-is, both) in
    (λ i. written_at (third_at i) third (written_at (second_at i) second
    (written_at 0 first bytes)))
    ∙ ap (written_at (0 + length (first ++ second)) third)
    (written_append 0 first second bytes (omega (arith, fits)))
    ∙ written_append 0 (first ++ second) third bytes (omega (arith, fits, both))
    ∙ ap (λ (l : List ℕ). written_at 0 l bytes) (append_assoc first second third)

-- Right behind a piece come further bytes, and the sum of both.
pub sum_written : (place : ℕ) (first second bytes : List ℕ)
    → place ≡ length first
    → length first + length second + sum_bytes ≤ length bytes
    → written_at place
    (second ++ little_endian sum_bytes (byte_sum (take place (written_at 0 first bytes) ++ second)))
    (written_at 0 first bytes)
    ≡ written_at 0 (summed (first ++ second)) bytes
sum_written place first second bytes place_is fits =
    let over = written_at 0 first bytes in
    let sum = little_endian sum_bytes (byte_sum (first ++ second)) in
    let sum-long = length_little_endian sum_bytes (byte_sum (first ++ second)) in
    let rest_long = length-append second sum in
    let at : place ≡ 0 + length first = omega (arith, place_is) in
    let front : take place over ≡ first =
    ap (λ (n : ℕ). take n over) at ∙ take_written 0 first bytes (omega (arith, fits)) in
    (λ i. written_at (at i) (second ++ little_endian sum_bytes (byte_sum (front i ++ second))) over)
    ∙ written_append 0 first (second ++ sum) bytes (omega (arith, fits, sum-long, rest_long))
    ∙ ap (λ (l : List ℕ). written_at 0 l bytes) (sym (append_assoc first second sum))

module _ (settings : Settings) (held : Held) (bytes : List ℕ)
    (long : Long settings held) (asks : TrailerAsks settings bytes) where
  abbrev settings_part : List ℕ
  settings_part = numbers_bytes desk_bytes (settings_numbers settings)

  abbrev desk_part : List ℕ
  desk_part = numbers_bytes desk_bytes (desk_numbers settings held)

  abbrev decks_part : List ℕ
  decks_part =
      sections_bytes (deck_sections settings.sites settings held.sites.records
      held.site_memory)

  abbrev bench : List ℕ
  bench = sections_bytes (bench_sections settings held)

  length_bench : length bench ≡ size_of (bench_shapes settings)
  length_bench =
      length_sections_bytes (bench_sections settings held)
      ∙ ap size_of (bench_shapes_lem settings held long)

  -- The bytes before the trailer.
  abbrev pub bench_over : List ℕ
  bench_over =
      written_at (decks_place_of settings) decks_part
      (written_at desk_place desk_part (written_at 0 settings_part bytes))

  bench_written : bench_over ≡ written_at 0 bench bytes
  bench_written =
      let settings-long = length_numbers_bytes desk_bytes (settings_numbers settings) in
      let desk_long = length_numbers_bytes desk_bytes (desk_numbers settings held) in
      let desk-count = length_desk settings held long in
      three_written desk_place (decks_place_of settings) settings_part desk_part decks_part bytes
      (sym settings-long)
      (omega (arith, settings-long, desk_long, desk-count))
      (omega (
        arith,
        length-append settings_part (desk_part ++ decks_part),
        length-append desk_part decks_part,
        length_bench,
        size_bench settings,
        asks.bytes_enough,
      ))

  pub file_written : written_at (trailer_place settings) (trailer_over settings bench_over)
      bench_over
      ≡ written_at 0 (file_of settings held) bytes
  file_written =
      let place = trailer_place settings in
      ap (λ (l : List ℕ). written_at place (trailer_over settings l) l) bench_written
      ∙ sum_written place bench (trailer_ten settings) bytes
      (omega (arith, length_bench, size_bench settings))
      (omega (arith, length_bench, size_bench settings, asks.bytes_enough))
      ∙ ap (λ (l : List ℕ). written_at 0 (summed l) bytes)
      (sym (bytes_append (bench_sections settings held) (trailer_sections settings)))
