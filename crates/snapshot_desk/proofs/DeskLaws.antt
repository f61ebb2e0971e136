-- The desk part of a file, as the tests read it.
--
--   number_there, numbers_long    a number of those from a place on, as the code reads it
--   estimates_there, values_read, values_lie   the coordinator's memory, where the code reads it
--   record_there                  the record of a row of ten, and of all that stands behind
use mathlib.Core.Path.{◌≡◌, sym, ap, ◌∙◌}
use mathlib.Core.List.{List}
use Prim.Native.Nat.{ℕ, ◌+◌, ◌*◌, ◌≤◌, ◌<◌}
use native.Mathlib.Omega.{arith}
use lib.ListN.{length, get_or, take, drop, length-drop}
use lib.Seq.{take_all, drop-drop}
use Rattle.laws.proofs.Lists.{read_take}
use Rattle.model.specs.declared.Settings.{Settings}
use Rattle.model.specs.Limits.{value_count}
use Rattle.model.specs.CoordinatorMemory.{coordinator_words}
use Rattle.record_numbers.specs.Numbers.{coordinator_width, coordinator_read}
use Rattle.little_endian.specs.Numbers.{number_of, number_at, numbers_in}
use Rattle.little_endian.proofs.NumberLaws.{number_in, numbers_take, numbers_drop, length_numbers_in}
use Rattle.snapshot_file.specs.Layout.{desk_bytes, desk_count, desk_place}
use Rattle.snapshot_file.specs.Reading.{desk_in, desk_record}
use Rattle.snapshot_file.proofs.LayoutLaws.{length_of_decks}
use Rattle.snapshot_header.specs.Header.{WholeFile}
use Rattle.snapshot_desk.specs.Desk.{desk_memory, numbers_from}

pub numbers_long : (file : List ℕ) (from count : ℕ) → length (numbers_from file from count) ≡ count
numbers_long file from count = length_numbers_in desk_bytes count (drop from file)

pub number_there : (file : List ℕ) (from count i read : ℕ)
    → i < count
    → read ≡ number_at desk_bytes (from + desk_bytes * i) file
    → read ≡ get_or (numbers_from file from count) i 0
number_there file from count i read inside is =
    is
    ∙ ap (λ (l : List ℕ). number_of (take desk_bytes l))
    (sym (drop-drop (desk_bytes * i) from file))
    ∙ sym (number_in desk_bytes count i (drop from file) inside)

-- ---- The memory

module _ (settings : Settings) (file : List ℕ) where
  abbrev desk : List ℕ
  desk = drop desk_place file

  -- The memory is the first of the desk part's numbers.
  memory_is : desk_memory settings file ≡ numbers_in desk_bytes (coordinator_words settings) desk
  memory_is =
      let beside = coordinator_width + settings.sites in
      let count : desk_count settings ≡ coordinator_words settings + beside = omega arith in
      ap (λ (n : ℕ). take (coordinator_words settings) (numbers_in desk_bytes n desk)) count
      ∙ numbers_take desk_bytes (coordinator_words settings) beside desk

  pub estimates_there : take settings.universe (desk_memory settings file)
      ≡ numbers_from file desk_place settings.universe
  estimates_there =
      ap (take settings.universe) memory_is
      ∙ numbers_take desk_bytes settings.universe value_count desk

  values_there : take value_count (drop settings.universe (desk_memory settings file))
      ≡ numbers_from file (desk_place + desk_bytes * settings.universe) value_count
  values_there =
      let u = settings.universe in
      let rest = numbers_in desk_bytes value_count (drop (desk_bytes * u) desk) in
      ap (λ (l : List ℕ). take value_count (drop u l)) memory_is
      ∙ ap (take value_count) (numbers_drop desk_bytes u value_count desk)
      ∙ take_all value_count rest
      (omega (arith, length_numbers_in desk_bytes value_count (drop (desk_bytes * u) desk)))
      ∙ ap (numbers_in desk_bytes value_count) (drop-drop (desk_bytes * u) desk_place file)

  -- As the code counts them.
  pub values_read : (count : ℕ)
      → count ≡ value_count
      → take value_count (drop settings.universe (desk_memory settings file))
      ≡ numbers_from file (desk_place + desk_bytes * settings.universe) count
  values_read count is =
      values_there
      ∙ ap (numbers_from file (desk_place + desk_bytes * settings.universe)) (sym is)

  -- The value counts lie within the file.
  pub values_lie : (count : ℕ)
      → count ≡ value_count
      → WholeFile settings file
      → desk_place + desk_bytes * settings.universe + desk_bytes * count ≤ length file
  values_lie count is whole =
      omega (arith, is, whole.length_is, length_of_decks settings)

  -- ---- The record

  record_long : length (desk_record settings file) ≡ coordinator_width + settings.sites
  record_long =
      omega (
        arith,
        length-drop (coordinator_words settings) (desk_in settings file),
        length_numbers_in desk_bytes (desk_count settings) desk,
      )

  pub record_there : (row : List ℕ)
      → row ≡ take coordinator_width (desk_record settings file)
      → coordinator_read row ≡ coordinator_read (desk_record settings file)
  record_there row is =
      ap coordinator_read
      (is ∙ sym (read_take 0 coordinator_width 0 (desk_record settings file)
      (omega (arith, record_long))))
