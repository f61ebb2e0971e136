-- What the tests of a file before its bench find.
--
--   desk_record_lem        the coordinator's record and the counts, where the code reads them
--   desk_ten, desk_counts  each of both
use mathlib.Core.Path.{◌≡◌, ap, ◌∙◌}
use mathlib.Core.List.{List}
use Prim.Native.Nat.{ℕ, ◌+◌, ◌*◌}
use native.Mathlib.Omega.{arith}
use lib.ListN.{take, drop}
use lib.Seq.{drop-drop}
use Rattle.model.specs.declared.Settings.{Settings}
use Rattle.model.specs.CoordinatorMemory.{coordinator_words}
use Rattle.record_numbers.specs.Numbers.{coordinator_width}
use Rattle.little_endian.specs.Numbers.{numbers_in}
use Rattle.little_endian.proofs.NumberLaws.{numbers_drop, numbers_take}
use Rattle.snapshot_file.specs.Layout.{desk_bytes, desk_count, desk_place}
use Rattle.snapshot_file.specs.Reading.{desk_record, counts_in}

-- Behind the memory stand the record and the counts.
pub desk_record_lem : (settings : Settings) (file : List ℕ)
    → desk_record settings file
    ≡ numbers_in desk_bytes (coordinator_width + settings.sites)
    (drop (desk_place + desk_bytes * coordinator_words settings) file)
desk_record_lem settings file =
    let words = coordinator_words settings in
    let beside = coordinator_width + settings.sites in
    let count : desk_count settings ≡ words + beside = omega arith in
    ap (λ (n : ℕ). drop words (numbers_in desk_bytes n (drop desk_place file))) count
    ∙ numbers_drop desk_bytes words beside (drop desk_place file)
    ∙ ap (numbers_in desk_bytes beside) (drop-drop (desk_bytes * words) desk_place file)

pub desk_ten : (settings : Settings) (file : List ℕ)
    → take coordinator_width (desk_record settings file)
    ≡ numbers_in desk_bytes coordinator_width
    (drop (desk_place + desk_bytes * coordinator_words settings) file)
desk_ten settings file =
    ap (take coordinator_width) (desk_record_lem settings file)
    ∙ numbers_take desk_bytes coordinator_width settings.sites
    (drop (desk_place + desk_bytes * coordinator_words settings) file)

-- The counts behind both.
pub desk_counts : (settings : Settings) (file : List ℕ)
    → counts_in settings file
    ≡ numbers_in desk_bytes settings.sites
    (drop (desk_place + desk_bytes * (coordinator_words settings + coordinator_width)) file)
desk_counts settings file =
    let start = desk_place + desk_bytes * coordinator_words settings in
    let place : start + desk_bytes * coordinator_width
    ≡ desk_place + desk_bytes * (coordinator_words settings + coordinator_width) = omega arith in
    ap (drop coordinator_width) (desk_record_lem settings file)
    ∙ numbers_drop desk_bytes coordinator_width settings.sites (drop start file)
    ∙ ap (numbers_in desk_bytes settings.sites)
    (drop-drop (desk_bytes * coordinator_width) start file
    ∙ ap (λ (n : ℕ). drop n file) place)
