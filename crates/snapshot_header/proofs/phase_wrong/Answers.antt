-- The last five of the record's ten numbers.
use mathlib.Core.Path.{◌≡◌, ap, ◌∙◌}
use mathlib.Core.Bool.{not}
use mathlib.Core.List.{List}
use Prim.Native.Nat.{ℕ, ◌<◌}
use native.Mathlib.Omega.{arith}
use lib.ListN.{get_or}
use lib.Seq.{get_or-take}
use Rattle.record_numbers.specs.Numbers.{coordinator_width, phase_well}
use Rattle.snapshot_file.specs.Reading.{desk_record}
use Rattle.snapshot_header.proofs.phase_wrong.Goals as goal

pub returns : goal.returns
returns c =
    let row = c.desk_row-row.result in
    let numbers = desk_record c.args.settings c.args.file.now in
    let at : (i : ℕ) → i < coordinator_width → get_or row i 0 ≡ get_or numbers i 0 =
    λ i inside. ap (λ (l : List ℕ). get_or l i 0) c.desk_row-row.ensures
    ∙ get_or-take coordinator_width numbers i 0 inside in
    ap not c.phase_well.ensures
    ∙ (λ j. not (phase_well (at 5 (omega arith) j) (at 6 (omega arith) j) (at 7 (omega arith) j)
    (at 8 (omega arith) j) (at 9 (omega arith) j)))
