-- Ten numbers behind the coordinator's memory.
use mathlib.Core.Path.{◌≡◌, sym, ap, ◌∙◌}
use Prim.Native.Nat.{ℕ, ◌+◌, ◌*◌}
use native.Mathlib.Omega.{arith}
use lib.ListN.{drop}
use Rattle.model.specs.CoordinatorMemory.{coordinator_words}
use Rattle.model.proofs.BetweenArrivals.ReportLaws.{value_count_is}
use Rattle.little_endian.specs.Numbers.{numbers_in}
use Rattle.snapshot_file.specs.Layout.{desk_bytes, desk_place}
use Rattle.snapshot_file.proofs.LayoutLaws.{length_of_decks}
use Rattle.snapshot_header.proofs.HeaderLaws.{desk_ten}
use Rattle.snapshot_header.proofs.desk_row.Goals as goal

pub read_numbers-requires : goal.read_numbers-requires
read_numbers-requires c =
    omega (
      arith,
      c.requires.length_is,
      length_of_decks c.args.settings,
      value_count_is,
    )

pub returns : goal.returns
returns c =
    let a = c.args in
    let place : 48 + 8 * (a.settings.universe + 1024)
    ≡ desk_place + desk_bytes * coordinator_words a.settings = omega (arith, value_count_is) in
    c.read_numbers.ensures
    ∙ ap (λ (n : ℕ). numbers_in 8 10 (drop n a.file.now)) place
    ∙ sym (desk_ten a.settings a.file.now)
