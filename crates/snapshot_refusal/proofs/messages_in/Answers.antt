-- One of the numbers behind the coordinator's record.
use mathlib.Core.Path.{◌≡◌}
use Prim.Native.Nat.{◌+◌}
use native.Mathlib.Omega.{arith}
use Rattle.model.specs.CoordinatorMemory.{coordinator_words}
use Rattle.model.proofs.Thresholds.SettingsLaws.{settled}
use Rattle.model.proofs.BetweenArrivals.ReportLaws.{value_count_is}
use Rattle.snapshot_file.proofs.LayoutLaws.{length_of_decks}
use Rattle.snapshot_refusal.proofs.BenchLaws.{count_there}
use Rattle.snapshot_refusal.proofs.messages_in.Goals as goal

-- A deck's number is small.
pub overflow_mul-which : goal.overflow_mul-which
overflow_mul-which c =
    omega (
      arith,
      c.requires.known,
      (settled c.args.settings c.requires.whole.settings_accepted).sites.at_most,
    )

pub overflow_add-first-3 : goal.overflow_add-first-3
overflow_add-first-3 c =
    omega (
      arith,
      c.requires.known,
      (settled c.args.settings c.requires.whole.settings_accepted).sites.at_most,
    )

pub read_fixed-requires : goal.read_fixed-requires
read_fixed-requires c =
    omega (
      arith,
      c.requires.known,
      c.requires.whole.length_is,
      length_of_decks c.args.settings,
      value_count_is,
    )

pub returns : goal.returns
returns c =
    let a = c.args in
    let words = a.settings.universe + 1024 in
    let are : words ≡ coordinator_words a.settings = omega (arith, value_count_is) in
    count_there a.settings a.file.now words a.which _ are c.requires.known
    c.read_fixed.ensures.0
