-- The desk part, the decks and the trailer: no more than 32 decks of 13,029 numbers.
use mathlib.Core.Path.{sym, ◌∙◌}
use Prim.Native.Nat.{◌+◌, ◌*◌, ◌≤◌}
use native.Mathlib.Omega.{arith}
use Rattle.model.proofs.Thresholds.SettingsLaws.{settled}
use Rattle.model.proofs.BetweenArrivals.ReportLaws.{value_count_is}
use Rattle.snapshot_file.specs.Layout.{trailer_length}
use Rattle.snapshot_file.proofs.LayoutLaws.{length_of_decks, decks_few}
use Rattle.snapshot_file.proofs.file_length.Goals as goal
use Rattle.snapshot_file.proofs.file_length.Goals.{After-decks_place}

-- The desk part and the decks together.
both_few : (c : After-decks_place)
    →
    c.decks_place.result + c.args.settings.sites * c.deck_size.result ≤ 3000000
both_few c =
    omega (
      arith,
      decks_few c.args.settings c.deck_size.result c.requires
          c.deck_size.ensures,
      c.decks_place.ensures,
      (settled c.args.settings c.requires).universe.at_most,
      (settled c.args.settings c.requires).sites.at_most,
      value_count_is,
    )

pub overflow_mul-decks : goal.overflow_mul-decks
overflow_mul-decks c =
    omega (
      arith,
      decks_few c.args.settings c.deck_size.result c.requires
          c.deck_size.ensures,
    )

pub overflow_add-result : goal.overflow_add-result
overflow_add-result c =
    omega (arith, both_few c)

pub overflow_add-result-2 : goal.overflow_add-result-2
overflow_add-result-2 c =
    omega (arith, both_few c)

pub returns : goal.returns
returns c =
    let settings = c.args.settings in
    (λ i. c.decks_place.ensures i + settings.sites * c.deck_size.ensures i
    + trailer_length)
    ∙ sym (length_of_decks settings)
