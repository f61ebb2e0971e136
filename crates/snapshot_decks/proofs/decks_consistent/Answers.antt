-- A deck of the most slots has 13,024 numbers.
use native.Mathlib.Omega.{arith}
use Rattle.model.proofs.Thresholds.SettingsLaws.{settled}
use Rattle.model.proofs.BetweenArrivals.ReportLaws.{value_count_is}
use Rattle.snapshot_decks.proofs.decks_consistent.Goals as goal

pub test_decks-requires : goal.test_decks-requires
test_decks-requires c =
    record {
      whole = c.requires;
      room =
          omega (
            arith,
            (settled c.args.settings c.requires.settings_accepted).capacity.at_most,
            value_count_is,
          );
    }
