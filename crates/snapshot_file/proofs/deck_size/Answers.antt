-- A site's memory has 1024 numbers for the values.
use native.Mathlib.Omega.{arith}
use Rattle.model.proofs.BetweenArrivals.ReportLaws.{value_count_is}
use Rattle.snapshot_file.proofs.deck_size.Goals as goal

pub returns : goal.returns
returns c = omega (arith, value_count_is)
