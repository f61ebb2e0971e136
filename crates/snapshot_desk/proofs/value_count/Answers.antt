-- There are 1024.
use mathlib.Core.Path.{sym}
use Rattle.model.proofs.BetweenArrivals.ReportLaws.{value_count_is}
use Rattle.snapshot_desk.proofs.value_count.Goals as goal

pub returns : goal.returns
returns c = sym value_count_is
