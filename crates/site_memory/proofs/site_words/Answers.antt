-- `site_memory::site_words` meets its contract: the histogram has 1024 places.
use native.Mathlib.Omega.{arith}
use Rattle.model.proofs.Thresholds.SettingsLaws.{settled}
use Rattle.model.proofs.BetweenArrivals.ReportLaws.{value_count_is}
use Rattle.site_memory.proofs.site_words.Goals as goal

pub overflow_mul-result : goal.overflow_mul-result
overflow_mul-result c =
    omega (arith, (settled c.args.settings c.requires).capacity.at_most)

pub overflow_add-result : goal.overflow_add-result
overflow_add-result c =
    omega (arith, (settled c.args.settings c.requires).capacity.at_most)

pub returns : goal.returns
returns c = omega (arith, value_count_is)
