-- Length by length.
use Prim.Native.Nat.{◌+◌, ◌≤◌}
use mathlib.Core.Path.{◌≡◌}
use native.Mathlib.Nat.{mul-le-mul}
use native.Mathlib.Omega.{arith}
use Rattle.model.specs.Limits.{most_site_words}
use Rattle.model.specs.CoordinatorMemory.{coordinator_words}
use Rattle.model.proofs.Thresholds.SettingsLaws.{settled}
use Rattle.model.proofs.BetweenArrivals.ReportLaws.{value_count_is}
use Rattle.library_lengths.proofs.lengths_of.Goals as goal

pub overflow_mul-result : goal.overflow_mul-result
overflow_mul-result c =
    let known = settled c.args.settings c.requires in
    let each : c.site_words-site.result ≤ most_site_words =
    omega (arith, c.site_words-site.ensures, known.capacity.at_most, value_count_is) in
    omega (arith, mul-le-mul known.sites.at_most each)

pub returns : goal.returns
returns c =
    let settings = c.args.settings in
    let desk : settings.universe + 1024 ≡ coordinator_words settings = omega (arith, value_count_is)
    in
    cc
