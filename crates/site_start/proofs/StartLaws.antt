-- Starting all sites: how much memory that takes at most.
use Prim.Native.Nat.{◌*◌, ◌≤◌}
use mathlib.Core.Path.{◌≡◌}
use native.Mathlib.Nat.{mul-le-mul}
use native.Mathlib.Omega.{arith}
use Rattle.model.specs.declared.Settings.{Settings}
use Rattle.model.specs.Refusals.{no_refusal}
use Rattle.model.specs.Limits.{most_sites, most_site_words}
use Rattle.model.specs.Settings.{settings_refusal}
use Rattle.model.specs.SiteMemory.{site_words}
use Rattle.model.specs.NetworkMemory.{sites_words}
use Rattle.model.proofs.Thresholds.SettingsLaws.{settled}
use Rattle.model.proofs.BetweenArrivals.ReportLaws.{value_count_is}

-- The memory of all sites, at most.
pub words_fit : (settings : Settings)
    → settings_refusal settings ≡ no_refusal
    → sites_words settings ≤ most_sites * most_site_words
words_fit settings none =
    let known = settled settings none in
    let each : site_words settings ≤ most_site_words =
    omega (arith, known.capacity.at_most, value_count_is) in
    omega (arith, mul-le-mul known.sites.at_most each)
