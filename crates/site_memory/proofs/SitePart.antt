-- The part of the sites' memory that is one site's, as the code finds it: from j times a site's
-- words on, to the end.
--
--   words_small, all_small   a site's words, and those of all sites
--   few_sites, start_small   a known site's number, and where its part starts
--   part, part_is            the part, with the words that the code computed
-- Letter: j a site.
use mathlib.Core.Path.{◌≡◌}
use mathlib.Core.List.{List}
use Prim.Native.Nat.{ℕ, ◌-◌, ◌*◌, ◌≤◌, ◌<◌}
use native.Mathlib.Nat.{mul-le-mul, le_of_lt}
use native.Mathlib.Omega.{arith}
use lib.ListN.{length, take, drop, length-drop}
use lib.Seq.{take_all}
use Rattle.model.specs.declared.Settings.{Settings}
use Rattle.model.specs.Limits.{most_sites, most_site_words}
use Rattle.model.specs.SiteMemory.{site_words}
use Rattle.model.specs.NetworkMemory.{sites_words}
use Rattle.model.proofs.Thresholds.SettingsLaws.{Settled}
use Rattle.model.proofs.BetweenArrivals.ReportLaws.{value_count_is}

-- Numbers of memory, and their bytes, are far from what a machine number holds.
module _ {settings : Settings} (fit : Settled settings) where
  pub words_small : site_words settings ≤ most_site_words
  words_small = omega (arith, fit.capacity.at_most, value_count_is)

  pub all_small : sites_words settings ≤ most_sites * most_site_words
  all_small = mul-le-mul fit.sites.at_most words_small

  module _ {j : ℕ} (known : j < settings.sites) where
    pub few_sites : j < most_sites
    few_sites = omega (arith, known, fit.sites.at_most)

    pub start_small : j * site_words settings ≤ most_sites * most_site_words
    start_small = mul-le-mul (le_of_lt few_sites) words_small

abbrev pub part : List ℕ → ℕ → ℕ → List ℕ
part memory j words = take (length memory - j * words) (drop (j * words) memory)

pub part_is : (settings : Settings) (memory : List ℕ) (j words : ℕ)
    → words ≡ site_words settings
    → part memory j words ≡ drop (j * site_words settings) memory
part_is settings memory j words words_are =
    let start = j * site_words settings in
    rw words_are
    (take_all (length memory - start) (drop start memory)
    (omega (arith, length-drop start memory)))
