-- Memory that is too short, or not: refusal 4 of a whole network.
use mathlib.Core.Path.{◌≡◌}
use mathlib.Core.List.{List}
use Prim.Native.Nat.{ℕ, ◌+◌, ◌*◌, ◌≤◌}
use lib.Dec.{ltb}
use lib.ListN.{length}
use borrow.Author.Tests.{le-ltb}
use Rattle.model.specs.declared.Settings.{Settings}
use Rattle.model.specs.Refusals.{no_refusal}
use Rattle.model.specs.Settings.{settings_refusal}
use Rattle.model.specs.Limits.{most_sites, most_site_words}
use Rattle.model.specs.SiteMemory.{site_words}
use Rattle.model.specs.NetworkMemory.{sites_words, network_too_short}
use Rattle.model.proofs.Thresholds.SettingsLaws.{settled}
use Rattle.model.proofs.BetweenArrivals.ReportLaws.{value_count_is}
use Rattle.site_memory.proofs.SitePart.{all_small}

-- The words of all sites, with those of one that the code computed.
pub all_words : (settings : Settings) (words : ℕ)
    → settings_refusal settings ≡ no_refusal
    → words ≡ site_words settings
    → settings.sites * words ≤ most_sites * most_site_words
all_words settings words none words_are = rw words_are (all_small (settled settings none))

module _ (settings : Settings) (sites coordinator : List ℕ) where
  pub coordinator_short : sites_words settings ≤ length sites
      → ltb (length coordinator) (settings.universe + 1024)
      ≡ network_too_short settings sites coordinator
  coordinator_short long =
      rw (le-ltb (length sites) (sites_words settings) long, value_count_is)
