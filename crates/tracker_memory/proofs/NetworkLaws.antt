-- What the tests of a whole network are worth, test by test.
--
--   counts_fit                        numbers that can be added up
--   rest_decides                      a row of the test
--   bench_counts                      what rest asks, from what is consistent
use mathlib.Core.Path.{◌≡◌, subst}
use mathlib.Core.Bool.{Bool, true}
use mathlib.Core.List.{List}
use Prim.Native.Nat.{ℕ, ◌*◌, ◌<◌}
use native.Mathlib.Omega.{arith}
use lib.ListN.{get_or, drop}
use Rattle.model.specs.declared.Settings.{Settings}
use Rattle.model.specs.declared.Sites.{Sites}
use Rattle.model.specs.declared.CoordinatorRecord.{CoordinatorRecord}
use Rattle.model.specs.SiteMemory.{site_words, site_in}
use Rattle.model.specs.CoordinatorMemory.{coordinator_in, coordinator_consistent}
use Rattle.model.specs.NetworkMemory.{network_in, sites_consistent, at_rest_together, bench_consistent, network_consistent}
use Rattle.model.specs.SoundNetwork.{SoundSite}
use Rattle.model.proofs.Soundness.ConsistentCoordinator.{coordinator_within_of}
use Rattle.model.proofs.Soundness.ConsistentNetwork.{sites_sound_of, bench_rows}
use Rattle.site_memory.proofs.SitesReading.{get_d_sites_in, enough_records}
use Rattle.model.specs.Held.{no_record}
use Rattle.bench_memory.specs.Promises.{SitesFit}
use Rattle.tracker_memory.specs.Promises.{AllCountsFit}

pub counts_fit : {settings : Settings} {site_memory : List ℕ}
    → SitesFit settings site_memory
    → (sites : Sites) (coordinator : CoordinatorRecord) (coordinator_numbers : List ℕ)
    → sites_consistent settings.sites settings sites.records site_memory ≡ true
    → coordinator_consistent settings (coordinator_in settings coordinator coordinator_numbers) ≡
    true
    → AllCountsFit settings sites coordinator.total
counts_fit {settings} {site_memory} fits sites coordinator coordinator_numbers sites-hold
    coordinator_holds =
    let k = settings.sites in
    let read = sites_sound_of k settings sites.records site_memory fits.long_enough
    sites-hold in
    let enough = enough_records k settings sites.records site_memory read.all_read in
    let sound : (j : ℕ) → j < k
    → SoundSite settings
    (site_in settings (get_or sites.records j no_record)
    (drop (j * site_words settings) site_memory))
    = λ j j<.
    subst (SoundSite settings)
    (get_d_sites_in no_record k settings sites.records site_memory j j< enough)
    (read.each_sound j j<) in
    record {
      records_fit = record {
        settings_accepted = fits.settings_accepted;
        all_records = enough;
        pending_within = λ j j<.
            omega (arith, (sound j j<).pending_below, (sound j j<).threshold_within);
        arrivals_within = λ j j<. (sound j j<).arrivals_within;
      };
      total_within = (coordinator_within_of settings
          (coordinator_in settings coordinator coordinator_numbers) coordinator_holds
          ).total_within;
    }

-- ---- The rows of the test

module _ (settings : Settings) (sites : Sites) (coordinator : CoordinatorRecord)
    (site_memory coordinator_memory : List ℕ) where
  abbrev bench_test : Bool
  bench_test = bench_consistent settings sites coordinator site_memory coordinator_memory

  -- Where each is consistent, rest decides.
  pub rest_decides : bench_test ≡ true
      → at_rest_together (network_in settings sites coordinator site_memory coordinator_memory)
      ≡ network_consistent settings sites coordinator site_memory coordinator_memory
  rest_decides holds = rw holds

  pub bench_counts : SitesFit settings site_memory
      → bench_test ≡ true
      → AllCountsFit settings sites coordinator.total
  bench_counts fits holds =
      let rows = bench_rows settings sites coordinator site_memory coordinator_memory holds in
      counts_fit fits sites coordinator coordinator_memory rows.sites_row
      rows.coordinator_row
