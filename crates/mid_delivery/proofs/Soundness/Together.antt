-- The sites and the coordinator of a network together, at rest and in mid-delivery: each sound by
-- itself, and all arrivals are counted: in the total, in a site's pending, or in a message that is
-- on its way. PROOF.md N2 and section 7, for every network, arisen or not.
--
--   Together settings network informed flight   the first so many sites have the coordinator's
--                                               threshold, and so much is on its way
--   total_bounded, threshold_bounded            the total ≤ k site limits, three thresholds ≤ one
--   together_site, together_coordinator         one site or the coordinator is changed
-- Letters: k the sites, j one of them.
use mathlib.Core.Path.{◌≡◌, ◌∙◌}
use Prim.Native.Nat.{ℕ, ◌+◌, ◌*◌, ◌≤◌, ◌<◌}
use native.Mathlib.Omega.{arith}
use lib.ListN.{length, length-set}
use Rattle.laws.proofs.Lists.{at_set}
use Rattle.laws.proofs.Sums.{sum_below, sum_below_le, sum_below_const, sum_below_set}
use Rattle.model.specs.declared.Settings.{Settings}
use Rattle.model.specs.Limits.{site_limit}
use Rattle.model.specs.Settings.{threshold_of}
use Rattle.model.specs.Site.{Site, fresh_site}
use Rattle.model.specs.Coordinator.{Coordinator}
use Rattle.model.specs.Network.{Network, site_at, with_site, with_coordinator}
use Rattle.model.specs.SoundNetwork.{SoundSite, SoundNumbers}
use Rattle.model.proofs.Thresholds.SettingsLaws.{Settled}
use Rattle.model.proofs.Thresholds.Threshold.{threshold_limit}
use Rattle.model.proofs.Deliveries.DeliveryMessages.{pending_at}
use Rattle.model.proofs.BetweenArrivals.SitesInvariant.{arrivals_at}

-- What holds of all sites and the coordinator, with so many sites informed of its threshold.
pub record Together (settings : Settings) (network : Network) (informed flight : ℕ) : Type 0 where
  pub all_sites : length network.sites ≡ settings.sites
  pub sites_sound : (j : ℕ) → j < settings.sites → SoundSite settings (site_at network j)
  pub numbers : SoundNumbers settings network.coordinator
  -- a site has the coordinator's threshold, or one that was no larger
  pub informed_same : (j : ℕ) → j < informed
      → (site_at network j).threshold ≡ network.coordinator.threshold
  pub thresholds_below : (j : ℕ) → j < settings.sites
      → (site_at network j).threshold ≤ network.coordinator.threshold
  pub all_counted : network.coordinator.total + flight
      + sum_below (pending_at network.sites) settings.sites
      ≡ sum_below (arrivals_at network.sites) settings.sites

module _ {settings : Settings} {network : Network} {informed flight : ℕ}
    (together : Together settings network informed flight) where
  -- ---- Bounds

  -- All arrivals are at most k times the limit.
  pub arrivals_bounded : sum_below (arrivals_at network.sites) settings.sites
      ≤ settings.sites * site_limit
  arrivals_bounded =
      omega (
        arith,
        sum_below_le (arrivals_at network.sites) (λ j. site_limit) settings.sites
            (λ j j<. (together.sites_sound j j<).arrivals_within),
        sum_below_const site_limit settings.sites,
      )

  -- The total, with what is on its way, is at most all arrivals.
  pub total_bounded : network.coordinator.total + flight ≤ settings.sites * site_limit
  total_bounded = omega (arith, arrivals_bounded, together.all_counted)

  -- A threshold that a base up to the total gives is at most a third of a site's limit.
  pub threshold_of_total : Settled settings
      → (base : ℕ) → base ≤ network.coordinator.total + flight
      → 3 * threshold_of settings base ≤ site_limit
  threshold_of_total fit base within =
      threshold_limit settings fit.sites.at_least site_limit base fit.epsilon.at_most
      (omega arith) (omega (arith, total_bounded))

  -- The coordinator's own threshold is such a one.
  pub threshold_bounded : Settled settings
      → 3 * network.coordinator.threshold ≤ site_limit
  threshold_bounded fit =
      omega (
        arith,
        together.numbers.threshold_of_base,
        threshold_of_total fit network.coordinator.base
            (omega (arith, together.numbers.base_within)),
      )

  -- ---- One site changed

  module _ (j : ℕ) (site : Site) (known : j < settings.sites) where
    inside : j < length network.sites
    inside = omega (arith, together.all_sites)

    -- Place i after place j was set.
    at_site : (P : ℕ → Site → Type 0)
        → P j site
        → (i : ℕ) → ((i ≡ j → ⊥) → P i (site_at network i))
        → P i (site_at (with_site network j site) i)
    at_site P new i old =
        at_set P fresh_site network.sites j site inside new i old

    -- What is no longer pending is on its way; what arrived is pending, or on its way.
    pub together_site : (informed' flight' : ℕ)
        → SoundSite settings site
        → ((i : ℕ) → i < informed' → (i ≡ j → ⊥)
        → (site_at network i).threshold ≡ network.coordinator.threshold)
        → (j < informed' → site.threshold ≡ network.coordinator.threshold)
        → site.threshold ≤ network.coordinator.threshold
        → flight' + (site.pending + (site_at network j).arrivals)
        ≡ flight + ((site_at network j).pending + site.arrivals)
        → Together settings (with_site network j site) informed' flight'
    together_site informed' flight' sound others_same same below moves = record {
      all_sites = length-set network.sites j site ∙ together.all_sites;
      sites_sound = λ i i<.
          at_site (λ _ x. SoundSite settings x) sound i (λ _. together.sites_sound i i<);
      numbers = together.numbers;
      informed_same = λ i i<.
          at_site (λ i' x. i' < informed' → x.threshold ≡ network.coordinator.threshold)
          same i (λ other i<'. others_same i i<' other) i<;
      thresholds_below = λ i i<.
          at_site (λ _ x. x.threshold ≤ network.coordinator.threshold) below i
          (λ _. together.thresholds_below i i<);
      all_counted = omega (
        arith,
        together.all_counted,
        sum_below_set (λ (x : Site). x.pending) fresh_site network.sites j settings.sites
            site inside known,
        sum_below_set (λ (x : Site). x.arrivals) fresh_site network.sites j settings.sites
            site inside known,
      );
    }

  -- ---- The coordinator changed

  -- Its total gains what was on its way, and its threshold does not fall.
  pub together_coordinator : (c : Coordinator) (informed' flight' : ℕ)
      → SoundNumbers settings c
      → network.coordinator.threshold ≤ c.threshold
      → ((j : ℕ) → j < informed' → (site_at network j).threshold ≡ c.threshold)
      → c.total + flight' ≡ network.coordinator.total + flight
      → Together settings (with_coordinator network c) informed' flight'
  together_coordinator c informed' flight' numbers rises same moves = record {
    all_sites = together.all_sites;
    sites_sound = together.sites_sound;
    numbers = numbers;
    informed_same = same;
    thresholds_below = λ j j<. omega (arith, together.thresholds_below j j<);
    all_counted = omega (arith, together.all_counted);
  }
