-- One arrival, and what it adds to the coordinator's numbers: to an estimate what was unreported,
-- to a value count one. From the closed form of its delivery. PROOF.md S7.
--
--   unreported_then, arrivals_then   all unreported and all arrivals after an arrival
--   estimate_then, value_then        an estimate and a value count after it
--   counted_then, grown_then         all of it, where the network then has its sites
use Rattle.std.specs.Prelude.{if◌then◌else◌}
use mathlib.Core.Path.{◌≡◌, refl, sym, ap, ◌∙◌}
use mathlib.Core.Bool.{Bool, true, false}
use mathlib.Core.List.{List, [], ◌∷◌}
use Prim.Native.Nat.{ℕ, zero, suc, ◌+◌, ◌≤◌, ◌<◌}
use native.Mathlib.Omega.{arith}
use lib.Dec.{eqb}
use lib.ListN.{length, get_or, set}
use Rattle.laws.proofs.Sums.{sum_below, sum_below_same, sum_below_set, sum_of}
use Rattle.laws.proofs.Updates.{sum_below_length}
use Rattle.model.specs.declared.Settings.{Settings}
use Rattle.model.specs.declared.Arrival.{Arrival}
use Rattle.model.specs.declared.Phase.TheVariants.{Idle}
use Rattle.model.specs.Counters.{unreported}
use Rattle.model.specs.Site.{Site, fresh_site, one_more_at, observed, reports_item, reported_value}
use Rattle.model.specs.Network.{Network, site_at}
use Rattle.model.specs.NetworkMemory.{all_arrivals}
use Rattle.model.specs.SoundNetwork.{estimate_of, count_of_value, Sound}
use Rattle.model.specs.NumberClaims.{all_unreported, Grown}
use Rattle.model.proofs.Thresholds.SettingsLaws.{Settled}
use Rattle.model.proofs.Deliveries.DeliveryLoops.{polled, told}
use Rattle.model.proofs.Deliveries.ArrivalParts.{observed_sites, after_item_report, after_count_report, ArrivalCase, no_count_report, count_reported, closes_one, closes_more, network_then}
use Rattle.model.proofs.BetweenArrivals.SitesInvariant.{arrivals_at, unreported_at}
use Rattle.model.proofs.Deliveries.ClosedSites.{sites_closed_keeps, sum_below_all_arrivals}
use Rattle.model.proofs.Soundness.SoundCounters.{unreported_in_sum}
use Rattle.model.proofs.Soundness.SoundSites.{ArrivalTaken, unreported_moves}

-- ---- Lists of numbers

-- A place that gained an amount: no other place changed, and one past the end stays 0.
pub get_d_gained : (numbers : List ℕ) (place amount x : ℕ)
    → get_or (set numbers place (get_or numbers place 0 + amount)) x 0 ≤ get_or numbers x 0 + amount
get_d_gained [] place amount x = omega arith
get_d_gained (y ∷ ys) zero amount zero = omega arith
get_d_gained (y ∷ ys) zero amount (suc x) = omega arith
get_d_gained (y ∷ ys) (suc place) amount zero = omega arith
get_d_gained (y ∷ ys) (suc place) amount (suc x) = get_d_gained ys place amount x

-- The sum by place over all sites is the claim's sum.
pub sum_below_all_unreported : (settings : Settings) (sites : List Site)
    → length sites ≡ settings.sites
    → sum_below (unreported_at sites) settings.sites ≡ all_unreported sites
sum_below_all_unreported settings sites all =
    ap (sum_below (unreported_at sites)) (sym all)
    ∙ sum_below_length (λ (site : Site). sum_of unreported site.counters) fresh_site all_unreported
    refl
    (λ site others.
    ap (λ (n : ℕ). n + all_unreported others) (sym (unreported_in_sum site.counters))) sites

-- ---- One arrival

module _ {settings : Settings} {network : Network} {arrival : Arrival}
    (fit : Settled settings) (sound : Sound settings network)
    (taken : ArrivalTaken settings (site_at network arrival.site) arrival) where
  abbrev site : Site
  site = site_at network arrival.site

  abbrev sites : List Site
  sites = observed_sites settings network arrival

  abbrev k : ℕ
  k = settings.sites

  inside : arrival.site < length network.sites
  inside = omega (arith, sound.all_sites, taken.known.site_known)

  value_counted_then : (value : ℕ)
      → get_or (after_count_report settings network arrival Idle).histogram value 0
      ≤ count_of_value network value + 1
  value_counted_then value = by_threshold (eqb network.coordinator.threshold 1)
    where
      counts : List ℕ
      counts = network.coordinator.histogram

      by_threshold : (one : Bool)
          → get_or (if one then one_more_at counts (reported_value site arrival) else counts) value
          0
          ≤ get_or counts value 0 + 1
      by_threshold true = get_d_gained counts (reported_value site arrival) 1 value
      by_threshold false = omega arith

  -- A close changes neither counters nor arrivals of a site.
  then_keeps : (part : Site → ℕ)
      → ((x : Site) → part (polled x) ≡ part x)
      → ((t : ℕ) (x : Site) → part (told t x) ≡ part x)
      → (which : ArrivalCase settings network arrival) (j : ℕ)
      → part (site_at (network_then which) j) ≡ part (get_or sites j fresh_site)
  then_keeps part polled-keeps told-keeps (no_count_report none) j = refl
  then_keeps part polled-keeps told-keeps (count_reported due few) j = refl
  then_keeps part polled-keeps told-keeps (closes_one due all one) j =
      sites_closed_keeps part polled-keeps told-keeps settings sites _ j
  then_keeps part polled-keeps told-keeps (closes_more due all more) j =
      sites_closed_keeps part polled-keeps told-keeps settings sites _ j

  -- A sum over the sites then: at the arrival's site the observed site stands for the one before.
  sum_then : (part : Site → ℕ)
      → ((x : Site) → part (polled x) ≡ part x)
      → ((t : ℕ) (x : Site) → part (told t x) ≡ part x)
      → (which : ArrivalCase settings network arrival)
      → sum_below (λ j. part (site_at (network_then which) j)) k + part site
      ≡ sum_below (λ j. part (site_at network j)) k + part (observed settings site arrival).site
  sum_then part polled-keeps told-keeps which =
      omega (
        arith,
        sum_below_same (λ j. part (site_at (network_then which) j))
            (λ j. part (get_or sites j fresh_site)) k
            (λ j _. then_keeps part polled-keeps told-keeps which j),
        sum_below_set part fresh_site network.sites arrival.site k
            (observed settings site arrival).site inside taken.known.site_known,
      )

  -- One arrival more.
  arrivals_then : (which : ArrivalCase settings network arrival)
      → sum_below (arrivals_at (network_then which).sites) k
      ≡ sum_below (arrivals_at network.sites) k + 1
  arrivals_then which =
      omega (arith, sum_then (λ (x : Site). x.arrivals) (λ x. refl) (λ t x. refl) which)

  -- One unreported more, but for those that were reported or lost.
  unreported_then : (which : ArrivalCase settings network arrival)
      → sum_below (unreported_at (network_then which).sites) k
      + (if reports_item settings site arrival then site.threshold else 0)
      ≤ sum_below (unreported_at network.sites) k + 1
  unreported_then which =
      omega (
        arith,
        sum_then (λ (x : Site). sum_of unreported x.counters) (λ x. refl) (λ t x. refl) which,
        unreported_moves fit.capacity.at_least taken
            (sound.sites_sound arrival.site taken.known.site_known),
      )

  estimates_then : (which : ArrivalCase settings network arrival)
      → (network_then which).coordinator.estimates
      ≡ (after_item_report settings network arrival).estimates
  estimates_then (no_count_report none) = refl
  estimates_then (count_reported due few) = refl
  estimates_then (closes_one due all one) = refl
  estimates_then (closes_more due all more) = refl

  -- An estimate gains what is reported of its item, if anything is.
  estimate_then : (which : ArrivalCase settings network arrival) (item : ℕ)
      → estimate_of (network_then which) item
      ≤ estimate_of network item
      + (if reports_item settings site arrival then site.threshold else 0)
  estimate_then which item =
      rw (estimates_then which) (by_report (reports_item settings site arrival))
    where
      estimates : List ℕ
      estimates = network.coordinator.estimates

      by_report : (due : Bool)
          → get_or (if due then set estimates arrival.item
          (get_or estimates arrival.item 0 + site.threshold) else estimates) item 0
          ≤ get_or estimates item 0 + (if due then site.threshold else 0)
      by_report true = get_d_gained estimates arrival.item site.threshold item
      by_report false = omega arith

  -- A value count gains at most the arrival.
  value_then : (which : ArrivalCase settings network arrival) (value : ℕ)
      → count_of_value (network_then which) value ≤ count_of_value network value + 1
  value_then (no_count_report none) value = omega arith
  value_then (count_reported due few) value = value_counted_then value
  value_then (closes_one due all one) value = value_counted_then value
  value_then (closes_more due all more) value = value_counted_then value

  -- One arrival with full delivery, in each of its cases.
  pub counted_then : (which : ArrivalCase settings network arrival)
      → length (network_then which).sites ≡ k
      → all_arrivals (network_then which).sites ≡ all_arrivals network.sites + 1
  counted_then which all =
      omega (
        arith,
        sum_below_all_arrivals settings network.sites sound.all_sites,
        sum_below_all_arrivals settings (network_then which).sites all,
        arrivals_then which,
      )

  pub grown_then : (which : ArrivalCase settings network arrival)
      → length (network_then which).sites ≡ k
      → Grown network (network_then which)
  grown_then which all =
      let unreported-before : sum_below (unreported_at network.sites) k
      ≡ all_unreported network.sites =
      sum_below_all_unreported settings network.sites sound.all_sites in
      let unreported-after : sum_below (unreported_at (network_then which).sites) k
      ≡ all_unreported (network_then which).sites =
      sum_below_all_unreported settings (network_then which).sites all in
      let counted = counted_then which all in
      record {
        estimate_grows = λ item.
            omega (arith, estimate_then which item, unreported_then which, counted);
        value_grows = λ value. omega (arith, value_then which value, counted);
      }
