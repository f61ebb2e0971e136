-- A network between arrivals (PROOF.md N1 to N5, with the account of messages M1 to M5).
--
--   figures_of                the numbers of a network that the account speaks of
--   NetworkOk                 what holds between arrivals
--   network_fresh             of a fresh network
--   ArrivalKnown              an accepted arrival: site, item and value are known
--   known_of_address          an arrival whose address is not refused is one
--   known_of_no_refusal       and so one that is not refused at all
use mathlib.Core.Path.{◌≡◌, refl, sym, ap, ◌∙◌}
use mathlib.Core.List.{List, []}
use Prim.Native.Nat.{ℕ, ◌+◌, ◌*◌, ◌≤◌, ◌<◌}
use native.Mathlib.Omega.{arith}
use lib.Dec.{lit<}
use lib.ListN.{length, get_or, length-replicate}
use borrow.Author.Tests.{leb-false, ltb-false}
use Rattle.laws.proofs.Lists.{get_d_replicate_default}
use Rattle.laws.proofs.Sums.{sum_below, sum_below_zero, sum_of, sum_of_nil}
use Rattle.model.specs.declared.Settings.{Settings}
use Rattle.model.specs.declared.Arrival.{Arrival}
use Rattle.model.specs.declared.Message.{Message}
use Rattle.model.specs.declared.Phase.TheVariants.{Idle}
use Rattle.model.specs.Refusals.{no_refusal, unknown_site, unknown_item, value_too_large}
use Rattle.model.specs.Limits.{top_value, value_count, probing_messages}
use Rattle.model.specs.Settings.{threshold_of}
use Rattle.model.specs.Counters.{unreported}
use Rattle.model.specs.Site.{Site, fresh_site, address_refusal, room_refusal, arrival_refusal, up_to}
use Rattle.model.specs.Network.{Network, fresh_network}
use Rattle.model.specs.Claims.{counted}
use Rattle.model.proofs.Thresholds.RefusalLaws.{passed, both_accepted}
use Rattle.model.proofs.Thresholds.SettingsLaws.{Settled}
use Rattle.model.proofs.Thresholds.Threshold.{threshold_of_zero}
use Rattle.model.proofs.MessageCount.Rounds.{Figures, Account, fresh_figures, account_fresh}
use Rattle.model.proofs.OneSite.ArrivalLaws.{up_to_zeros}
use Rattle.model.proofs.OneSite.SiteInvariant.{site_fresh}
use Rattle.model.proofs.Deliveries.DeliveryMessages.{pending_at}
use Rattle.model.proofs.BetweenArrivals.SitesInvariant.{SitesOk, unreported_at}
use Rattle.model.proofs.BetweenArrivals.QuantileLaws.{EarlyValues, early_fresh, LateQuantile}

-- ---- What holds

-- The numbers of a network that the account speaks of.
abbrev pub figures_of : Settings → Network → List Arrival → List Message → Figures
figures_of settings network accepted messages = record {
  threshold = network.coordinator.threshold;
  base = network.coordinator.base;
  arrivals = counted accepted;
  pending = sum_below (pending_at network.sites) settings.sites;
  signals = network.coordinator.signals;
  unreported = sum_below (unreported_at network.sites) settings.sites;
  messages = length messages;
}

-- What holds of a network at rest, with the arrivals accepted and all messages so far.
pub record NetworkOk (settings : Settings) (network : Network)
    (accepted : List Arrival) (messages : List Message) : Type 0 where
  -- of each site and item: its arrivals there, and the sum of its item reports from there
  pub arrived : ℕ → ℕ → ℕ
  pub reported : ℕ → ℕ → ℕ
  -- N1
  pub idle : network.coordinator.phase ≡ Idle
  pub few_signals : network.coordinator.signals < settings.sites
  pub threshold_is : network.coordinator.threshold
      ≡ threshold_of settings network.coordinator.base
  pub sites_ok : SitesOk settings network.coordinator.threshold network.sites
      arrived reported accepted
  -- N2
  pub total_is : network.coordinator.total
      ≡ network.coordinator.base
      + network.coordinator.signals * network.coordinator.threshold
  -- N3
  pub estimates_long : length network.coordinator.estimates ≡ settings.universe
  pub estimates_are : (item : ℕ)
      → get_or network.coordinator.estimates item 0
      ≡ sum_below (λ j. reported j item) settings.sites
  -- N4 and N5
  pub early_values : network.coordinator.threshold ≡ 1
      → EarlyValues network.coordinator.histogram accepted
  pub late_quantile : 2 ≤ network.coordinator.threshold
      → LateQuantile settings.rank network.coordinator.quantile
      network.coordinator.base accepted
  -- M1 to M5
  pub account : Account settings.sites settings.epsilon (probing_messages settings)
      (figures_of settings network accepted messages)

-- ---- A fresh network

module _ (settings : Settings) (fit : Settled settings) where
  abbrev fresh : Network
  fresh = fresh_network settings

  fresh_at : (j : ℕ) → get_or fresh.sites j fresh_site ≡ fresh_site
  fresh_at j = get_d_replicate_default fresh_site settings.sites j

  sum_fresh : (f : Site → ℕ) → f fresh_site ≡ 0
      → sum_below (λ j. f (get_or fresh.sites j fresh_site)) settings.sites ≡ 0
  sum_fresh f zero-then =
      sum_below_zero _ settings.sites (λ j _. ap f (fresh_at j) ∙ zero-then)

  sites_fresh : SitesOk settings 1 fresh.sites (λ j item. 0) (λ j item. 0) []
  sites_fresh = record {
    all_sites = length-replicate settings.sites fresh_site;
    each_ok = λ j j<k. rw (fresh_at j) (site_fresh settings);
    arrivals_add_up = sum_fresh (λ site. site.arrivals) refl;
    items_add_up = λ item. sum_below_zero _ settings.sites (λ j _. refl);
    values_add_up = λ value.
        sum_fresh (λ site. up_to value site.histogram) (up_to_zeros value value_count);
    values_known = refl;
  }

  figures_fresh : figures_of settings fresh [] [] ≡ fresh_figures
  figures_fresh =
      cc (
        sum_fresh (λ site. site.pending) refl,
        sum_fresh (λ site. sum_of unreported site.counters) (sum_of_nil unreported),
      )

  -- It holds of a fresh network.
  pub network_fresh : NetworkOk settings (fresh_network settings) [] []
  network_fresh = record {
    arrived = λ j item. 0;
    reported = λ j item. 0;
    idle = refl;
    few_signals = fit.sites.at_least;
    threshold_is = sym (threshold_of_zero settings);
    sites_ok = sites_fresh;
    total_is = omega arith;
    estimates_long = length-replicate {A = ℕ} settings.universe 0;
    estimates_are = λ item.
        get_d_replicate_default {A = ℕ} 0 settings.universe item
        ∙ sym (sum_below_zero (λ j. 0) settings.sites (λ j _. refl));
    early_values = λ _. early_fresh;
    late_quantile = λ two. absurd (omega arith);
    account =
        rw figures_fresh
        (account_fresh settings.sites settings.epsilon (probing_messages settings));
  }

-- ---- Arrivals that are accepted

-- Site, item and value of an arrival are within their ranges.
pub record ArrivalKnown (settings : Settings) (arrival : Arrival) : Type 0 where
  pub site_known : arrival.site < settings.sites
  pub item_known : arrival.item < settings.universe
  pub value_known : arrival.value ≤ top_value

-- Of an arrival whose address is not refused, they are.
pub known_of_address : (settings : Settings) (arrival : Arrival)
    → address_refusal settings arrival ≡ no_refusal
    → ArrivalKnown settings arrival
known_of_address settings arrival none =
    let site_row = passed _ unknown_site _ (lit< tt) none in
    let item-row = passed _ unknown_item _ (lit< tt) site_row.later_accepted in
    let Value-row = passed _ value_too_large _ (lit< tt) item-row.later_accepted in
    record {
      site_known = leb-false _ _ site_row.test_failed;
      item_known = leb-false _ _ item-row.test_failed;
      value_known = ltb-false _ _ Value-row.test_failed;
    }

pub known_of_no_refusal : (settings : Settings) (site : Site) (arrival : Arrival)
    → arrival_refusal settings site arrival ≡ no_refusal
    → ArrivalKnown settings arrival
known_of_no_refusal settings site arrival none =
    known_of_address settings arrival
    (both_accepted (address_refusal settings arrival) (room_refusal site) none).first_accepted
