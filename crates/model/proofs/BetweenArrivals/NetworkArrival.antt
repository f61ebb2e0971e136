-- An accepted arrival keeps what holds of a network between arrivals (PROOF.md sections 3 and 6),
-- as far as the arrival's own messages go; NetworkClose has the close.
--
--   sites_then           the sites when the arrival is observed
--   estimates_then       N3 after the item report, if one is due
--   account_then         the account with no count report, or with one
--   kept_silent, kept_signal         the whole, where the round is not closed
use Rattle.std.specs.Prelude.{if◌then◌else◌}
use mathlib.Core.Path.{◌≡◌, refl, ap, ◌∙◌}
use mathlib.Core.Bool.{Bool, true, false}
use mathlib.Core.List.{List, [], ◌∷◌, ◌++◌}
use Prim.Native.Nat.{ℕ, ◌+◌, ◌*◌, ◌<◌}
use native.Mathlib.Omega.{arith}
use lib.Dec.{eqb}
use lib.ListN.{length, get_or, length-append}
use borrow.Author.Tests.{leb-false, eq-eqb}
use Rattle.laws.proofs.Sums.{sum_below}
use Rattle.model.specs.declared.Settings.{Settings}
use Rattle.model.specs.declared.Arrival.{Arrival}
use Rattle.model.specs.declared.Message.{Message}
use Rattle.model.specs.declared.Phase.TheVariants.{Idle}
use Rattle.model.specs.Refusals.{when}
use Rattle.model.specs.Limits.{value_count, probing_messages}
use Rattle.model.specs.Counters.{dropped_by}
use Rattle.model.specs.Site.{Site, placement_in, reports_item, reports_count, observed}
use Rattle.model.specs.Network.{Network, site_at}
use Rattle.model.specs.Claims.{counted}
use Rattle.model.proofs.Thresholds.SettingsLaws.{Settled}
use Rattle.model.proofs.BetweenArrivals.ReportLaws.{when_times, when_le, value_counted, estimates_reported, length_reported}
use Rattle.model.proofs.OneSite.ArrivalLaws.{counted_snoc}
use Rattle.model.proofs.OneSite.SiteInvariant.{ObservedOk, observed_ok}
use Rattle.model.proofs.Deliveries.DeliveryLoops.{network_of}
use Rattle.model.proofs.Deliveries.DeliveryMessages.{pending_at}
use Rattle.model.proofs.Deliveries.ArrivalParts.{observed_sites, first_messages, after_item_report, after_count_report, length_first_messages}
use Rattle.model.proofs.BetweenArrivals.SitesInvariant.{grow_at, sum_grow_at, SitesOk, unreported_at, sites_arrival, unreported_arrival, pending_arrival}
use Rattle.model.proofs.BetweenArrivals.QuantileLaws.{EarlyValues, early_arrival, late_arrival}
use Rattle.model.proofs.MessageCount.Rounds.{Figures, Account, account_arrival}
use Rattle.model.proofs.BetweenArrivals.NetworkInvariant.{NetworkOk, ArrivalKnown}

-- ---- The arrival observed

module _ {settings : Settings} {network : Network}
    {accepted : List Arrival} {messages : List Message}
    (fit : Settled settings)
    (ok : NetworkOk settings network accepted messages)
    (arrival : Arrival) (known : ArrivalKnown settings arrival) where
  abbrev site : Site
  site = site_at network arrival.site

  abbrev threshold : ℕ
  threshold = network.coordinator.threshold

  abbrev item_due : Bool
  item_due = reports_item settings site arrival

  abbrev sites : List Site
  sites = observed_sites settings network arrival

  -- The arrivals accepted, with this one.
  abbrev pub accepted_with : List Arrival
  accepted_with = accepted ++ (arrival ∷ [])

  -- All messages, with the arrival's own.
  abbrev pub messages_with : List Message
  messages_with = messages ++ first_messages settings network arrival

  -- Each site's arrivals of each item, with this one.
  abbrev pub arrived_with : ℕ → ℕ → ℕ
  arrived_with = grow_at ok.arrived arrival.site arrival.item 1

  -- Each site's reports of each item, with this one's report, if one is due.
  abbrev pub reported_with : ℕ → ℕ → ℕ
  reported_with =
      grow_at ok.reported arrival.site arrival.item
      (if reports_item settings (site_at network arrival.site) arrival
      then network.coordinator.threshold else 0)

  value_inside : arrival.value < value_count
  value_inside = value_counted arrival.value known.value_known

  same_threshold : site.threshold ≡ threshold
  same_threshold = (ok.sites_ok.each_ok arrival.site known.site_known).threshold_same

  observed_here : ObservedOk settings threshold
      (ok.arrived arrival.site) (ok.reported arrival.site) arrival
      item_due (reports_count site) (dropped_by (placement_in settings site arrival) site.counters)
      site (observed settings site arrival).site
  observed_here =
      observed_ok settings threshold (ok.arrived arrival.site) (ok.reported arrival.site)
      site arrival fit.capacity.at_least ok.account.threshold_positive value_inside
      (ok.sites_ok.each_ok arrival.site known.site_known)

  -- The sites when the arrival is observed.
  pub sites_then : SitesOk settings threshold sites arrived_with reported_with accepted_with
  sites_then = sites_arrival ok.sites_ok known.site_known known.value_known observed_here

  -- N3 after the item report, if one is due.
  pub estimates_then : (item : ℕ)
      → get_or (after_item_report settings network arrival).estimates item 0
      ≡ sum_below (λ j. reported_with j item) settings.sites
  estimates_then item =
      let inside : arrival.item < length network.coordinator.estimates =
      omega (arith, ok.estimates_long, known.item_known) in
      let amount : (if eqb item arrival.item
      then (if item_due then site.threshold else 0) else 0)
      ≡ (if eqb item arrival.item then (if item_due then threshold else 0) else 0) =
      ap (λ (t : ℕ). if eqb item arrival.item then (if item_due then t else 0) else 0)
      same_threshold in
      omega (
        arith,
        amount,
        ok.estimates_are item,
        estimates_reported network.coordinator.estimates arrival.item site.threshold item
            item_due inside,
        sum_grow_at ok.reported arrival.site arrival.item (if item_due then threshold else 0)
            settings.sites item known.site_known,
      )

  -- There is still an estimate for each item.
  pub estimates_long_then : length (after_item_report settings network arrival).estimates
      ≡ settings.universe
  estimates_long_then =
      length_reported network.coordinator.estimates arrival.item _ item_due
      ∙ ok.estimates_long

  -- ---- The account

  messages_length : length messages_with
      ≡ length messages + when item_due 1 + when (reports_count site) 1
  messages_length =
      omega (
        arith,
        length-append messages (first_messages settings network arrival),
        length_first_messages settings network arrival,
      )

  -- The figures after the arrival, with these signals.
  abbrev pub figures_with : ℕ → Figures
  figures_with signals = record {
    threshold = network.coordinator.threshold;
    base = network.coordinator.base;
    arrivals = counted accepted_with;
    pending = sum_below (pending_at sites) settings.sites;
    signals = signals;
    unreported = sum_below (unreported_at sites) settings.sites;
    messages = length messages_with;
  }

  -- The account after the arrival's own messages.
  pub account_then : (count_due : Bool) → reports_count site ≡ count_due
      → Account settings.sites settings.epsilon (probing_messages settings)
      (figures_with (network.coordinator.signals + when count_due 1))
  account_then count_due is-due =
      account_arrival {items = when item_due 1} {counts = when count_due 1} ok.account (record {
        same_threshold = refl;
        same_base = refl;
        one_arrival = counted_snoc accepted arrival;
        one_item = when_le item_due;
        unreported_moves =
            omega (
              arith,
              when_times item_due threshold,
              unreported_arrival ok.sites_ok known.site_known known.value_known
                  observed_here,
            );
        pending_moves =
            omega (
              arith,
              when_times count_due threshold,
              ap (λ (due : Bool). if due then threshold else 0) is-due,
              pending_arrival ok.sites_ok known.site_known known.value_known observed_here,
            );
        signals_move = refl;
        messages_move =
            omega (arith, messages_length, ap (λ (due : Bool). when due 1) is-due);
      })

  -- ---- The round goes on

  -- At threshold 1 every arrival has a count report, with its value.
  pub early_then : reports_count site ≡ true
      → network.coordinator.threshold ≡ 1
      → EarlyValues (after_count_report settings network arrival Idle).histogram accepted_with
  early_then due one =
      rw (
        eq-eqb network.coordinator.threshold 1 one,
        eq-eqb site.threshold 1 (same_threshold ∙ one),
      )
      (early_arrival network.coordinator.histogram accepted arrival value_inside
      (ok.early_values one))

  -- No count report goes out.
  pub kept_silent : reports_count site ≡ false
      → NetworkOk settings (network_of sites (after_item_report settings network arrival))
      accepted_with messages_with
  kept_silent silent = record {
    arrived = arrived_with;
    reported = reported_with;
    idle = refl;
    few_signals = ok.few_signals;
    threshold_is = ok.threshold_is;
    sites_ok = sites_then;
    total_is = ok.total_is;
    estimates_long = estimates_long_then;
    estimates_are = estimates_then;
    early_values = λ one.
        absurd (omega (
          arith,
          same_threshold,
          leb-false site.threshold (site.pending + 1) silent,
        ));
    late_quantile = λ two. late_arrival arrival (ok.late_quantile two);
    account = rw no_more at (account_then false silent);
  }
    where
      no_more : network.coordinator.signals + when false 1 ≡ network.coordinator.signals
      no_more = omega arith

  -- N2 after the count report.
  pub total_then : network.coordinator.total + site.threshold
      ≡ network.coordinator.base + (network.coordinator.signals + 1) * threshold
  total_then = omega (arith, ok.total_is, same_threshold)

  -- A count report goes out, and it is not the k-th.
  pub kept_signal : reports_count site ≡ true
      → (network.coordinator.signals + 1 ≡ settings.sites → ⊥)
      → NetworkOk settings (network_of sites (after_count_report settings network arrival Idle))
      accepted_with messages_with
  kept_signal due not_last = record {
    arrived = arrived_with;
    reported = reported_with;
    idle = refl;
    few_signals = omega (arith, ok.few_signals);
    threshold_is = ok.threshold_is;
    sites_ok = sites_then;
    total_is = total_then;
    estimates_long = estimates_long_then;
    estimates_are = estimates_then;
    early_values = early_then due;
    late_quantile = λ two. late_arrival arrival (ok.late_quantile two);
    account = account_then true due;
  }
