-- An accepted arrival whose count report closes the round keeps what holds of a network between
-- arrivals (PROOF.md sections 3, 5 and 6); and so does every accepted arrival.
--
--   base_is_counted          the new base is the number of all arrivals
--   kept_close_one           a close that leaves threshold 1
--   kept_close_more          a close that probes
--   network_ok_arrival       every accepted arrival with full delivery
use mathlib.Core.Path.{◌≡◌, refl, sym, ap, ◌∙◌, subst}
use mathlib.Core.Bool.{true}
use mathlib.Core.List.{List, [], ◌∷◌, ◌++◌}
use Prim.Native.Nat.{ℕ, ◌+◌, ◌*◌, ◌≤◌, ◌<◌}
use native.Mathlib.Omega.{arith}
use lib.ListN.{length, length-append}
use Rattle.laws.proofs.Sums.{sum_below, sum_below_const, sum_of}
use Rattle.model.specs.declared.Settings.{Settings}
use Rattle.model.specs.declared.Arrival.{Arrival}
use Rattle.model.specs.declared.Message.{Message}
use Rattle.model.specs.declared.Phase.TheVariants.{Idle}
use Rattle.model.specs.Limits.{top_value, closing_messages, probing_messages}
use Rattle.model.specs.Settings.{threshold_of}
use Rattle.model.specs.Counters.{unreported}
use Rattle.model.specs.Site.{Site, reports_count}
use Rattle.model.specs.Coordinator.{with_base, with_quantile, at_rest, enough}
use Rattle.model.specs.Network.{Network, site_at, after_arrival}
use Rattle.model.specs.Claims.{counted, below}
use Rattle.model.proofs.Thresholds.SettingsLaws.{Settled}
use Rattle.model.proofs.Thresholds.Threshold.{threshold_positive, threshold_mono, threshold_low, threshold_high, base_of_threshold_one}
use Rattle.model.proofs.MessageCount.Rounds.{Figures, Account, CloseIn, account_close_quiet, account_close_probing}
use Rattle.model.proofs.Deliveries.DeliveryLoops.{network_of}
use Rattle.model.proofs.Deliveries.DeliveryMessages.{pending_at}
use Rattle.model.proofs.Deliveries.DeliveryHalvings.{count_up_to}
use Rattle.model.proofs.Deliveries.DeliveryClose.{enough_at, quantile_found, sites_closed, close_messages_one, close_messages_more, length_close_messages_one, length_close_messages_more}
use Rattle.model.proofs.Deliveries.ArrivalParts.{observed_sites, first_messages, after_count_report, base_after, closed_one_after, closed_more_after, ArrivalCase, no_count_report, count_reported, closes_one, closes_more, arrival_case, network_then, messages_then}
use Rattle.model.proofs.Deliveries.AfterArrival.{after_arrival_lem}
use Rattle.model.proofs.BetweenArrivals.SitesInvariant.{SitesOk, unreported_at, few_pending, sum_closed, sites_close}
use Rattle.model.proofs.BetweenArrivals.QuantileLaws.{LateQuantile, late_of_halving}
use Rattle.model.proofs.BetweenArrivals.NetworkInvariant.{NetworkOk, ArrivalKnown}
use Rattle.model.proofs.BetweenArrivals.NetworkArrival.{arrived_with, reported_with, figures_with, sites_then, estimates_then, estimates_long_then, account_then, early_then, total_then, kept_silent, kept_signal}

module _ {settings : Settings} {network : Network}
    {accepted : List Arrival} {messages : List Message}
    (fit : Settled settings)
    (ok : NetworkOk settings network accepted messages)
    (arrival : Arrival) (known : ArrivalKnown settings arrival)
    (due : reports_count (site_at network arrival.site) ≡ true)
    (last : network.coordinator.signals + 1 ≡ settings.sites) where
  abbrev k : ℕ
  k = settings.sites

  abbrev accepted' : List Arrival
  accepted' = accepted ++ (arrival ∷ [])

  abbrev first : List Message
  first = first_messages settings network arrival

  abbrev sites : List Site
  sites = observed_sites settings network arrival

  abbrev base : ℕ
  base = base_after settings network arrival

  abbrev threshold' : ℕ
  threshold' = threshold_of settings (base_after settings network arrival)

  then_ok : SitesOk settings network.coordinator.threshold sites
      (arrived_with fit ok arrival known) (reported_with fit ok arrival known) accepted'
  then_ok = sites_then fit ok arrival known

  account_signalled : Account k settings.epsilon (probing_messages settings)
      (figures_with fit ok arrival known (network.coordinator.signals + 1))
  account_signalled = account_then fit ok arrival known true due

  -- The total and all pendings: every arrival is counted.
  pub base_is_counted : base_after settings network arrival ≡ counted accepted'
  base_is_counted =
      omega (arith, total_then fit ok arrival known, account_signalled.arrivals_are)

  rises : network.coordinator.threshold ≤ threshold'
  rises =
      rw ok.threshold_is
      (threshold_mono settings fit.sites.at_least
      (omega (arith, base_is_counted, account_signalled.arrivals_are)))

  closed_ok : SitesOk settings threshold' (sites_closed settings sites threshold')
      (arrived_with fit ok arrival known) (reported_with fit ok arrival known) accepted'
  closed_ok = sites_close then_ok threshold' rises

  -- ---- The account

  abbrev figures_closed : List Message → Figures
  figures_closed closing = record {
    threshold = threshold';
    base = base;
    arrivals = counted accepted';
    pending = sum_below (pending_at (sites_closed settings sites threshold')) k;
    signals = 0;
    unreported = sum_below (unreported_at (sites_closed settings sites threshold')) k;
    messages = length (messages ++ (first ++ closing));
  }

  close_in : (closing : List Message) (cost : ℕ)
      → length closing ≡ cost
      → CloseIn k cost (figures_with fit ok arrival known (network.coordinator.signals + 1))
      (figures_closed closing)
  close_in closing cost is-cost = record {
    all_signals = last;
    few_pending = few_pending then_ok;
    threshold_rises = rises;
    base_is_arrivals = base_is_counted;
    same_arrivals = refl;
    nothing_pending = sum_closed then_ok (λ site. site.pending) threshold' ∙ none k;
    no_signals = refl;
    same_unreported = sum_closed then_ok (λ site. sum_of unreported site.counters) threshold';
    messages_move =
        omega (
          arith,
          length-append messages (first ++ closing),
          length-append first closing,
          length-append messages first,
        );
  }
    where
      none : (n : ℕ) → sum_below (λ j. 0) n ≡ 0
      none n = omega (arith, sum_below_const 0 n)

  account_one : threshold' ≡ 1
      → Account k settings.epsilon (probing_messages settings)
      (figures_closed (close_messages_one settings sites base))
  account_one one =
      account_close_quiet fit.sites.at_least fit.epsilon.at_most account_signalled
      (close_in _ (3 * k) (length_close_messages_one settings sites base)) refl one
      (rw base_is_counted at (base_of_threshold_one settings fit.sites.at_least base one))

  account_more : 2 ≤ threshold'
      → Account k settings.epsilon (probing_messages settings)
      (figures_closed (close_messages_more settings sites base))
  account_more two =
      account_close_probing fit.sites.at_least fit.epsilon.at_most account_signalled
      (close_in _ (closing_messages settings) (length_close_messages_more settings sites base))
      (omega arith) two
      (omega (arith, by_base, threshold_low settings fit.sites.at_least base two))
      (omega (arith, by_base, threshold_high settings fit.sites.at_least base two))
    where
      by_base : settings.epsilon * base ≡ settings.epsilon * counted accepted'
      by_base = ap (λ (z : ℕ). settings.epsilon * z) base_is_counted

  -- ---- The quantile

  -- The sums of the answers are the arrivals at or below the value.
  test_is : (v : ℕ) → enough_at settings sites base v
      ≡ enough settings.rank (counted accepted') (below (v + 1) accepted')
  test_is v =
      ap (λ (z : ℕ). enough settings.rank z (count_up_to settings sites v)) base_is_counted
      ∙ ap (enough settings.rank (counted accepted')) (then_ok.values_add_up v)

  late_found : LateQuantile settings.rank (quantile_found settings sites base) base accepted'
  late_found =
      subst
      (λ (z : ℕ). LateQuantile settings.rank (quantile_found settings sites base) z accepted')
      (sym base_is_counted)
      (late_of_halving settings.rank accepted' (enough_at settings sites base) test_is 10 top_value
      fit.rank.at_most (omega arith) (omega arith) then_ok.values_known)

  -- ---- The network after the close

  -- With this quantile and these messages of the close.
  kept_close : (quantile : ℕ) (closing : List Message)
      → (threshold' ≡ 1 → network.coordinator.threshold ≡ 1)
      → (2 ≤ threshold' → LateQuantile settings.rank quantile base accepted')
      → Account k settings.epsilon (probing_messages settings) (figures_closed closing)
      → NetworkOk settings
      (network_of (sites_closed settings sites threshold')
      (at_rest (with_quantile
      (with_base (after_count_report settings network arrival Idle) base threshold' Idle)
      quantile Idle)))
      accepted' (messages ++ (first ++ closing))
  kept_close quantile closing was-one late account = record {
    arrived = arrived_with fit ok arrival known;
    reported = reported_with fit ok arrival known;
    idle = refl;
    few_signals = fit.sites.at_least;
    threshold_is = refl;
    sites_ok = closed_ok;
    total_is = omega arith;
    estimates_long = estimates_long_then fit ok arrival known;
    estimates_are = estimates_then fit ok arrival known;
    early_values = λ one. early_then fit ok arrival known due (was-one one);
    late_quantile = late;
    account = account;
  }

  -- The round is closed, and the threshold is still 1.
  pub kept_close_one : threshold' < 2
      → NetworkOk settings (closed_one_after settings network arrival) accepted'
      (messages ++ (first ++ close_messages_one settings sites base))
  kept_close_one less =
      kept_close network.coordinator.quantile (close_messages_one settings sites base)
      (λ one. omega (arith, rises, ok.account.threshold_positive))
      (λ two. absurd (omega arith))
      (account_one (omega (arith, threshold_positive settings base)))

  -- The round is closed, and the quantile was probed for.
  pub kept_close_more : 2 ≤ threshold'
      → NetworkOk settings (closed_more_after settings network arrival) accepted'
      (messages ++ (first ++ close_messages_more settings sites base))
  kept_close_more two =
      kept_close (quantile_found settings sites base) (close_messages_more settings sites base)
      (λ one. absurd (omega arith)) (λ _. late_found) (account_more two)

-- ---- Every accepted arrival

kept_case : {settings : Settings} {network : Network}
    {accepted : List Arrival} {messages : List Message}
    → Settled settings
    → NetworkOk settings network accepted messages
    → (arrival : Arrival)
    → ArrivalKnown settings arrival
    → (which : ArrivalCase settings network arrival)
    → NetworkOk settings (network_then which) (accepted ++ (arrival ∷ []))
    (messages ++ messages_then which)
kept_case fit ok arrival known (no_count_report silent) = kept_silent fit ok arrival known silent
kept_case fit ok arrival known (count_reported due not_last) =
    kept_signal fit ok arrival known due not_last
kept_case fit ok arrival known (closes_one due last one) =
    kept_close_one fit ok arrival known due last one
kept_case fit ok arrival known (closes_more due last more) =
    kept_close_more fit ok arrival known due last more

-- Whichever case it is: an accepted arrival with full delivery.
pub network_ok_arrival : {settings : Settings} {network : Network}
    {accepted : List Arrival} {messages : List Message}
    → Settled settings
    → NetworkOk settings network accepted messages
    → (arrival : Arrival)
    → ArrivalKnown settings arrival
    → NetworkOk settings (after_arrival settings network arrival).network
    (accepted ++ (arrival ∷ [])) (messages ++ (after_arrival settings network arrival).messages)
network_ok_arrival {settings} {network} fit ok arrival known =
    let which : ArrivalCase settings network arrival = arrival_case settings network arrival in
    rw (after_arrival_lem settings network arrival ok.idle which)
    (kept_case fit ok arrival known which)
