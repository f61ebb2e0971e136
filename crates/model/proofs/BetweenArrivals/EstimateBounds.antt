-- The coordinator's numbers against the arrivals (PROOF.md L1, L2).
--
-- Letters: k sites, e epsilon, p phi, n all arrivals, t the threshold and w = t - 1.
--
--   RunOk                what holds of a network between arrivals, of a run's
--   estimates_of_ok      L1 and L2, and that a listed item has (6p - 5e) / 6000 of all arrivals
use mathlib.Core.Path.{◌≡◌, ap}
use mathlib.Core.Bool.{true}
use Prim.Native.Nat.{ℕ, ◌+◌, ◌-◌, ◌*◌, ◌≤◌, ◌<◌}
use native.Mathlib.Nat.{mul-le-mul_left, mul-le-mul_right}
use native.Mathlib.Omega.{arith}
use native.Mathlib.Decide.{dec_lt}
use lib.Dec.{leb}
use lib.ListN.{get_or}
use borrow.Author.Tests.{leb-true}
use Rattle.laws.proofs.Tests.{both_true}
use Rattle.laws.proofs.Arithmetic.{bound_rescaled}
use Rattle.laws.proofs.Sums.{sum_below, sum_below_le, sum_below_const, sum_below_add, sum_below_mul}
use Rattle.model.specs.declared.Settings.{Settings}
use Rattle.model.specs.Reading.{is_listed, held_side, needed_side}
use Rattle.model.specs.Runs.{Run}
use Rattle.model.specs.Claims.{counted, count_of, Estimates}
use Rattle.model.proofs.Thresholds.SettingsLaws.{Settled}
use Rattle.model.proofs.Thresholds.Threshold.{threshold_low}
use Rattle.model.proofs.OneSite.Reporting.{Near, reports_near}
use Rattle.model.proofs.Deliveries.DeliveryMessages.{pending_at}
use Rattle.model.proofs.BetweenArrivals.SitesInvariant.{arrivals_at}
use Rattle.model.proofs.BetweenArrivals.NetworkInvariant.{NetworkOk}

-- What holds of a network at rest, of the one that a run ends with.
abbrev pub RunOk : Settings → Run → Type 0
RunOk settings run = NetworkOk settings run.network run.accepted run.messages

module _ {settings : Settings} {run : Run} (fit : Settled settings) (ok : RunOk settings run) where
  abbrev k : ℕ
  k = settings.sites

  abbrev e : ℕ
  e = settings.epsilon

  abbrev n : ℕ
  n = counted run.accepted

  abbrev t : ℕ
  t = run.network.coordinator.threshold

  abbrev w : ℕ
  w = run.network.coordinator.threshold - 1

  abbrev base : ℕ
  base = run.network.coordinator.base

  abbrev total : ℕ
  total = run.network.coordinator.total

  abbrev pending : ℕ
  pending = sum_below (pending_at run.network.sites) settings.sites

  -- ---- The total

  threshold_splits : t ≡ w + 1
  threshold_splits = omega (arith, ok.account.threshold_positive)

  -- k × t, split into what may be pending and k.
  pub times_threshold : k * t ≡ k * w + k
  times_threshold = omega (arith, ap (λ (z : ℕ). k * z) threshold_splits)

  -- Each of k sites has at most w pending.
  pub pending_few : pending ≤ k * w
  pending_few =
      omega (
        arith,
        sum_below_const w k,
        sum_below_le (pending_at run.network.sites) (λ j. w) k
            (λ j j<k. omega (arith, threshold_splits, (ok.sites_ok.each_ok j j<k).pending_below)),
      )

  -- N2
  pub all_counted : n ≡ total + pending
  all_counted = omega (arith, ok.total_is, ok.account.arrivals_are)

  -- The total never falls below the base.
  pub base_le_total : base ≤ total
  base_le_total = omega (arith, ok.total_is)

  -- T1 at the present threshold.
  pub threshold_paid : 2 ≤ t → 3000 * (k * t) ≤ e * base
  threshold_paid two =
      rw ok.threshold_is
      (threshold_low settings fit.sites.at_least base (rw ok.threshold_is at two))

  -- What is pending is paid for by the base: with threshold 1 nothing is.
  pub lag_paid : 3000 * (k * w) ≤ e * base
  lag_paid = by_threshold (dec_lt t 2)
    where
      by_threshold : Dec (t < 2) → 3000 * (k * w) ≤ e * base
      by_threshold (yes one) =
          let none : w ≡ 0 = omega arith in
          omega (arith, ap (λ (z : ℕ). k * z) none)
      by_threshold (no more) = omega (arith, threshold_paid (omega arith), times_threshold)

  base_paid : e * base ≤ e * n
  base_paid =
      let base_le : base ≤ n = omega (arith, base_le_total, all_counted) in
      mul-le-mul_left e base_le

  -- L2
  lagging : 3000 * n ≤ 3000 * total + e * n
  lagging = omega (arith, all_counted, pending_few, lag_paid, base_paid)

  some_total : 1 ≤ n → 1 ≤ total
  some_total some = by_total (dec_lt 0 total)
    where
      by_total : Dec (0 < total) → 1 ≤ total
      by_total (yes positive) = positive
      by_total (no none) =
          let no-base : base ≡ 0 = omega (arith, base_le_total) in
          absurd (omega (arith, ap (λ (z : ℕ). e * z) no-base, lag_paid, pending_few, all_counted))

  -- ---- Estimates

  module _ (item : ℕ) where
    abbrev estimate : ℕ
    estimate = get_or run.network.coordinator.estimates item 0

    abbrev c : ℕ
    c = settings.capacity

    near_at : (j : ℕ) → j < k
        → Near (ok.arrived j) (ok.reported j) c (arrivals_at run.network.sites j) w item
    near_at j j<k =
        let site_ok = ok.sites_ok.each_ok j j<k in
        reports_near site_ok.saved item w
        (λ i i<. omega (arith, threshold_splits, site_ok.unreported_below i i<))

    estimate_le : estimate ≤ count_of item run.accepted
    estimate_le =
        omega (
          arith,
          ok.estimates_are item,
          ok.sites_ok.items_add_up item,
          sum_below_le (λ j. ok.reported j item) (λ j. ok.arrived j item) k
              (λ j j<k. (near_at j j<k).reported_le),
        )

    -- S6 summed over the sites.
    estimate_lags : c * count_of item run.accepted ≤ c * (estimate + k * w) + n
    estimate_lags =
        let summed = sum_below_le (λ j. c * ok.arrived j item)
        (λ j. c * (ok.reported j item + w) + arrivals_at run.network.sites j) k
        (λ j j<k. (near_at j j<k).arrived_near) in
        omega (
          arith,
          summed,
          ap (λ (z : ℕ). c * z) (ok.estimates_are item),
          ap (λ (z : ℕ). c * z) (ok.sites_ok.items_add_up item),
          ok.sites_ok.arrivals_add_up,
          sum_below_mul c (λ j. ok.arrived j item) k,
          sum_below_add (λ j. c * (ok.reported j item + w)) (arrivals_at run.network.sites) k,
          sum_below_mul c (λ j. ok.reported j item + w) k,
          ap (λ (z : ℕ). c * z) (sum_below_add (λ j. ok.reported j item) (λ j. w) k),
          ap (λ (z : ℕ). c * z) (sum_below_const w k),
        )

    -- L1: 6000 × (f - E) ≤ 6000 × k × w + e × n ≤ 3 × e × n.
    estimate_near : 2000 * count_of item run.accepted ≤ 2000 * estimate + e * n
    estimate_near =
        omega (
          arith,
          lag_paid,
          base_paid,
          bound_rescaled c e 6000 (count_of item run.accepted) (estimate + k * w) n estimate_lags
              fit.enough_counters,
        )

    -- With m = 2p - e: 3m × n ≤ 3m × total + 2e × n, and m × total ≤ 2000 × estimate ≤ 2000 × f.
    listed_firm : is_listed settings run.network.coordinator item ≡ true
        → (6 * settings.phi - 5 * e) * n ≤ 6000 * count_of item run.accepted
    listed_firm listed =
        let passes : needed_side settings run.network.coordinator
        ≤ held_side run.network.coordinator item =
        leb-true (needed_side settings run.network.coordinator)
        (held_side run.network.coordinator item)
        (both_true (leb 1 total) _ listed).second_true in
        let needed : (2 * settings.phi - e) + e ≡ 2 * settings.phi =
        omega (arith, fit.phi_epsilon) in
        let small : 2 * settings.phi - e ≤ 2000 = omega (arith, fit.phi.at_most) in
        let split : 6 * settings.phi - 5 * e + 2 * e ≡ 3 * (2 * settings.phi - e) =
        omega (arith, fit.phi_epsilon) in
        omega (
          arith,
          estimate_le,
          ap (λ (z : ℕ). z * total) needed,
          ap (λ (z : ℕ). z * n) split,
          mul-le-mul_left (2 * settings.phi - e) lagging,
          mul-le-mul_right (e * n) small,
        )

  -- All bounds on estimates and total.
  pub estimates_of_ok : Estimates settings run
  estimates_of_ok = record {
    estimate_le = estimate_le;
    estimate_near = estimate_near;
    total_le = omega (arith, all_counted);
    total_near = lagging;
    total_positive = some_total;
    listed_firm = listed_firm;
  }
