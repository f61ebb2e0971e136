-- The account of messages over numbers alone (PROOF.md section 6, M1 to M5): what an arrival and a
-- close do to it. A close that probes costs ρ × k messages beside the 3 × k of polls, answers and
-- announcements (ρ is 20 for one rank: ten halvings of two messages a site). RoundBounds has what
-- follows for the number of messages.
--
--   Account k e ρ figures      what holds between arrivals, with k sites and epsilon e
--   account_fresh              of a fresh network
--   ArrivalIn, account_arrival kept by an arrival, with an item report or a count report or both
--   CloseIn                    what a close does
--   account_close_quiet        kept by a close that leaves threshold 1
--   account_close_probing      kept by a close that leaves threshold 2 or more
use mathlib.Core.Path.{◌≡◌, refl, ap}
use Prim.Native.Nat.{ℕ, ◌+◌, ◌*◌, ◌≤◌, ◌<◌}
use native.Mathlib.Nat.{mul-le-mul_left, le_of_mul-le-mul_left}
use native.Mathlib.Omega.{arith}
use Rattle.laws.proofs.Arithmetic.{bound_of_larger}
use Rattle.model.proofs.MessageCount.Growth.{Growth, early, late, growth_first, growth_next}

-- ---- The account

-- The numbers of a network that the account speaks of; `pending` and `unreported` are sums over the
-- sites, `messages` the messages so far.
pub record Figures : Type 0 where
  pub threshold : ℕ
  pub base : ℕ
  pub arrivals : ℕ
  pub pending : ℕ
  pub signals : ℕ
  pub unreported : ℕ
  pub messages : ℕ

-- M1 to M5, with k sites, epsilon e, and ρ × k messages for a close that probes.
pub record Account (k e ρ : ℕ) (x : Figures) : Type 0 where
  -- the item reports so far, the closes that left threshold 1, and those that probed
  pub item_reports : ℕ
  pub closes_quiet : ℕ
  pub closes_probing : ℕ
  pub threshold_positive : 1 ≤ x.threshold
  pub arrivals_are : x.arrivals ≡ x.base + x.signals * x.threshold + x.pending
  -- M1
  pub messages_are : x.messages
      ≡ item_reports + 4 * (k * (closes_quiet + closes_probing)) + ρ * (k * closes_probing) +
      x.signals
  -- M2
  pub reports_paid : item_reports * x.threshold + x.unreported + x.base
      ≤ 2 * (k * (closes_quiet + closes_probing) * x.threshold) + x.arrivals
  -- M3
  pub reports_le_arrivals : item_reports ≤ x.arrivals
  pub closes_le_base : k * (closes_quiet + closes_probing) ≤ x.base
  -- M4
  pub few_quiet : e * closes_quiet ≤ 6000
  pub growth : Growth k e x.threshold x.base closes_probing

-- The figures of a fresh network.
abbrev pub fresh_figures : Figures
fresh_figures = record {
  threshold = 1;
  base = 0;
  arrivals = 0;
  pending = 0;
  signals = 0;
  unreported = 0;
  messages = 0;
}

pub account_fresh : (k e ρ : ℕ) → Account k e ρ fresh_figures
account_fresh k e ρ = record {
  item_reports = 0;
  closes_quiet = 0;
  closes_probing = 0;
  threshold_positive = omega arith;
  arrivals_are = refl;
  messages_are = omega arith;
  reports_paid = omega arith;
  reports_le_arrivals = omega arith;
  closes_le_base = omega arith;
  few_quiet = omega arith;
  growth = early refl refl;
}

-- ---- An arrival

-- What an arrival does, with so many item reports and count reports (each 0 or 1).
pub record ArrivalIn (x : Figures) (items counts : ℕ) (y : Figures) : Type 0 where
  pub same_threshold : y.threshold ≡ x.threshold
  pub same_base : y.base ≡ x.base
  pub one_arrival : y.arrivals ≡ x.arrivals + 1
  pub one_item : items ≤ 1
  pub unreported_moves : y.unreported + items * x.threshold ≤ x.unreported + 1
  pub pending_moves : y.pending + counts * x.threshold ≡ x.pending + 1
  pub signals_move : y.signals ≡ x.signals + counts
  pub messages_move : y.messages ≡ x.messages + items + counts

-- Item reports times threshold plus unreported grows by at most 1, and so do the arrivals.
pub account_arrival : {k e ρ : ℕ} {x : Figures} {items counts : ℕ} {y : Figures}
    → Account k e ρ x
    → ArrivalIn x items counts y
    → Account k e ρ y
account_arrival {k} {e} {ρ} {x} {items} {counts} {y} before step = record {
  item_reports = before.item_reports + items;
  closes_quiet = before.closes_quiet;
  closes_probing = before.closes_probing;
  threshold_positive = omega arith;
  arrivals_are = rw (step.same_threshold, step.same_base, step.signals_move) (omega arith);
  messages_are = omega arith;
  reports_paid = rw (step.same_threshold, step.same_base) (omega arith);
  reports_le_arrivals = omega arith;
  closes_le_base = omega arith;
  few_quiet = before.few_quiet;
  growth = rw (step.same_threshold, step.same_base) before.growth;
}

-- ---- A close

-- What a close does, `cost` messages long, after the arrival whose count report was the k-th.
pub record CloseIn (k cost : ℕ) (x y : Figures) : Type 0 where
  pub all_signals : x.signals ≡ k
  pub few_pending : x.pending ≤ k * x.threshold
  pub threshold_rises : x.threshold ≤ y.threshold
  pub base_is_arrivals : y.base ≡ x.arrivals
  pub same_arrivals : y.arrivals ≡ x.arrivals
  pub nothing_pending : y.pending ≡ 0
  pub no_signals : y.signals ≡ 0
  pub same_unreported : y.unreported ≡ x.unreported
  pub messages_move : y.messages ≡ x.messages + cost

module _ {k e ρ cost : ℕ} {x y : Figures}
    (some-site : 1 ≤ k) (e-le : e ≤ 1000)
    (before : Account k e ρ x) (step : CloseIn k cost x y) where
  abbrev closes : ℕ
  closes = before.closes_quiet + before.closes_probing

  signals_cost : x.signals * x.threshold ≡ k * x.threshold
  signals_cost = ap (λ (z : ℕ). z * x.threshold) step.all_signals

  -- Each close finds at least k arrivals more.
  closes_fit : k * (closes + 1) ≤ x.arrivals
  closes_fit = omega (arith, mul-le-mul_left k before.threshold_positive, signals_cost)

  -- M2 at the new threshold: a round has at most 2 × k × t arrivals.
  reports_still_paid : before.item_reports * y.threshold + y.unreported + y.base
      ≤ 2 * (k * (closes + 1) * y.threshold) + y.arrivals
  reports_still_paid =
      let paid : before.item_reports * x.threshold + x.unreported
      ≤ 2 * (k * (closes + 1)) * x.threshold = omega (arith, signals_cost) in
      omega (
        arith,
        bound_of_larger before.item_reports x.unreported (2 * (k * (closes + 1)))
            x.threshold y.threshold before.threshold_positive paid step.threshold_rises,
      )

  -- A close that leaves threshold 1: the base stays below 6000 × k / e (T3), and there were at most
  -- base / k such closes.
  pub account_close_quiet : cost ≡ 3 * k
      → y.threshold ≡ 1
      → e * x.arrivals < 6000 * k
      → Account k e ρ y
  account_close_quiet cost-is one under = by_growth before.growth
    where
      by_growth : Growth k e x.threshold x.base before.closes_probing → Account k e ρ y
      by_growth (late a g two _ _ _ _ _ _) = absurd (omega arith)
      by_growth (early was-one none) = record {
        item_reports = before.item_reports;
        closes_quiet = before.closes_quiet + 1;
        closes_probing = before.closes_probing;
        threshold_positive = omega arith;
        arrivals_are = rw step.no_signals (omega arith);
        messages_are = omega arith;
        reports_paid = omega (arith, reports_still_paid);
        reports_le_arrivals = omega arith;
        closes_le_base = omega (arith, closes_fit);
        few_quiet =
            le_of_mul-le-mul_left {k = k} (omega (arith, mul-le-mul_left e closes_fit)) some-site;
        growth = early one none;
      }

  -- A close that probes.
  pub account_close_probing : cost ≡ (3 + ρ) * k
      → 2 ≤ y.threshold
      → 3000 * (k * y.threshold) ≤ e * x.arrivals
      → e * x.arrivals ≤ 4500 * (k * y.threshold)
      → Account k e ρ y
  account_close_probing cost-is two low high = record {
    item_reports = before.item_reports;
    closes_quiet = before.closes_quiet;
    closes_probing = before.closes_probing + 1;
    threshold_positive = omega arith;
    arrivals_are = rw step.no_signals (omega arith);
    messages_are = omega arith;
    reports_paid = omega (arith, reports_still_paid);
    reports_le_arrivals = omega arith;
    closes_le_base = omega (arith, closes_fit);
    few_quiet = before.few_quiet;
    growth = rw step.base_is_arrivals (by_growth before.growth);
  }
    where
      by_growth : Growth k e x.threshold x.base before.closes_probing
          → Growth k e y.threshold x.arrivals (before.closes_probing + 1)
      by_growth (early one none) =
          rw none (growth_first k e y.threshold x.arrivals some-site e-le two low high)
      by_growth (late a g was-two top some a≤b b<2a long paid) =
          growth_next y.threshold x.arrivals e-le (omega (arith, signals_cost)) two high
          was-two (late a g was-two top some a≤b b<2a long paid)
