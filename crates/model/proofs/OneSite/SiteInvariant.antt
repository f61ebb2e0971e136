-- One site between arrivals (PROOF.md S1 to S5), kept by an arrival (S7) and by a close.
--
--   grow f item amount       f, larger by the amount at the item
--   SiteOk                   what holds of a site at a threshold
--   site_fresh               of a fresh site, at threshold 1
--   ObservedOk, observed_ok  an arrival keeps it, and what moves then
--   site_closed              a close keeps it: pending 0 and a threshold that is no smaller
use Rattle.std.specs.Prelude.{if◌then◌else◌}
use mathlib.Core.Path.{◌≡◌, refl, ◌∙◌, subst, fun_ext}
use mathlib.Core.Bool.{Bool, true, false}
use mathlib.Core.List.{List}
use Prim.Native.Nat.{ℕ, ◌+◌, ◌≤◌, ◌<◌}
use native.Mathlib.Omega.{arith}
use native.Mathlib.Decide.{ℕ_discrete}
use lib.Dec.{eqb, ltb}
use lib.ListN.{length, length-set, length-replicate}
use borrow.Author.Tests.{leb-true, leb-false, eq-eqb, ne_eqb}
use Rattle.laws.proofs.Sums.{sum_of}
use Rattle.model.specs.declared.Settings.{Settings}
use Rattle.model.specs.declared.Arrival.{Arrival}
use Rattle.model.specs.Limits.{value_count}
use Rattle.model.specs.Counters.{Counter, counter_at, unreported, dropped_by}
use Rattle.model.specs.Site.{Site, fresh_site, placement_in, place_for, counters_with, reports_item, report_at, reports_count, observed, up_to, one_more_at}
use Rattle.model.specs.Claims.{one_if}
use Rattle.model.proofs.OneSite.SpaceSaving.{Saved, GrowsAt, saved_fresh}
use Rattle.model.proofs.OneSite.Counting.{Placed, placement_for_is, Counted, counted_placed, saved_placed}
use Rattle.model.proofs.OneSite.Reporting.{saved_report, below_report, sum_report}
use Rattle.model.proofs.OneSite.ArrivalLaws.{up_to_one_more}

-- ---- Functions that grow at one item

-- f, larger by the amount at the item.
abbrev pub grow : (ℕ → ℕ) → ℕ → ℕ → ℕ → ℕ
grow f item amount x = f x + (if eqb x item then amount else 0)

-- It grows there, and is the same elsewhere.
pub grow_grows : (f : ℕ → ℕ) (item amount : ℕ) → GrowsAt item amount f (grow f item amount)
grow_grows f item amount = record {
  grown = rw (eq-eqb item item refl);
  same = λ other differs. rw (ne_eqb other item differs) (omega arith);
}

-- Growing by 0 changes nothing.
pub grow_zero : (f : ℕ → ℕ) (item : ℕ) → grow f item 0 ≡ f
grow_zero f item = fun_ext (λ x. no_more x (eqb x item))
  where
    no_more : (x : ℕ) (same : Bool) → f x + (if same then 0 else 0) ≡ f x
    no_more x true = omega arith
    no_more x false = omega arith

-- ---- What holds of a site

-- `arrived item` and `reported item` as in SpaceSaving.
pub record SiteOk (settings : Settings) (threshold : ℕ)
    (arrived reported : ℕ → ℕ) (site : Site) : Type 0 where
  pub saved : Saved arrived reported settings.capacity site.arrivals site.counters
  pub unreported_below : (j : ℕ) → j < length site.counters
      → unreported (counter_at site.counters j) < threshold
  pub pending_below : site.pending < threshold
  pub threshold_same : site.threshold ≡ threshold
  pub histogram_long : length site.histogram ≡ value_count

-- A fresh site, at threshold 1.
pub site_fresh : (settings : Settings) → SiteOk settings 1 (λ item. 0) (λ item. 0) fresh_site
site_fresh settings = record {
  saved = saved_fresh settings.capacity;
  unreported_below = λ j j<. absurd (omega arith);
  pending_below = omega arith;
  threshold_same = refl;
  histogram_long = length-replicate {A = ℕ} value_count 0;
}

-- "Code pendings survive a close."
pub site_closed : {settings : Settings} {threshold : ℕ} {arrived reported : ℕ → ℕ} {site : Site}
    (threshold' : ℕ)
    → threshold ≤ threshold'
    → SiteOk settings threshold arrived reported site
    → SiteOk settings threshold' arrived reported (record {
      counters = site.counters;
      histogram = site.histogram;
      arrivals = site.arrivals;
      pending = 0;
      threshold = threshold';
      dropped = site.dropped;
    })
site_closed threshold' rises ok = record {
  saved = ok.saved;
  unreported_below = λ j j<. omega (arith, ok.unreported_below j j<);
  pending_below = omega (arith, ok.pending_below);
  threshold_same = refl;
  histogram_long = ok.histogram_long;
}

-- ---- An arrival at the site

-- What an arrival does to a site, with an item report (`item_due`) or without, and with a count
-- report (`count_due`) or without; `lost` is the unreported that went with a replaced counter.
pub record ObservedOk (settings : Settings) (threshold : ℕ) (arrived reported : ℕ → ℕ)
    (arrival : Arrival) (item_due count_due : Bool) (lost : ℕ) (before after : Site) : Type 0 where
  pub site_ok : SiteOk settings threshold
      (grow arrived arrival.item 1)
      (grow reported arrival.item (if item_due then threshold else 0))
      after
  pub one_arrival : after.arrivals ≡ before.arrivals + 1
  -- S7
  pub unreported_moves : sum_of unreported after.counters
      + (if item_due then threshold else 0) + lost
      ≡ sum_of unreported before.counters + 1
  pub pending_moves : after.pending + (if count_due then threshold else 0) ≡ before.pending + 1
  pub histogram_moves : (w : ℕ) → up_to w after.histogram
      ≡ up_to w before.histogram + one_if (ltb arrival.value (w + 1))

module _ (settings : Settings) (arrived reported : ℕ → ℕ) (site : Site) (arrival : Arrival)
    (some-counter : 1 ≤ settings.capacity)
    (positive : 1 ≤ site.threshold)
    (value_known : arrival.value < value_count)
    (ok : SiteOk settings site.threshold arrived reported site) where
  abbrev item : ℕ
  item = arrival.item

  abbrev counters : List Counter
  counters = counters_with settings site arrival

  abbrev place : ℕ
  place = place_for settings site arrival

  abbrev lost : ℕ
  lost = dropped_by (placement_in settings site arrival) site.counters

  placed : Placed settings.capacity site.counters item (placement_in settings site arrival)
  placed = placement_for_is settings.capacity site.counters item some-counter

  saved_now : Saved (grow arrived item 1) reported
      settings.capacity (site.arrivals + 1) counters
  saved_now = saved_placed (grow_grows arrived item 1) ok.saved placed

  counted_now : Counted site.threshold item place lost site.counters counters
  counted_now =
      counted_placed site.threshold positive ok.saved ok.unreported_below placed

  still_pending : (due : Bool) → reports_count site ≡ due
      → (if due then 0 else site.pending + 1) < site.threshold
  still_pending true due = positive
  still_pending false not_due = leb-false site.threshold (site.pending + 1) not_due

  pending_now : (due : Bool) → reports_count site ≡ due
      → (if due then 0 else site.pending + 1) + (if due then site.threshold else 0)
      ≡ site.pending + 1
  pending_now true due =
      omega (arith, leb-true site.threshold (site.pending + 1) due, ok.pending_below)
  pending_now false not_due = omega arith

  histogram_now : length (one_more_at site.histogram arrival.value) ≡ value_count
  histogram_now = length-set site.histogram arrival.value _ ∙ ok.histogram_long

  -- The counters when the item report, if one is due, has gone out.
  abbrev reported_counters : Bool → List Counter
  reported_counters due = if due then report_at site.threshold place counters else counters

  saved_after : (due : Bool) → reports_item settings site arrival ≡ due
      → Saved (grow arrived item 1) (grow reported item (if due then site.threshold else 0))
      settings.capacity (site.arrivals + 1) (reported_counters due)
  saved_after true due =
      saved_report positive (grow_grows reported item site.threshold) saved_now counted_now
      (leb-true _ _ due)
  saved_after false not_due = rw (grow_zero reported item) saved_now

  below_after : (due : Bool) → reports_item settings site arrival ≡ due
      → (j : ℕ) → j < length (reported_counters due)
      → unreported (counter_at (reported_counters due) j) < site.threshold
  below_after true due j j< =
      below_report positive (grow_grows reported item site.threshold) saved_now counted_now
      (leb-true _ _ due) j j<
  below_after false not_due j j< = by_place (ℕ_discrete j place)
    where
      by_place : Dec (j ≡ place) → unreported (counter_at counters j) < site.threshold
      by_place (yes here) = rw here (leb-false _ _ not_due)
      by_place (no there) = counted_now.others_below j j< there

  sum_after : (due : Bool) → reports_item settings site arrival ≡ due
      → sum_of unreported (reported_counters due) + (if due then site.threshold else 0) + lost
      ≡ sum_of unreported site.counters + 1
  sum_after true due =
      omega (
        arith,
        counted_now.unreported_moves,
        sum_report positive (grow_grows reported item site.threshold) saved_now counted_now
            (leb-true _ _ due),
      )
  sum_after false not_due = omega (arith, counted_now.unreported_moves)

  observed_own : ObservedOk settings site.threshold arrived reported arrival
      (reports_item settings site arrival) (reports_count site) lost site
      (observed settings site arrival).site
  observed_own = record {
    site_ok = record {
      saved = saved_after (reports_item settings site arrival) refl;
      unreported_below = below_after (reports_item settings site arrival) refl;
      pending_below = still_pending (reports_count site) refl;
      threshold_same = refl;
      histogram_long = histogram_now;
    };
    one_arrival = refl;
    unreported_moves = sum_after (reports_item settings site arrival) refl;
    pending_moves = pending_now (reports_count site) refl;
    histogram_moves = λ w.
        up_to_one_more w site.histogram arrival.value (omega (arith, ok.histogram_long));
  }

-- An arrival keeps what holds of a site; its amounts move by 1 in all.
pub observed_ok : (settings : Settings) (threshold : ℕ) (arrived reported : ℕ → ℕ)
    (site : Site) (arrival : Arrival)
    → 1 ≤ settings.capacity
    → 1 ≤ threshold
    → arrival.value < value_count
    → SiteOk settings threshold arrived reported site
    → ObservedOk settings threshold arrived reported arrival
    (reports_item settings site arrival) (reports_count site)
    (dropped_by (placement_in settings site arrival) site.counters) site
    (observed settings site arrival).site
observed_ok settings threshold arrived reported site arrival some-counter positive value_known ok =
    subst
    (λ (t : ℕ). 1 ≤ t
    → SiteOk settings t arrived reported site
    → ObservedOk settings t arrived reported arrival
    (reports_item settings site arrival) (reports_count site)
    (dropped_by (placement_in settings site arrival) site.counters) site
    (observed settings site arrival).site)
    ok.threshold_same
    (λ own-positive own-ok.
    observed_own settings arrived reported site arrival some-counter own-positive value_known
    own-ok)
    positive ok
