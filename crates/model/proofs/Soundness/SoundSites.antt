-- A sound site stays sound: at an arrival that is accepted, and when it takes kinds 3, 5 and 7. For
-- sites of any content, arisen or not. PROOF.md S2, S5 and section 7.
--
--   ArrivalTaken           what an accepted arrival is known to be, at a site with room
--   sound_fresh            a fresh site
--   CountedAt, sound_counted   an arrival counted, before its report goes out
--   sound_observed         an arrival; what moves then: unreported-moves, pending-moves
--   sound_polled           kind 3; sound-told kind 7 (kind 5 changes nothing)
--   up_to_within           kind 6 never counts more than the site's arrivals
use Rattle.std.specs.Prelude.{if◌then◌else◌}
use mathlib.Core.Path.{◌≡◌, refl, ap, ◌∙◌}
use mathlib.Core.Bool.{Bool, true, false}
use mathlib.Core.List.{List, [], ◌∷◌}
use Prim.Native.Nat.{ℕ, zero, suc, ◌+◌, ◌≤◌, ◌<◌}
use native.Mathlib.Omega.{arith}
use lib.Dec.{leb}
use lib.ListN.{length, replicate, length-set, length-replicate}
use borrow.Author.Tests.{leb-true, leb-false}
use Rattle.laws.proofs.Sums.{sum_of}
use Rattle.model.specs.declared.Settings.{Settings}
use Rattle.model.specs.declared.Arrival.{Arrival}
use Rattle.model.specs.Refusals.{no_refusal, site_full}
use Rattle.model.specs.Limits.{value_count, site_limit}
use Rattle.model.specs.Counters.{unreported, dropped_by}
use Rattle.model.specs.Site.{Site, fresh_site, address_refusal, room_refusal, arrival_refusal, one_more_at, placement_in, place_for, counters_with, reports_item, reports_count, observed, up_to}
use Rattle.model.specs.SiteMemory.{sum}
use Rattle.model.specs.SoundNetwork.{SoundSite}
use Rattle.model.proofs.Thresholds.RefusalLaws.{both_accepted, passed}
use Rattle.model.proofs.OneSite.Counting.{placement_for_is}
use Rattle.model.proofs.BetweenArrivals.NetworkInvariant.{ArrivalKnown, known_of_no_refusal}
use Rattle.model.proofs.Deliveries.DeliveryLoops.{polled, told}
use Rattle.model.proofs.BetweenArrivals.ReportLaws.{value_counted}
use Rattle.model.proofs.Soundness.SoundCounters.{unreported_in_sum, counter_wider, CountedSound, counted_sound, reported_sound, unreported_observed}

-- ---- Lists of numbers

-- A list of zeros sums to 0.
pub sum_zeros : (n : ℕ) → sum (replicate n 0) ≡ 0
sum_zeros zero = refl
sum_zeros (suc n) = omega (arith, sum_zeros n)

-- One more at a place of the list is one more in the sum.
pub sum_one_more : (numbers : List ℕ) (place : ℕ)
    → place < length numbers
    → sum (one_more_at numbers place) ≡ sum numbers + 1
sum_one_more [] place inside = absurd (omega arith)
sum_one_more (x ∷ xs) zero inside = omega arith
sum_one_more (x ∷ xs) (suc place) inside = omega (arith, sum_one_more xs place (omega arith))

-- The counts up to a value are some of all counts.
pub up_to_le_sum : (value : ℕ) (numbers : List ℕ) → up_to value numbers ≤ sum numbers
up_to_le_sum zero [] = omega arith
up_to_le_sum (suc value) [] = omega arith
up_to_le_sum zero (x ∷ xs) = omega arith
up_to_le_sum (suc value) (x ∷ xs) = omega (arith, up_to_le_sum value xs)

-- ---- Accepted arrivals

-- Site, item and value are known, and the site has room for one more.
pub record ArrivalTaken (settings : Settings) (site : Site) (arrival : Arrival) : Type 0 where
  pub known : ArrivalKnown settings arrival
  pub room : site.arrivals < site_limit

-- That is what an arrival is that no row refuses.
pub taken_of_no_refusal : (settings : Settings) (site : Site) (arrival : Arrival)
    → arrival_refusal settings site arrival ≡ no_refusal
    → ArrivalTaken settings site arrival
taken_of_no_refusal settings site arrival none =
    let Room-row = passed (leb site_limit site.arrivals) site_full no_refusal (omega arith)
    (both_accepted (address_refusal settings arrival) (room_refusal site) none).later_accepted in
    record {
      known = known_of_no_refusal settings site arrival none;
      room = leb-false site_limit site.arrivals Room-row.test_failed;
    }

-- ---- Fresh, polled, told

-- A fresh site is sound.
pub sound_fresh : (settings : Settings) → SoundSite settings fresh_site
sound_fresh settings = record {
  few_counters = omega arith;
  counters_sound = λ place inside. absurd (omega arith);
  histogram_length = length-replicate {A = ℕ} value_count 0;
  histogram_sum = sum_zeros value_count;
  arrivals_within = omega arith;
  pending_below = omega arith;
  threshold_positive = omega arith;
  threshold_within = omega arith;
  dropped_bounded = omega arith;
}

module _ {settings : Settings} {site : Site} (sound : SoundSite settings site) where
  -- Kind 3: nothing is pending then.
  pub sound_polled : SoundSite settings (polled site)
  sound_polled = record {
    few_counters = sound.few_counters;
    counters_sound = sound.counters_sound;
    histogram_length = sound.histogram_length;
    histogram_sum = sound.histogram_sum;
    arrivals_within = sound.arrivals_within;
    pending_below = sound.threshold_positive;
    threshold_positive = sound.threshold_positive;
    threshold_within = sound.threshold_within;
    dropped_bounded = sound.dropped_bounded;
  }

  -- Kind 7: a threshold that is no smaller, and within the limit.
  pub sound_told : (t : ℕ)
      → site.threshold ≤ t
      → t ≤ site_limit
      → SoundSite settings (told t site)
  sound_told t rises within = record {
    few_counters = sound.few_counters;
    counters_sound = λ place inside.
        counter_wider (omega arith) rises (sound.counters_sound place inside);
    histogram_length = sound.histogram_length;
    histogram_sum = sound.histogram_sum;
    arrivals_within = sound.arrivals_within;
    pending_below = omega (arith, sound.pending_below);
    threshold_positive = omega (arith, sound.threshold_positive);
    threshold_within = within;
    dropped_bounded = sound.dropped_bounded;
  }

  -- Kind 6 counts at most the site's arrivals.
  pub up_to_within : (value : ℕ) → up_to value site.histogram ≤ site.arrivals
  up_to_within value =
      omega (arith, up_to_le_sum value site.histogram, sound.histogram_sum)

-- ---- An arrival

-- The site's counters with the arrival counted, its report not yet out.
abbrev pub CountedAt : Settings → Site → Arrival → Type 0
CountedAt settings site arrival =
    CountedSound settings.universe settings.capacity site.arrivals site.threshold
    (place_for settings site arrival)
    (dropped_by (placement_in settings site arrival) site.counters)
    site.counters (counters_with settings site arrival)

module _ {settings : Settings} {site : Site} {arrival : Arrival}
    (some-counter : 1 ≤ settings.capacity)
    (taken : ArrivalTaken settings site arrival)
    (sound : SoundSite settings site) where
  pub sound_counted : CountedAt settings site arrival
  sound_counted =
      counted_sound taken.known.item_known sound.threshold_positive
      (record { few = sound.few_counters; each = sound.counters_sound })
      (placement_for_is settings.capacity site.counters arrival.item some-counter)

  pending_then : (due : Bool) → reports_count site ≡ due
      → (if due then 0 else site.pending + 1) < site.threshold
  pending_then true due = sound.threshold_positive
  pending_then false not_due = leb-false site.threshold (site.pending + 1) not_due

  abbrev in_histogram : arrival.value < length site.histogram
  in_histogram =
      let in_range : arrival.value < value_count =
      value_counted arrival.value taken.known.value_known in
      omega (arith, sound.histogram_length)

  -- S7 at this site: an arrival adds one, reported, unreported or forgotten.
  pub unreported_moves : sum_of unreported (observed settings site arrival).site.counters
      + (if reports_item settings site arrival then site.threshold else 0)
      + dropped_by (placement_in settings site arrival) site.counters
      ≡ sum_of unreported site.counters + 1
  unreported_moves =
      unreported_observed sound.threshold_positive sound_counted
      (reports_item settings site arrival) refl

  -- An accepted arrival leaves the site sound.
  pub sound_observed : SoundSite settings (observed settings site arrival).site
  sound_observed =
      let reported = reported_sound sound.threshold_positive sound_counted
      (reports_item settings site arrival) refl in
      record {
        few_counters = reported.few;
        counters_sound = reported.each;
        histogram_length =
            length-set site.histogram arrival.value _ ∙ sound.histogram_length;
        histogram_sum =
            sum_one_more site.histogram arrival.value in_histogram
            ∙ ap (λ (n : ℕ). n + 1) sound.histogram_sum;
        arrivals_within = omega (arith, taken.room);
        pending_below = pending_then (reports_count site) refl;
        threshold_positive = sound.threshold_positive;
        threshold_within = sound.threshold_within;
        dropped_bounded =
            omega (
              arith,
              sound.dropped_bounded,
              unreported_moves,
              unreported_in_sum site.counters,
              unreported_in_sum (observed settings site arrival).site.counters,
            );
      }

  -- A count report's amount is the threshold: pending reaches it exactly.
  pub pending_moves : (due : Bool) → reports_count site ≡ due
      → (if due then 0 else site.pending + 1) + (if due then site.threshold else 0)
      ≡ site.pending + 1
  pending_moves true due =
      omega (arith, leb-true site.threshold (site.pending + 1) due, sound.pending_below)
  pending_moves false not_due = omega arith
