-- Refusal 11 of a site means `SoundSite` and `DroppedWithin`: a site's memory passes the test
-- exactly if the site that it holds is sound and has forgotten no more than its arrivals. Document
-- 01, "Inconsistent"; request N1.
--
--   length_counters_in      as many counters are read as are in use
--   sound_of_consistent     memory that is long enough and passes holds a sound site
--   dropped_of_consistent   which has forgotten no more than its arrivals
--   consistent_of_sound     memory that holds such a site passes
use mathlib.Core.Path.{◌≡◌, refl}
use mathlib.Core.Bool.{true}
use mathlib.Core.List.{List, [], ◌∷◌}
use Prim.Native.Nat.{ℕ, zero, suc, ◌+◌, ◌≤◌, ◌<◌}
use native.Mathlib.Nat.{mul-le-mul_right}
use native.Mathlib.Omega.{arith}
use lib.ListN.{length, take, drop, length-drop}
use lib.Seq.{length-take-le}
use borrow.Author.Tests.{leb-true, ltb-true, eqb-true, le-leb, lt-ltb, eq-eqb}
use Rattle.laws.proofs.Tests.{both_true}
use Rattle.laws.proofs.Lists.{all_cons}
use Rattle.model.specs.declared.Settings.{Settings}
use Rattle.model.specs.declared.SiteRecord.{SiteRecord}
use Rattle.model.specs.Limits.{value_count, site_limit}
use Rattle.model.specs.Counters.{Counter, no_counter, counter_at, unreported}
use Rattle.model.specs.Site.{Site}
use Rattle.model.specs.SiteMemory.{counter_words, site_words, counters_in, site_in, sum, counter_consistent, counters_consistent, site_consistent}
use Rattle.model.specs.SoundNetwork.{SoundCounter, SoundSite, DroppedWithin}
use Rattle.model.proofs.Soundness.SoundCounters.{unreported_in_le}

-- ---- Counters

-- As many counters are read as are asked for.
pub length_counters_in : (used : ℕ) (memory : List ℕ) → length (counters_in used memory) ≡ used
length_counters_in zero memory = refl
length_counters_in (suc used) memory = omega (arith, length_counters_in used (drop 4 memory))

module _ (settings : Settings) (site : Site) where
  abbrev SoundHere : Counter → Type 0
  SoundHere = SoundCounter settings.universe site.arrivals site.threshold

  counter_sound : (counter : Counter)
      → counter_consistent settings site counter ≡ true
      → SoundHere counter
  counter_sound counter passes =
      let row-4 = both_true _ _ passes in
      let row-3 = both_true _ _ row-4.first_true in
      let row-2 = both_true _ _ row-3.first_true in
      record {
        item_known = ltb-true _ _ row-2.first_true;
        within_count = leb-true _ _ row-2.second_true;
        count_within = leb-true _ _ row-3.second_true;
        unreported_below = ltb-true _ _ row-4.second_true;
      }

  counter_consistent_lem : (counter : Counter)
      → SoundHere counter
      → counter_consistent settings site counter ≡ true
  counter_consistent_lem counter sound =
      rw (
        lt-ltb counter.item settings.universe sound.item_known,
        le-leb (counter.overestimate + counter.reported) counter.count sound.within_count,
        le-leb counter.count site.arrivals sound.count_within,
        lt-ltb (unreported counter) site.threshold sound.unreported_below,
      )

  counters_sound : (counters : List Counter)
      → counters_consistent settings site counters ≡ true
      → (place : ℕ) → place < length counters
      → SoundHere (counter_at counters place)
  counters_sound [] passes place inside = absurd (omega arith)
  counters_sound (counter ∷ counters) passes place inside =
      let rows = both_true (counter_consistent settings site counter) _ passes in
      all_cons SoundHere no_counter counter counters (counter_sound counter rows.first_true)
      (counters_sound counters rows.second_true) place inside

  counters_consistent_lem : (counters : List Counter)
      → ((place : ℕ) → place < length counters → SoundHere (counter_at counters place))
      → counters_consistent settings site counters ≡ true
  counters_consistent_lem [] each = refl
  counters_consistent_lem (counter ∷ counters) each =
      rw (
        counter_consistent_lem counter (each 0 (omega arith)),
        counters_consistent_lem counters (λ place inside. each (suc place) (omega arith)),
      )

-- ---- A site

module _ (settings : Settings) (numbers : SiteRecord) (memory : List ℕ) where
  abbrev site : Site
  site = site_in settings numbers memory

  histogram_long : site_words settings ≤ length memory
      → length (take value_count (drop (counter_words settings) memory)) ≡ value_count
  histogram_long long =
      length-take-le value_count (drop (counter_words settings) memory)
      (omega (arith, length-drop (counter_words settings) memory))

  -- What the rows of the test are worth.
  record Tested : Type 0 where
    sound : SoundSite settings site
    dropped_within : DroppedWithin site

  tested : site_words settings ≤ length memory
      → site_consistent settings numbers memory ≡ true
      → Tested
  tested long passes =
      let row-7 = both_true _ _ passes in
      let row-6 = both_true _ _ row-7.first_true in
      let row-5 = both_true _ _ row-6.first_true in
      let row-4 = both_true _ _ row-5.first_true in
      let row-3 = both_true _ _ row-4.first_true in
      let row-2 = both_true _ _ row-3.first_true in
      let ends = both_true _ _ row-6.second_true in
      let few : length site.counters ≤ settings.capacity =
      rw (length_counters_in numbers.used memory)
      (leb-true numbers.used settings.capacity row-2.first_true) in
      let each = counters_sound settings site site.counters row-2.second_true in
      let small : site.threshold ≤ site_limit = leb-true _ _ ends.second_true in
      let few_dropped : DroppedWithin site = leb-true _ _ row-7.second_true in
      record {
        sound = record {
          few_counters = few;
          counters_sound = each;
          histogram_length = histogram_long long;
          histogram_sum = eqb-true _ _ row-4.second_true;
          arrivals_within = leb-true _ _ row-3.second_true;
          pending_below = ltb-true _ _ row-5.second_true;
          threshold_positive = leb-true _ _ ends.first_true;
          threshold_within = small;
          dropped_bounded =
              omega (
                arith,
                few_dropped,
                unreported_in_le site.counters site_limit
                    (λ place place<. omega (arith, small, (each place place<).unreported_below)),
                mul-le-mul_right site_limit few,
              );
        };
        dropped_within = few_dropped;
      }

  -- Memory that is long enough and passes holds a sound site.
  pub sound_of_consistent : site_words settings ≤ length memory
      → site_consistent settings numbers memory ≡ true
      → SoundSite settings site
  sound_of_consistent long passes = (tested long passes).sound

  -- And has forgotten no more than its arrivals.
  pub dropped_of_consistent : site_words settings ≤ length memory
      → site_consistent settings numbers memory ≡ true
      → DroppedWithin site
  dropped_of_consistent long passes = (tested long passes).dropped_within

  -- Memory that holds such a site passes.
  pub consistent_of_sound : SoundSite settings site
      → DroppedWithin site
      → site_consistent settings numbers memory ≡ true
  consistent_of_sound sound few_dropped =
      let few : numbers.used ≤ settings.capacity =
      omega (arith, length_counters_in numbers.used memory, sound.few_counters) in
      rw (
        le-leb numbers.used settings.capacity few,
        counters_consistent_lem settings site site.counters sound.counters_sound,
        le-leb site.arrivals site_limit sound.arrivals_within,
        eq-eqb (sum site.histogram) site.arrivals sound.histogram_sum,
        lt-ltb site.pending site.threshold sound.pending_below,
        le-leb 1 site.threshold sound.threshold_positive,
        le-leb site.threshold site_limit sound.threshold_within,
        le-leb site.dropped site.arrivals few_dropped,
      )
