-- Refusal 11 of the batch call means `Sound` within the limits: memory that passes holds a sound
-- network, and a sound network within the limits passes. Document 01, "Inconsistent".
--
--   SitesRead, sites_sound_of   the sites of memory that passes: all are read, each is sound
--   network_sound_of          what passes 4 and 11 holds a sound network
--   BenchRows, bench_rows     the rows that every network must pass
--   Passes, passes_of         what an accepted start is worth: no row of 1 to 4 and 11
--   bench_consistent_of       sound parts within the limits pass those rows
--   network_consistent_of     a sound network within the limits passes
use mathlib.Core.Path.{◌≡◌, refl, ap}
use mathlib.Core.Bool.{Bool, true, ◌&&◌, false≢true}
use mathlib.Core.List.{List, [], ◌∷◌}
use Prim.Native.Nat.{ℕ, zero, suc, ◌+◌, ◌*◌, ◌≤◌, ◌<◌}
use native.Mathlib.Omega.{arith}
use lib.Dec.{eqb, ltb}
use lib.ListN.{length, get_or, drop, length-drop}
use lib.Seq.{length-take-le}
use borrow.Author.Tests.{eqb-true, ltb-false, eq-eqb}
use Rattle.laws.proofs.Tests.{both_true, neither_of_or}
use Rattle.laws.proofs.Lists.{all_cons}
use Rattle.model.specs.declared.Settings.{Settings}
use Rattle.model.specs.declared.SiteRecord.{SiteRecord}
use Rattle.model.specs.declared.Sites.{Sites}
use Rattle.model.specs.declared.Phase.{Phase}
use Rattle.model.specs.declared.Phase.TheVariants.{Idle, Collecting, Probing, Announcing}
use Rattle.model.specs.declared.CoordinatorRecord.{CoordinatorRecord}
use Rattle.model.specs.Refusals.{no_refusal, memory_too_short}
use Rattle.model.specs.Limits.{value_count}
use Rattle.model.specs.Settings.{settings_refusal}
use Rattle.model.specs.Site.{Site, fresh_site}
use Rattle.model.specs.SiteMemory.{site_words, site_in, site_consistent}
use Rattle.model.specs.Coordinator.{is_idle}
use Rattle.model.specs.CoordinatorMemory.{coordinator_words, coordinator_consistent}
use Rattle.model.specs.Network.{Network, site_at}
use Rattle.model.specs.MessageCounts.{counts_within}
use Rattle.model.specs.NetworkMemory.{sites_words, sites_in, network_in, sites_consistent, all_pending, all_arrivals, same_threshold, at_rest_together, bench_consistent, network_consistent, network_too_short, network_refusal}
use Rattle.model.specs.SoundNetwork.{SoundSite, DroppedWithin, SoundCoordinator, Sound}
use Rattle.model.proofs.Thresholds.RefusalLaws.{both_accepted, passed}
use Rattle.model.proofs.Thresholds.TestedMemory.{consistent_of}
use Rattle.model.proofs.MessageCount.Counts.{FewCounted, few_counted_of, counts_within_of}
use Rattle.model.proofs.Soundness.ConsistentSites.{sound_of_consistent, dropped_of_consistent, consistent_of_sound}
use Rattle.model.proofs.Soundness.ConsistentCoordinator.{CoordinatorWithin, coordinator_sound_of, coordinator_within_of, coordinator_consistent_of}

-- ---- The sites one after another

-- Each site that was read is sound by itself, and none is missing.
pub record SitesRead (settings : Settings) (k : ℕ) (sites : List Site) : Type 0 where
  pub all_read : length sites ≡ k
  pub each_sound : (j : ℕ) → j < k → SoundSite settings (get_or sites j fresh_site)
  -- and has forgotten no more than its arrivals
  pub each_within : (j : ℕ) → j < k → DroppedWithin (get_or sites j fresh_site)

pub sites_sound_of : (k : ℕ) (settings : Settings) (numbers : List SiteRecord) (memory : List ℕ)
    → k * site_words settings ≤ length memory
    → sites_consistent k settings numbers memory ≡ true
    → SitesRead settings k (sites_in k settings numbers memory)
sites_sound_of zero settings numbers memory long passes =
    record {
      all_read = refl;
      each_sound = λ j j<. absurd (omega arith);
      each_within = λ j j<. absurd (omega arith);
    }
sites_sound_of (suc k) settings [] memory long passes = absurd (false≢true passes)
sites_sound_of (suc k) settings (first ∷ others) memory long passes =
    let rows = both_true (site_consistent settings first memory) _ passes in
    let words : ℕ = site_words settings in
    let rest = sites_sound_of k settings others (drop words memory)
    (omega (arith, length-drop words memory)) rows.second_true in
    let first-sound : SoundSite settings (site_in settings first memory) =
    sound_of_consistent settings first memory (omega arith) rows.first_true in
    record {
      all_read = omega (arith, rest.all_read);
      each_sound = λ j j<.
          all_cons (SoundSite settings) fresh_site (site_in settings first memory)
          (sites_in k settings others (drop words memory)) first-sound
          (λ i i<. rest.each_sound i (omega (arith, rest.all_read))) j
          (omega (arith, rest.all_read));
      each_within = λ j j<.
          all_cons DroppedWithin fresh_site (site_in settings first memory)
          (sites_in k settings others (drop words memory))
          (dropped_of_consistent settings first memory (omega arith) rows.first_true)
          (λ i i<. rest.each_within i (omega (arith, rest.all_read))) j
          (omega (arith, rest.all_read));
    }

sites_consistent_of : (k : ℕ) (settings : Settings) (numbers : List SiteRecord) (memory : List ℕ)
    → SitesRead settings k (sites_in k settings numbers memory)
    → sites_consistent k settings numbers memory ≡ true
sites_consistent_of zero settings numbers memory read = refl
sites_consistent_of (suc k) settings [] memory read = absurd (omega (arith, read.all_read))
sites_consistent_of (suc k) settings (first ∷ others) memory read =
    rw (
      consistent_of_sound settings first memory (read.each_sound 0 (omega arith))
          (read.each_within 0 (omega arith)),
      sites_consistent_of k settings others (drop (site_words settings) memory)
          (record {
            all_read = omega (arith, read.all_read);
            each_sound = λ j j<. read.each_sound (suc j) (omega arith);
            each_within = λ j j<. read.each_within (suc j) (omega arith);
          }),
    )

-- ---- Equal thresholds, and a coordinator that is idle

same_threshold_of : (threshold : ℕ) (sites : List Site)
    → same_threshold threshold sites ≡ true
    → (j : ℕ) → j < length sites
    → (get_or sites j fresh_site).threshold ≡ threshold
same_threshold_of threshold [] passes j inside = absurd (omega arith)
same_threshold_of threshold (site ∷ sites) passes j inside =
    let rows = both_true (eqb site.threshold threshold) _ passes in
    all_cons (λ (x : Site). x.threshold ≡ threshold) fresh_site site sites
    (eqb-true _ _ rows.first_true)
    (same_threshold_of threshold sites rows.second_true) j inside

same_threshold_test : (threshold : ℕ) (sites : List Site)
    → ((j : ℕ) → j < length sites → (get_or sites j fresh_site).threshold ≡ threshold)
    → same_threshold threshold sites ≡ true
same_threshold_test threshold [] each = refl
same_threshold_test threshold (site ∷ sites) each =
    rw (
      eq-eqb site.threshold threshold (each 0 (omega arith)),
      same_threshold_test threshold sites (λ j inside. each (suc j) (omega arith)),
    )

idle_of : (phase : Phase) → is_idle phase ≡ true → phase ≡ Idle
idle_of Idle passes = refl
idle_of (Collecting site) passes = absurd (false≢true passes)
idle_of (Probing site low high sum) passes = absurd (false≢true passes)
idle_of (Announcing site) passes = absurd (false≢true passes)

-- ---- The network

module _ (settings : Settings) (sites : Sites) (coordinator : CoordinatorRecord)
    (site_numbers coordinator_numbers : List ℕ) where
  abbrev network : Network
  network = network_in settings sites coordinator site_numbers coordinator_numbers

  estimates_long : coordinator_words settings ≤ length coordinator_numbers
      → length network.coordinator.estimates ≡ settings.universe
  estimates_long long = length-take-le settings.universe coordinator_numbers (omega arith)

  histogram_long : coordinator_words settings ≤ length coordinator_numbers
      → length network.coordinator.histogram ≡ value_count
  histogram_long long =
      length-take-le value_count (drop settings.universe coordinator_numbers)
      (omega (arith, length-drop settings.universe coordinator_numbers))

  -- The rows of the test that pass.
  record Rows : Type 0 where
    sites_row : sites_consistent settings.sites settings sites.records site_numbers ≡ true
    coordinator_row : coordinator_consistent settings network.coordinator ≡ true
    rest_row : at_rest_together network ≡ true
    counts_row : counts_within settings.sites sites.messages ≡ true

  -- Those that every network must pass, in mid-delivery too.
  pub record BenchRows : Type 0 where
    pub sites_row : sites_consistent settings.sites settings sites.records site_numbers ≡ true
    pub coordinator_row : coordinator_consistent settings network.coordinator ≡ true
    pub counts_row : counts_within settings.sites sites.messages ≡ true

  pub bench_rows : bench_consistent settings sites coordinator site_numbers coordinator_numbers ≡
      true
      → BenchRows
  bench_rows passes =
      let first : Bool =
      sites_consistent settings.sites settings sites.records site_numbers in
      let second : Bool = coordinator_consistent settings network.coordinator in
      let row-3 = both_true (first && second) (counts_within settings.sites sites.messages)
      passes in
      let row-2 = both_true first second row-3.first_true in
      record {
        sites_row = row-2.first_true;
        coordinator_row = row-2.second_true;
        counts_row = row-3.second_true;
      }

  rows_of : network_consistent settings sites coordinator site_numbers coordinator_numbers ≡ true
      → Rows
  rows_of passes =
      let both = both_true
      (bench_consistent settings sites coordinator site_numbers coordinator_numbers)
      (at_rest_together network) passes in
      let bench = bench_rows both.first_true in
      record {
        sites_row = bench.sites_row;
        coordinator_row = bench.coordinator_row;
        rest_row = both.second_true;
        counts_row = bench.counts_row;
      }

  -- Memory that is long enough and passes holds a sound network.
  pub network_sound_of : sites_words settings ≤ length site_numbers
      → coordinator_words settings ≤ length coordinator_numbers
      → network_consistent settings sites coordinator site_numbers coordinator_numbers ≡ true
      → Sound settings network
  network_sound_of sites_long coordinator_long passes =
      let rows : Rows = rows_of passes in
      let at-rest-3 = both_true _ _ rows.rest_row in
      let at-rest-2 = both_true _ _ at-rest-3.first_true in
      let read = sites_sound_of settings.sites settings sites.records site_numbers sites_long
      rows.sites_row in
      record {
        all_sites = read.all_read;
        sites_sound = read.each_sound;
        coordinator_sound = coordinator_sound_of settings network.coordinator
            (estimates_long coordinator_long) (histogram_long coordinator_long)
            rows.coordinator_row;
        idle = idle_of network.coordinator.phase at-rest-2.first_true;
        same_threshold = λ j j<.
            same_threshold_of network.coordinator.threshold network.sites
            at-rest-2.second_true j (omega (arith, read.all_read));
        all_counted = eqb-true _ _ at-rest-3.second_true;
      }

  -- What is given to the batch call when its start is accepted.
  pub record Passes : Type 0 where
    pub settings_accepted : settings_refusal settings ≡ no_refusal
    pub sites_long : sites_words settings ≤ length site_numbers
    pub coordinator_long : coordinator_words settings ≤ length coordinator_numbers
    pub sound : Sound settings network
    pub dropped_within : (j : ℕ) → j < settings.sites → DroppedWithin (site_at network j)
    pub within : CoordinatorWithin network.coordinator
    pub few_counted : FewCounted settings.sites sites.messages

  pub passes_of :
      network_refusal settings sites coordinator site_numbers coordinator_numbers ≡ no_refusal
      → Passes
  passes_of none =
      let chain = both_accepted (settings_refusal settings) _ none in
      let short = passed (network_too_short settings site_numbers coordinator_numbers)
      memory_too_short
      _ (omega arith) chain.later_accepted in
      let long = neither_of_or (ltb (length site_numbers) (sites_words settings)) _
      short.test_failed in
      let sites_long = ltb-false (length site_numbers) (sites_words settings)
      long.first_false in
      let coordinator_long = ltb-false (length coordinator_numbers) (coordinator_words settings)
      long.second_false in
      let holds = consistent_of _ short.later_accepted in
      let rows : Rows = rows_of holds in
      record {
        settings_accepted = chain.first_accepted;
        sites_long = sites_long;
        coordinator_long = coordinator_long;
        sound = network_sound_of sites_long coordinator_long holds;
        dropped_within =
            (sites_sound_of settings.sites settings sites.records site_numbers sites_long
            rows.sites_row).each_within;
        within = coordinator_within_of settings network.coordinator rows.coordinator_row;
        few_counted = few_counted_of settings.sites sites.messages rows.counts_row;
      }

  -- Sound parts within the limits pass what every network must meet, in mid-delivery too.
  pub bench_consistent_of : SitesRead settings settings.sites network.sites
      → SoundCoordinator settings network.coordinator
      → CoordinatorWithin network.coordinator
      → FewCounted settings.sites sites.messages
      → bench_consistent settings sites coordinator site_numbers coordinator_numbers ≡ true
  bench_consistent_of read sound within few =
      rw (
        sites_consistent_of settings.sites settings sites.records site_numbers read,
        coordinator_consistent_of settings network.coordinator sound within,
        counts_within_of settings.sites sites.messages few,
      )

  -- A sound network within the limits passes.
  pub network_consistent_of : Sound settings network
      → ((j : ℕ) → j < settings.sites → DroppedWithin (site_at network j))
      → CoordinatorWithin network.coordinator
      → FewCounted settings.sites sites.messages
      → network_consistent settings sites coordinator site_numbers coordinator_numbers ≡ true
  network_consistent_of sound few_dropped within few =
      rw (
        bench_consistent_of
            (record {
              all_read = sound.all_sites;
              each_sound = sound.sites_sound;
              each_within = few_dropped;
            })
            sound.coordinator_sound within few,
        ap is_idle sound.idle,
        same_threshold_test network.coordinator.threshold network.sites
            (λ j inside. sound.same_threshold j (omega (arith, sound.all_sites))),
        eq-eqb (network.coordinator.total + all_pending network.sites)
            (all_arrivals network.sites) sound.all_counted,
      )
