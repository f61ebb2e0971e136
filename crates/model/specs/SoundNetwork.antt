-- A sound network: what document 01's list "Inconsistent" denies, as facts of the model's values.
-- It is the meaning of refusal 11 but for the limits on numbers and on messages, and for what a
-- site has forgotten (`DroppedWithin`), which only memory that never arose can pass (a number may
-- pass them within a call).
--
--   SoundCounter universe arrivals threshold counter   a counter in use
--   SoundSite settings site                            a site by itself
--   DroppedWithin site                                 it has forgotten no more than its arrivals
--   SoundNumbers settings c                            the coordinator without its phase
--   SoundPhase settings signals phase                  a phase with the signals that it goes with
--   SoundCoordinator settings c                        the coordinator by itself
--   sum_of_phase phase                                 the sum in a phase; 0 where it has none
--   estimate_of network item, count_of_value network value
--   Sound settings network                             a network at rest: what the batch call asks
use Rattle.std.specs.Prelude.{◌≡◌, ℕ, ◌+◌, ◌*◌, ◌≤◌, ◌<◌, length, get_or}
use Rattle.model.specs.declared.Settings.{Settings}
use Rattle.model.specs.declared.Phase.{Phase}
use Rattle.model.specs.declared.Phase.TheVariants.{Idle, Collecting, Probing, Announcing}
use Rattle.model.specs.Limits.{top_value, value_count, site_limit}
use Rattle.model.specs.Settings.{threshold_of}
use Rattle.model.specs.Counters.{Counter, counter_at, unreported, unreported_in}
use Rattle.model.specs.Site.{Site}
use Rattle.model.specs.SiteMemory.{sum}
use Rattle.model.specs.Coordinator.{Coordinator}
use Rattle.model.specs.Network.{Network, site_at}
use Rattle.model.specs.NetworkMemory.{all_pending, all_arrivals}

-- ---- A site

-- "in a slot in use, a code not below u; .. an overcount plus sent above its count; a count above
-- draws; unsent .. not below the threshold"
pub record SoundCounter (universe arrivals threshold : ℕ) (counter : Counter) : Type 0 where
  pub item_known : counter.item < universe
  pub within_count : counter.overestimate + counter.reported ≤ counter.count
  pub count_within : counter.count ≤ arrivals
  pub unreported_below : unreported counter < threshold

-- "slots in use above c; .. a deck above its limit; class counts not summing to draws; .. pending
-- not below the threshold; a deck's threshold 0 or above 1,000,000,000"
pub record SoundSite (settings : Settings) (site : Site) : Type 0 where
  pub few_counters : length site.counters ≤ settings.capacity
  pub counters_sound : (place : ℕ) → place < length site.counters
      → SoundCounter settings.universe site.arrivals site.threshold
      (counter_at site.counters place)
  pub histogram_length : length site.histogram ≡ value_count
  pub histogram_sum : sum site.histogram ≡ site.arrivals
  pub arrivals_within : site.arrivals ≤ site_limit
  pub pending_below : site.pending < site.threshold
  pub threshold_positive : 1 ≤ site.threshold
  pub threshold_within : site.threshold ≤ site_limit
  -- what it has forgotten, with all that is unreported, is at most its arrivals and what its
  -- counters can hold: a site that passes is within, and each arrival adds one to both sides
  pub dropped_bounded : site.dropped + unreported_in site.counters
      ≤ site.arrivals + settings.capacity * site_limit

-- "A forgotten sum above the deck's draws is inconsistent memory." Memory that never arose may pass
-- and be above it after one call: the counter that is replaced may hold more than arrived. So no
-- step keeps it; of a history it follows from what is counted (crate demands, Dropped.antt).
abbrev pub DroppedWithin : Site → Type 0
DroppedWithin site = site.dropped ≤ site.arrivals

-- ---- The coordinator

-- "a desk threshold other than the one its base gives; base above total; the desk's class above
-- 1023; the desk's class counts not summing to its total while its threshold is 1"
pub record SoundNumbers (settings : Settings) (c : Coordinator) : Type 0 where
  pub estimates_length : length c.estimates ≡ settings.universe
  pub histogram_length : length c.histogram ≡ value_count
  pub threshold_of_base : c.threshold ≡ threshold_of settings c.base
  pub base_within : c.base ≤ c.total
  pub quantile_within : c.quantile ≤ top_value
  pub histogram_sum : c.threshold ≡ 1 → sum c.histogram ≡ c.total

-- A close that goes on at a site: "signals .. other than k in another phase; .. a deck ≥ k".
pub record ClosingAt (settings : Settings) (signals site : ℕ) : Type 0 where
  pub all_signals : signals ≡ settings.sites
  pub site_known : site < settings.sites

-- "an interval not within 0 to 1023 with low below high"
pub record Interval (low high : ℕ) : Type 0 where
  pub low_below : low < high
  pub high_within : high ≤ top_value

-- A close that probes an interval.
pub record HalvingAt (settings : Settings) (signals site low high : ℕ) : Type 0 where
  pub closing : ClosingAt settings signals site
  pub interval : Interval low high

-- What each phase asks of the signals, its site and its interval.
abbrev pub SoundPhase : Settings → ℕ → Phase → Type 0
SoundPhase settings signals Idle = signals < settings.sites
SoundPhase settings signals (Collecting site) = ClosingAt settings signals site
SoundPhase settings signals (Probing site low high sum) = HalvingAt settings signals site low high
SoundPhase settings signals (Announcing site) = ClosingAt settings signals site

-- "the sum in its phase"; 0 in a phase that has none.
abbrev pub sum_of_phase : Phase → ℕ
sum_of_phase Idle = 0
sum_of_phase (Collecting site) = 0
sum_of_phase (Probing site low high sum) = sum
sum_of_phase (Announcing site) = 0

-- The coordinator by itself: its numbers and its phase.
pub record SoundCoordinator (settings : Settings) (c : Coordinator) : Type 0 where
  pub numbers : SoundNumbers settings c
  pub phase_sound : SoundPhase settings c.signals c.phase

-- Two numbers of its memory; 0 past the end.
abbrev pub estimate_of : Network → ℕ → ℕ
estimate_of network item = get_or network.coordinator.estimates item 0

-- The coordinator's count of a value; 0 past the end.
abbrev pub count_of_value : Network → ℕ → ℕ
count_of_value network value = get_or network.coordinator.histogram value 0

-- ---- The network at rest

-- "For the many-draw call also: desk not idle, thresholds unequal, total plus all pendings other
-- than all draws."
pub record Sound (settings : Settings) (network : Network) : Type 0 where
  pub all_sites : length network.sites ≡ settings.sites
  pub sites_sound : (j : ℕ) → j < settings.sites → SoundSite settings (site_at network j)
  pub coordinator_sound : SoundCoordinator settings network.coordinator
  pub idle : network.coordinator.phase ≡ Idle
  pub same_threshold : (j : ℕ) → j < settings.sites
      → (site_at network j).threshold ≡ network.coordinator.threshold
  pub all_counted : network.coordinator.total + all_pending network.sites
      ≡ all_arrivals network.sites
