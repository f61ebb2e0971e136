-- How large the coordinator's numbers may grow, from any sound network: what keeps a batch call's
-- arithmetic within 64 bits, also from memory that never arose (PROOF.md S7).
--
--   all_unreported sites                 the unreported arrivals of all counters of all sites
--   Grown before after                   each estimate with all unreported, and each value count,
--                                        grew by at most the arrivals taken in between
--   start_limit                          an estimate with all unreported that passed refusal 11
--   Bounded network                      what that leaves them, as a batch goes on
--   estimate_limit, value_count_limit    and at most, since all arrivals are
--   NumberClaims                         all of it
use Rattle.std.specs.Prelude.{◌≡◌, List, [], ◌∷◌, ℕ, ◌+◌, ◌*◌, ◌≤◌}
use Rattle.model.specs.declared.Settings.{Settings}
use Rattle.model.specs.declared.Arrival.{Arrival}
use Rattle.model.specs.Refusals.{no_refusal}
use Rattle.model.specs.Limits.{most_sites, most_capacity, site_limit, most_arrivals, coordinator_limit}
use Rattle.model.specs.Settings.{settings_refusal}
use Rattle.model.specs.Counters.{unreported_in}
use Rattle.model.specs.Site.{Site}
use Rattle.model.specs.Network.{Network, after_arrival}
use Rattle.model.specs.NetworkMemory.{all_arrivals}
use Rattle.model.specs.Runs.{refusal_in, Batch, batch_of}
use Rattle.model.specs.SoundNetwork.{estimate_of, count_of_value, Sound}

-- ---- The numbers

-- The unreported arrivals of all sites.
abbrev pub all_unreported : List Site → ℕ
all_unreported [] = 0
all_unreported (site ∷ sites) = unreported_in site.counters + all_unreported sites

-- An estimate grows only by what was unreported, and an arrival adds one to that. The arrivals
-- taken in between are the difference of all arrivals; no difference is written.
pub record Grown (before after : Network) : Type 0 where
  pub estimate_grows : (item : ℕ)
      → estimate_of after item + all_unreported after.sites + all_arrivals before.sites
      ≤ estimate_of before item + all_unreported before.sites + all_arrivals after.sites
  pub value_grows : (value : ℕ)
      → count_of_value after value + all_arrivals before.sites
      ≤ count_of_value before value + all_arrivals after.sites

-- ---- The limits

-- The estimates and value counts of a coordinator that passed refusal 11.
pub record WithinLimit (network : Network) : Type 0 where
  pub estimates_within : (item : ℕ) → estimate_of network item ≤ coordinator_limit
  pub values_within : (value : ℕ) → count_of_value network value ≤ coordinator_limit

-- An estimate that passed, and what is unreported: a counter has less than a threshold of it.
abbrev pub start_limit : ℕ
start_limit = coordinator_limit + most_sites * (most_capacity * site_limit)

-- Of a network at rest in a batch: its numbers passed, and grew by the arrivals at most.
pub record Bounded (network : Network) : Type 0 where
  pub estimates_bounded : (item : ℕ)
      → estimate_of network item + all_unreported network.sites
      ≤ start_limit + all_arrivals network.sites
  pub values_bounded : (value : ℕ)
      → count_of_value network value ≤ coordinator_limit + all_arrivals network.sites

-- So in a batch no number is ever above these.
abbrev pub estimate_limit : ℕ
estimate_limit = start_limit + most_arrivals

abbrev pub value_count_limit : ℕ
value_count_limit = coordinator_limit + most_arrivals

-- ---- The claims

-- A batch, stopped or not: sound, no number above its limit.
pub record BatchNumbers (settings : Settings) (network : Network) (batch : Batch) : Type 0 where
  pub sound : Sound settings batch.network
  pub grown : Grown network batch.network
  pub estimates_small : WithinLimit network
      → (item : ℕ) → estimate_of batch.network item ≤ estimate_limit
  pub values_small : WithinLimit network
      → (value : ℕ) → count_of_value batch.network value ≤ value_count_limit
  pub total_small : batch.network.coordinator.total ≤ coordinator_limit

-- For settings that pass their test and every sound network.
pub record NumberClaims : Type 0 where
  -- after one accepted arrival with full delivery
  pub arrival_grows : (settings : Settings) (network : Network) (arrival : Arrival)
      → settings_refusal settings ≡ no_refusal
      → Sound settings network
      → refusal_in settings network arrival ≡ no_refusal
      → Grown network (after_arrival settings network arrival).network
  -- which is one arrival more
  pub arrival_counted : (settings : Settings) (network : Network) (arrival : Arrival)
      → settings_refusal settings ≡ no_refusal
      → Sound settings network
      → refusal_in settings network arrival ≡ no_refusal
      → all_arrivals (after_arrival settings network arrival).network.sites
      ≡ all_arrivals network.sites + 1
  -- after any batch, whatever its log
  pub batch_numbers : (settings : Settings) (room : ℕ) (network : Network)
      (arrivals : List Arrival)
      → settings_refusal settings ≡ no_refusal
      → Sound settings network
      → BatchNumbers settings network (batch_of settings room network arrivals)
