-- What the tests of a whole network require and promise.
--
--   RecordsFit       a record for each site, each with numbers within a site's limits
--   AllCountsFit        the same with a total within the coordinator's limit
--   SameSays, CountedSays, RestSays   what the tests that look at no memory answer: the model's
--                                     test, whatever the memory
use Rattle.std.specs.Prelude.{◌≡◌, Bool, List, ℕ, ◌+◌, ◌≤◌, ◌<◌, eqb, length, get_or}
use Rattle.model.specs.declared.Settings.{Settings}
use Rattle.model.specs.declared.Sites.{Sites}
use Rattle.model.specs.declared.CoordinatorRecord.{CoordinatorRecord}
use Rattle.model.specs.Refusals.{no_refusal}
use Rattle.model.specs.Limits.{site_limit, coordinator_limit}
use Rattle.model.specs.Settings.{settings_refusal}
use Rattle.model.specs.NetworkMemory.{sites_in, network_in, same_threshold, all_pending, all_arrivals, at_rest_together}
use Rattle.model.specs.Held.{no_record}

-- ---- What is required

pub record RecordsFit (settings : Settings) (sites : Sites) : Type 0 where
  pub settings_accepted : settings_refusal settings ≡ no_refusal
  pub all_records : settings.sites ≤ length sites.records
  pub pending_within : (j : ℕ) → j < settings.sites
      → (get_or sites.records j no_record).pending ≤ site_limit
  pub arrivals_within : (j : ℕ) → j < settings.sites
      → (get_or sites.records j no_record).arrivals ≤ site_limit

-- The records with a total that is within the coordinator's limit.
pub record AllCountsFit (settings : Settings) (sites : Sites) (total : ℕ) : Type 0 where
  pub records_fit : RecordsFit settings sites
  pub total_within : total ≤ coordinator_limit

-- ---- What is promised

-- Each site has this threshold.
pub record SameSays (settings : Settings) (sites : Sites) (threshold : ℕ) (answer : Bool)
    : Type 0 where
  pub same : (memory : List ℕ)
      → answer
      ≡ same_threshold threshold (sites_in settings.sites settings sites.records memory)

-- A total with all pendings is all arrivals.
pub record CountedSays (settings : Settings) (sites : Sites) (total : ℕ) (answer : Bool)
    : Type 0 where
  pub counted : (memory : List ℕ)
      → let all = sites_in settings.sites settings sites.records memory in
      answer ≡ eqb (total + all_pending all) (all_arrivals all)

-- The coordinator is idle, thresholds are equal, all arrivals counted.
pub record RestSays
    (settings : Settings)
    (sites : Sites)
    (coordinator : CoordinatorRecord)
    (answer : Bool) : Type 0 where
  pub at_rest : (site_memory coordinator_memory : List ℕ)
      → answer
      ≡ at_rest_together (network_in settings sites coordinator site_memory coordinator_memory)
