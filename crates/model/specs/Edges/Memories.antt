-- What stands where in lent memory, read and written: slots, class counts, estimates, one site
-- after another; what is past them, and what is not used, stays.
use Rattle.std.specs.Prelude.{◌≡◌, List, [], ◌∷◌, ◌++◌, ℕ, replicate}
use Rattle.model.specs.declared.Phase.TheVariants.{Idle}
use Rattle.model.specs.Site.{Site}
use Rattle.model.specs.SiteMemory.{site_in, site_record, site_memory}
use Rattle.model.specs.Coordinator.{Coordinator, fresh_coordinator}
use Rattle.model.specs.CoordinatorMemory.{coordinator_in, coordinator_record, coordinator_memory}
use Rattle.model.specs.NetworkMemory.{sites_in, sites_memory, site_records, fresh_sites}
use Rattle.model.specs.Instances.{settings_a, settings_p6, counter_with}
use Rattle.model.specs.Edges.Inputs.{settings_two, site_numbers, coordinator_numbers, end_counts}

-- A site with two slots in use under settings A, every number another one.
abbrev pub site_with : ℕ → Site
site_with arrivals = record {
  counters = counter_with 9 21 5 6 ∷ counter_with 8 22 3 4 ∷ [];
  histogram = end_counts arrivals 2;
  arrivals = arrivals;
  pending = 10;
  threshold = 11;
  dropped = 14;
}

-- Its numbers: "for each slot a code, a count, an overcount and a sent number; then 1024 class
-- counts". Four of the six slots are unused, and hold sevens.
abbrev pub numbers_with : ℕ → List ℕ
numbers_with arrivals =
    (9 ∷ 21 ∷ 5 ∷ 6 ∷ 8 ∷ 22 ∷ 3 ∷ 4 ∷ []) ++ (replicate 16 7 ++ end_counts arrivals 2)

-- A coordinator under P6's settings: ten estimates, then the class counts.
abbrev pub estimates : List ℕ
estimates = 30 ∷ 31 ∷ 32 ∷ 33 ∷ 34 ∷ 35 ∷ 36 ∷ 37 ∷ 38 ∷ 39 ∷ []

abbrev pub coordinator_with : Coordinator
coordinator_with = record {
  estimates = estimates;
  histogram = end_counts 40 41;
  total = 42;
  base = 43;
  threshold = 44;
  signals = 45;
  quantile = 46;
  phase = Idle;
}

pub record MemoryEdges : Type 0 where
  -- a site: "draws, pending, threshold, slots in use", the forgotten sum, and its memory
  pub site_record_lem : site_record (site_with 12) ≡ site_numbers 12 10 11 2 14
  pub site_read : site_in settings_a (site_numbers 12 10 11 2 14) (numbers_with 12 ++ (7 ∷ []))
      ≡ site_with 12
  pub site_written : site_memory settings_a (site_with 12) (replicate 1050 7)
      ≡ numbers_with 12 ++ (7 ∷ 7 ∷ [])
  -- the coordinator: "a number for each code and 1024 class counts"
  pub coordinator_record_lem :
      coordinator_record coordinator_with ≡ coordinator_numbers 42 43 44 45 46 Idle
  pub coordinator_read : coordinator_in settings_p6 (coordinator_numbers 42 43 44 45 46 Idle)
      (estimates ++ end_counts 40 41 ++ (7 ∷ []))
      ≡ coordinator_with
  pub coordinator_written : coordinator_memory coordinator_with (replicate 1036 7)
      ≡ estimates ++ end_counts 40 41 ++ (7 ∷ 7 ∷ [])
  -- "the decks' memory stands one after another, deck 0 first"; A for two sites
  pub sites_read : sites_in 2 settings_two
      (site_numbers 12 10 11 2 14
      ∷ site_numbers 13 10 11 2 14
      ∷ replicate 30 (site_numbers 9 9 9 9 9))
      (numbers_with 12 ++ (numbers_with 13 ++ (7 ∷ [])))
      ≡ site_with 12 ∷ site_with 13 ∷ []
  pub sites_written : sites_memory settings_two (site_with 12 ∷ site_with 13 ∷ [])
      (replicate 2098 7)
      ≡ numbers_with 12 ++ (numbers_with 13 ++ (7 ∷ 7 ∷ []))
  -- the records of sites k to 31 stay
  pub records_written : site_records (site_with 12 ∷ site_with 13 ∷ [])
      (replicate 32 (site_numbers 9 9 9 9 9))
      ≡ site_numbers 12 10 11 2 14
      ∷ site_numbers 13 10 11 2 14
      ∷ replicate 30 (site_numbers 9 9 9 9 9)
  -- "Started fresh, every number is 0 .., every threshold 1": 32 records, no message
  pub fresh_records : fresh_sites.records ≡ replicate 32 (site_numbers 0 0 1 0 0)
  pub fresh_messages : fresh_sites.messages ≡ replicate 32 0
  pub fresh_coordinator_lem : coordinator_record (fresh_coordinator settings_p6)
      ≡ coordinator_numbers 0 0 1 0 0 Idle
  pub fresh_memory : coordinator_memory (fresh_coordinator settings_p6) (replicate 1035 7)
      ≡ replicate 1034 0 ++ (7 ∷ [])
