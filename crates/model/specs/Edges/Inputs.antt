-- What the rows of the second table are made of: settings with two sites, records by their numbers,
-- and memories by the numbers that are not 0.
--
--   padded n numbers                   n numbers: these, and zeros after them
--   site_refusal numbers slots counts  1 to 4 and 11 of a call on a site, settings A
--   coordinator_refusal_of ..          the same of a call on the coordinator, settings P6
--   network_refusal_of ..              the same of the batch call, settings P6
use Rattle.std.specs.Prelude.{List, [], ◌∷◌, ◌++◌, ℕ, replicate}
use Rattle.model.specs.declared.Settings.{Settings}
use Rattle.model.specs.declared.Arrival.{Arrival}
use Rattle.model.specs.declared.SiteRecord.{SiteRecord}
use Rattle.model.specs.declared.Phase.{Phase}
use Rattle.model.specs.declared.Phase.TheVariants.{Idle}
use Rattle.model.specs.declared.CoordinatorRecord.{CoordinatorRecord}
use Rattle.model.specs.Settings.{settings_with}
use Rattle.model.specs.Site.{Site, fresh_site}
use Rattle.model.specs.SiteMemory.{overwrite, site_memory_refusal}
use Rattle.model.specs.Coordinator.{Coordinator, fresh_coordinator}
use Rattle.model.specs.CoordinatorMemory.{coordinator_memory_refusal}
use Rattle.model.specs.NetworkMemory.{network_refusal}
use Rattle.model.specs.Instances.{settings_a, settings_p6, arrival_with}

-- ---- Settings and draws

-- Settings A for two sites: a threshold of 2 at base 12.
abbrev pub settings_two : Settings
settings_two = settings_with 2 1000 1000 500 6 10

-- A draw of P2's code and class, at one site or the other.
abbrev pub draw_at : ℕ → Arrival
draw_at site = arrival_with site 7 3

-- Twelve draws under `settings_two`, six at each site: the threshold is 2 then.
abbrev pub twelve : List Arrival
twelve =
    draw_at 0 ∷ draw_at 1 ∷ draw_at 0 ∷ draw_at 1 ∷ draw_at 0 ∷ draw_at 1
    ∷ draw_at 0 ∷ draw_at 1 ∷ draw_at 0 ∷ draw_at 1 ∷ draw_at 0 ∷ draw_at 1 ∷ []

-- So many draws of a code, class 3.
abbrev pub of_item : ℕ → ℕ → List Arrival
of_item item n = replicate n (arrival_with 0 item 3)

-- ---- Records

-- "draws, pending, threshold, slots in use", and the forgotten sum
abbrev pub site_numbers : ℕ → ℕ → ℕ → ℕ → ℕ → SiteRecord
site_numbers arrivals pending threshold used dropped = record {
  arrivals = arrivals;
  pending = pending;
  threshold = threshold;
  used = used;
  dropped = dropped;
}

-- "total, base, threshold, signals, class, and a phase"
abbrev pub coordinator_numbers : ℕ → ℕ → ℕ → ℕ → ℕ → Phase → CoordinatorRecord
coordinator_numbers total base threshold signals quantile phase = record {
  total = total;
  base = base;
  threshold = threshold;
  signals = signals;
  quantile = quantile;
  phase = phase;
}

abbrev pub fresh_numbers : CoordinatorRecord
fresh_numbers = coordinator_numbers 0 0 1 0 0 Idle

-- A site and a coordinator, fresh but for a threshold, or for a phase.
abbrev pub site_at_threshold : ℕ → Site
site_at_threshold threshold = record {
  counters = [];
  histogram = fresh_site.histogram;
  arrivals = 0;
  pending = 0;
  threshold = threshold;
  dropped = 0;
}

abbrev pub coordinator_at : ℕ → Phase → Coordinator
coordinator_at threshold phase =
    let fresh = fresh_coordinator settings_p6 in
    record {
      estimates = fresh.estimates;
      histogram = fresh.histogram;
      total = fresh.total;
      base = fresh.base;
      threshold = threshold;
      signals = fresh.signals;
      quantile = fresh.quantile;
      phase = phase;
    }

-- ---- Memories

abbrev pub padded : ℕ → List ℕ → List ℕ
padded n numbers = overwrite numbers (replicate n 0)

-- 1024 class counts: those of the classes 0 and 1023, none between.
abbrev pub end_counts : ℕ → ℕ → List ℕ
end_counts first last = first ∷ (replicate 1022 0 ++ (last ∷ []))

-- A site's memory under settings A, by its slots and its class counts; 1048 numbers.
abbrev pub site_refusal : SiteRecord → List ℕ → List ℕ → ℕ
site_refusal numbers slots counts =
    site_memory_refusal settings_a numbers (padded 24 slots ++ counts)

-- The coordinator's memory under P6's settings, by its estimates and its class counts; 1034
-- numbers.
abbrev pub coordinator_refusal_of : CoordinatorRecord → List ℕ → List ℕ → ℕ
coordinator_refusal_of numbers estimates counts =
    coordinator_memory_refusal settings_p6 numbers (padded 10 estimates ++ counts)

-- A network under P6's settings, of two sites that hold no code: their records and class counts,
-- the messages counted of the last of them, the coordinator; 2528 and 1034 numbers. Records and
-- counts 2 to 31 hold anything.
abbrev pub network_refusal_of : SiteRecord → List ℕ → SiteRecord → List ℕ → ℕ → CoordinatorRecord →
    ℕ
network_refusal_of first firstCounts second secondCounts counted coordinator =
    network_refusal settings_p6
    (record {
      records = first ∷ (second ∷ replicate 30 (site_numbers 9 9 9 9 9));
      messages = 0 ∷ (counted ∷ replicate 30 100000000000001);
    })
    coordinator
    (replicate 240 0 ++ firstCounts ++ (replicate 240 0 ++ secondCounts))
    (replicate 1034 0)
