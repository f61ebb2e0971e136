-- A network in its records and lent memory: "In a bench the decks' memory stands one after another,
-- deck 0 first." What is read there, what is written there, and what the batch call tests first.
--
--   sites_in k settings records memory     the first k sites; none for a record that is missing
--   sites_memory settings sites memory    the memory with these sites written into it
--   bench_consistent ..                   what records and memory of every network must meet
--   network_consistent ..                 what the batch call asks: the same, and all is at rest
--   network_refusal ..                    1, 2, 3, 4, 11 of the batch call, or accepted
use Rattle.std.specs.Prelude.{Bool, true, false, ◌&&◌, ◌||◌, not, List, [], ◌∷◌, ◌++◌, ℕ, zero, suc, ◌+◌, ◌*◌, eqb, ltb, length, take, drop, replicate}
use Rattle.model.specs.declared.Settings.{Settings}
use Rattle.model.specs.declared.SiteRecord.{SiteRecord}
use Rattle.model.specs.declared.Sites.{Sites}
use Rattle.model.specs.declared.CoordinatorRecord.{CoordinatorRecord}
use Rattle.model.specs.Refusals.{when, ◌or_else◌, no_refusal, memory_too_short, memory_inconsistent}
use Rattle.model.specs.Limits.{most_sites}
use Rattle.model.specs.Settings.{settings_refusal}
use Rattle.model.specs.Site.{Site, fresh_site}
use Rattle.model.specs.SiteMemory.{site_words, site_in, site_record, site_memory, site_consistent}
use Rattle.model.specs.Coordinator.{is_idle}
use Rattle.model.specs.CoordinatorMemory.{coordinator_words, coordinator_in, coordinator_consistent}
use Rattle.model.specs.Network.{Network}
use Rattle.model.specs.MessageCounts.{none_counted, counts_within}

-- ---- The sites' memory

abbrev pub sites_words : Settings → ℕ
sites_words settings = settings.sites * site_words settings

abbrev pub sites_in : ℕ → Settings → List SiteRecord → List ℕ → List Site
sites_in zero settings numbers memory = []
sites_in (suc more) settings [] memory = []
sites_in (suc more) settings (first ∷ others) memory =
    site_in settings first memory
    ∷ sites_in more settings others (drop (site_words settings) memory)

-- Each site written into its own part; what lies past the last stays.
abbrev pub sites_memory : Settings → List Site → List ℕ → List ℕ
sites_memory settings [] memory = memory
sites_memory settings (site ∷ sites) memory =
    site_memory settings site (take (site_words settings) memory)
    ++ sites_memory settings sites (drop (site_words settings) memory)

-- The records of these sites; those of sites k to 31 stay.
abbrev pub site_records : List Site → List SiteRecord → List SiteRecord
site_records [] numbers = numbers
site_records (site ∷ sites) [] = []
site_records (site ∷ sites) (first ∷ others) = site_record site ∷ site_records sites others

-- "Started fresh": all 32 records, and no message counted for any site.
abbrev pub fresh_sites : Sites
fresh_sites = record {
  records = replicate most_sites (site_record fresh_site);
  messages = none_counted;
}

abbrev pub network_in : Settings → Sites → CoordinatorRecord → List ℕ → List ℕ → Network
network_in settings sites coordinator site_numbers coordinator_numbers = record {
  sites = sites_in settings.sites settings sites.records site_numbers;
  coordinator = coordinator_in settings coordinator coordinator_numbers;
}

-- ---- Refusals 4 and 11 of the batch call

-- Each site consistent by itself; a record that is missing is not.
abbrev pub sites_consistent : ℕ → Settings → List SiteRecord → List ℕ → Bool
sites_consistent zero settings numbers memory = true
sites_consistent (suc more) settings [] memory = false
sites_consistent (suc more) settings (first ∷ others) memory =
    site_consistent settings first memory
    && sites_consistent more settings others (drop (site_words settings) memory)

abbrev pub all_pending : List Site → ℕ
all_pending [] = 0
all_pending (site ∷ sites) = site.pending + all_pending sites

abbrev pub all_arrivals : List Site → ℕ
all_arrivals [] = 0
all_arrivals (site ∷ sites) = site.arrivals + all_arrivals sites

abbrev pub same_threshold : ℕ → List Site → Bool
same_threshold threshold [] = true
same_threshold threshold (site ∷ sites) =
    eqb site.threshold threshold && same_threshold threshold sites

-- "For the many-draw call also: desk not idle, thresholds unequal, total plus all pendings other
-- than all draws."
abbrev pub at_rest_together : Network → Bool
at_rest_together network =
    let coordinator = network.coordinator in
    is_idle coordinator.phase
    && same_threshold coordinator.threshold network.sites
    && eqb (coordinator.total + all_pending network.sites) (all_arrivals network.sites)

-- Each site and the coordinator by themselves, and the count of messages of each site (request N5:
-- "each with the old limit"); in mid-delivery too.
abbrev pub bench_consistent : Settings → Sites → CoordinatorRecord → List ℕ → List ℕ → Bool
bench_consistent settings sites coordinator site_numbers coordinator_numbers =
    sites_consistent settings.sites settings sites.records site_numbers
    && coordinator_consistent settings (coordinator_in settings coordinator coordinator_numbers)
    && counts_within settings.sites sites.messages

abbrev pub network_consistent : Settings → Sites → CoordinatorRecord → List ℕ → List ℕ → Bool
network_consistent settings sites coordinator site_numbers coordinator_numbers =
    bench_consistent settings sites coordinator site_numbers coordinator_numbers
    && at_rest_together (network_in settings sites coordinator site_numbers coordinator_numbers)

abbrev pub network_too_short : Settings → List ℕ → List ℕ → Bool
network_too_short settings site_numbers coordinator_numbers =
    ltb (length site_numbers) (sites_words settings)
    || ltb (length coordinator_numbers) (coordinator_words settings)

abbrev pub network_refusal : Settings → Sites → CoordinatorRecord → List ℕ → List ℕ → ℕ
network_refusal settings sites coordinator site_numbers coordinator_numbers =
    settings_refusal settings
    or_else when (network_too_short settings site_numbers coordinator_numbers) memory_too_short
    or_else when
    (not (network_consistent settings sites coordinator site_numbers coordinator_numbers))
    memory_inconsistent
    or_else no_refusal
