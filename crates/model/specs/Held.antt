-- What a caller of the tracker holds: the records and the lent memory, as the calls before left
-- them (document 01, "Whole lists of draws").
--
--   no_record                    what stands where no site has a record: every number 0. With
--                                threshold 0 no memory is consistent
--   record_in sites which        a site's record; `no_record` past the last
--   with_record sites which ..   the records with that of one site changed
--   Held                         the records of all sites, the coordinator's, and both memories
--   held_by ..                   the same from its four parts
--   record_at held which         a site's record: the one in `Sites`
--   after_site_call, after_coordinator_call  what is held after a call on one of them
--   network_of settings held     the network that records and memory hold
--   network_written settings held network counts     a network written over them
--   held_consistent settings held what records and memory must meet, in mid-delivery too
--   held_refusal settings held   1, 2, 3, 4, 11 of the batch call, or accepted
use Rattle.std.specs.Prelude.{Bool, List, ℕ, get_or, set}
use Rattle.model.specs.declared.Settings.{Settings}
use Rattle.model.specs.declared.SiteRecord.{SiteRecord}
use Rattle.model.specs.declared.Sites.{Sites}
use Rattle.model.specs.declared.CoordinatorRecord.{CoordinatorRecord}
use Rattle.model.specs.CoordinatorMemory.{coordinator_record, coordinator_memory}
use Rattle.model.specs.Network.{Network}
use Rattle.model.specs.NetworkMemory.{site_records, sites_memory, network_in, bench_consistent, network_refusal}

-- ---- The records of the sites

abbrev pub no_record : SiteRecord
no_record = record { arrivals = 0; pending = 0; threshold = 0; used = 0; dropped = 0 }

abbrev pub record_in : Sites → ℕ → SiteRecord
record_in sites which = get_or sites.records which no_record

abbrev pub with_record : Sites → ℕ → SiteRecord → Sites
with_record sites which numbers = record {
  records = set sites.records which numbers;
  messages = sites.messages;
}

-- ---- Records and memory

-- "Each call gets the records and memory as the calls before left them".
pub record Held : Type 0 where
  -- the records of up to 32 sites, with the network's own counts of messages
  pub sites : Sites
  pub coordinator : CoordinatorRecord
  -- the sites' lent memory, one after another, site 0 first; it may be longer
  pub site_memory : List ℕ
  -- the coordinator's lent memory; it may be longer
  pub coordinator_memory : List ℕ

abbrev pub held_by : Sites → CoordinatorRecord → List ℕ → List ℕ → Held
held_by sites coordinator site_memory coordinator_memory = record {
  sites = sites;
  coordinator = coordinator;
  site_memory = site_memory;
  coordinator_memory = coordinator_memory;
}

-- "a deck's record being the one in the bench"
abbrev pub record_at : Held → ℕ → SiteRecord
record_at held = record_in held.sites

-- A call on a site: its record, and the sites' memory, as they are then.
abbrev pub after_site_call : Held → ℕ → SiteRecord → List ℕ → Held
after_site_call held which numbers site_memory =
    held_by (with_record held.sites which numbers) held.coordinator site_memory
    held.coordinator_memory

-- A call on the coordinator: its record and memory as they are then.
abbrev pub after_coordinator_call : Held → CoordinatorRecord → List ℕ → Held
after_coordinator_call held numbers coordinator_memory =
    held_by held.sites numbers held.site_memory coordinator_memory

-- ---- The network that they hold

abbrev pub network_of : Settings → Held → Network
network_of settings held =
    network_in settings held.sites held.coordinator held.site_memory
    held.coordinator_memory

-- Records, counters in use and histograms, estimates, with counts of messages; all else stays.
abbrev pub network_written : Settings → Held → Network → List ℕ → Held
network_written settings held network counts =
    held_by (record {
      records = site_records network.sites held.sites.records;
      messages = counts;
    })
    (coordinator_record network.coordinator)
    (sites_memory settings network.sites held.site_memory)
    (coordinator_memory network.coordinator held.coordinator_memory)

abbrev pub held_consistent : Settings → Held → Bool
held_consistent settings held =
    bench_consistent settings held.sites held.coordinator held.site_memory
    held.coordinator_memory

abbrev pub held_refusal : Settings → Held → ℕ
held_refusal settings held =
    network_refusal settings held.sites held.coordinator held.site_memory
    held.coordinator_memory
