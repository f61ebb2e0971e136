-- What the two start calls of a history leave: fresh records, and zeros in both memories.
--
--   StartedFresh settings start    what stands in the network's own numbers then
use Rattle.std.specs.Prelude.{◌≡◌, take, replicate}
use Rattle.model.specs.declared.Settings.{Settings}
use Rattle.model.specs.Coordinator.{fresh_coordinator}
use Rattle.model.specs.CoordinatorMemory.{coordinator_words, coordinator_record}
use Rattle.model.specs.NetworkMemory.{sites_words, fresh_sites}
use Rattle.history.specs.State.{Held}

-- "Started fresh, every number is 0 (unused slots too), every threshold 1 and the desk idle".
pub record StartedFresh (settings : Settings) (start : Held) : Type 0 where
  pub sites : start.sites ≡ fresh_sites
  pub coordinator : start.coordinator ≡ coordinator_record (fresh_coordinator settings)
  pub site_memory : take (sites_words settings) start.site_memory
      ≡ replicate (sites_words settings) 0
  pub coordinator_memory : take (coordinator_words settings) start.coordinator_memory
      ≡ replicate (coordinator_words settings) 0
