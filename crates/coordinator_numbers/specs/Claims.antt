-- What a row of the coordinator's is worth, read as its record: a record's own row is read as that
-- record; a row that is none is inconsistent memory, for every call.
use Rattle.std.specs.Prelude.{◌≡◌, false, List, ℕ, ◌≤◌}
use Rattle.model.specs.declared.Settings.{Settings}
use Rattle.model.specs.declared.Sites.{Sites}
use Rattle.model.specs.declared.CoordinatorRecord.{CoordinatorRecord}
use Rattle.model.specs.CoordinatorMemory.{coordinator_in, coordinator_consistent}
use Rattle.model.specs.NetworkMemory.{network_consistent}
use Rattle.record_numbers.specs.Numbers.{greatest_narrow, greatest_held, coordinator_well, coordinator_read, coordinator_numbers}

pub record RowClaims : Type 0 where
  -- of a record whose numbers of four bytes are such
  pub own_row : (c : CoordinatorRecord)
      → greatest_held (coordinator_numbers c) ≤ greatest_narrow
      → coordinator_read (coordinator_numbers c) ≡ c
  -- "memory inconsistent", of the calls on the coordinator
  pub no_record : (settings : Settings) (numbers memory : List ℕ)
      → coordinator_well numbers ≡ false
      → coordinator_consistent settings (coordinator_in settings (coordinator_read numbers) memory)
      ≡ false
  -- and of those on a whole network
  pub no_network : (settings : Settings) (sites : Sites) (site_memory numbers memory : List ℕ)
      → coordinator_well numbers ≡ false
      → network_consistent settings sites (coordinator_read numbers) site_memory memory ≡ false
