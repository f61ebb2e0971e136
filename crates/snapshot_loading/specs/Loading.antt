-- What the storing parts of reading a bench require (request N3).
use Rattle.std.specs.Prelude.{List, ℕ, ◌≤◌, length}
use Rattle.model.specs.declared.Settings.{Settings}
use Rattle.model.specs.CoordinatorMemory.{coordinator_words}
use Rattle.model.specs.NetworkMemory.{sites_words}
use Rattle.snapshot_header.specs.Header.{WholeFile}

-- What storing asks: a file of the length that its settings give, and memory for all.
pub record StoreAsks (settings : Settings) (file memory : List ℕ) : Type 0 where
  pub whole : WholeFile settings file
  pub memory_long : sites_words settings ≤ length memory

pub record DeskAsks (settings : Settings) (file memory : List ℕ) : Type 0 where
  pub whole : WholeFile settings file
  pub memory_long : coordinator_words settings ≤ length memory
