-- What the tests of the desk part of a file require and promise (request N3): refusal 11 of the
-- coordinator, told from the bytes.
--
--   desk_memory settings file   the coordinator's memory, as the file says it
--   NumbersLie, SumAsks         numbers of eight bytes within the file; such as can be added up
use Rattle.std.specs.Prelude.{◌≡◌, true, List, ℕ, ◌+◌, ◌*◌, ◌≤◌, length, take, drop}
use Rattle.model.specs.declared.Settings.{Settings}
use Rattle.model.specs.Limits.{value_count, coordinator_limit}
use Rattle.model.specs.CoordinatorMemory.{coordinator_words, all_within}
use Rattle.little_endian.specs.Numbers.{numbers_in}
use Rattle.snapshot_file.specs.Layout.{desk_bytes}
use Rattle.snapshot_file.specs.Reading.{desk_in}

abbrev pub desk_memory : Settings → List ℕ → List ℕ
desk_memory settings file = take (coordinator_words settings) (desk_in settings file)

-- So many numbers from a place on.
abbrev pub numbers_from : List ℕ → ℕ → ℕ → List ℕ
numbers_from file from count = numbers_in desk_bytes count (drop from file)

pub record NumbersLie (file : List ℕ) (from count : ℕ) : Type 0 where
  pub within : from + desk_bytes * count ≤ length file

pub record SumAsks (file : List ℕ) (from count : ℕ) : Type 0 where
  pub within : from + desk_bytes * count ≤ length file
  pub few : count ≤ value_count
  pub small : all_within coordinator_limit (numbers_from file from count) ≡ true
