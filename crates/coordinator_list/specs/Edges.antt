-- The list's chain at the edge: as many places as codes listed and one fewer, and 11 before 12.
-- (What it is made of stands in crate `model`'s specs/Edges.)
use Rattle.std.specs.Prelude.{◌≡◌, List, ℕ, replicate}
use Rattle.model.specs.declared.Arrival.{Arrival}
use Rattle.model.specs.declared.Settings.{Settings}
use Rattle.model.specs.declared.Phase.TheVariants.{Idle}
use Rattle.model.specs.CoordinatorMemory.{coordinator_record, coordinator_memory, coordinator_words}
use Rattle.model.specs.Instances.{settings_a, draws, coordinator_after}
use Rattle.model.specs.Edges.Inputs.{coordinator_numbers}
use Rattle.model.specs.Edges.Readings.{settings800, thirty_six}
use Rattle.coordinator_list.specs.Promises.{list_refusal}

-- The coordinator's memory after a list of draws, and why its list is refused.
abbrev pub memory_after : Settings → List Arrival → List ℕ
memory_after settings arrivals =
    coordinator_memory (coordinator_after settings arrivals)
    (replicate (coordinator_words settings) 0)

abbrev pub list_refusal_after : Settings → List Arrival → ℕ → ℕ
list_refusal_after settings arrivals places =
    list_refusal settings (coordinator_record (coordinator_after settings arrivals))
    (memory_after settings arrivals) places

pub record ListEdges : Type 0 where
  -- "list has fewer places than codes listed"
  pub none_listed : list_refusal_after settings_a (draws 0) 0 ≡ 0
  pub one_listed : list_refusal_after settings_a (draws 1) 1 ≡ 0
  pub one_without_place : list_refusal_after settings_a (draws 1) 0 ≡ 12
  -- three codes listed at p 800, where "2000 / (2p - e)" is 2
  pub three_listed : list_refusal_after settings800 thirty_six 3 ≡ 0
  pub three_in_two : list_refusal_after settings800 thirty_six 2 ≡ 12
  -- "for the list 12 comes last": base 1 with total 1 and threshold 0 is inconsistent
  pub eleven_before_twelve :
      list_refusal settings_a (coordinator_numbers 1 1 0 0 0 Idle)
      (memory_after settings_a (draws 1)) 0
      ≡ 11
  pub four_before_twelve :
      list_refusal settings_a (coordinator_record (coordinator_after settings_a (draws 1)))
      (replicate 1033 0) 0 ≡ 4
