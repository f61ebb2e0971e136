-- The consistency test in the order in which the code makes it: first what the record shows by
-- itself, then the threshold (whose base is then small), then the numbers in memory. The proofs
-- show that the parts together are `coordinator_consistent`.
use Rattle.std.specs.Prelude.{◌≡◌, Bool, true, ◌&&◌, ◌||◌, not, List, [], ◌∷◌, ℕ, ◌/◌, ◌≤◌, eqb, leb, length}
use Rattle.model.specs.declared.Settings.{Settings}
use Rattle.model.specs.declared.CoordinatorRecord.{CoordinatorRecord}
use Rattle.model.specs.Refusals.{no_refusal}
use Rattle.model.specs.Limits.{top_value, value_count, coordinator_limit}
use Rattle.model.specs.Settings.{settings_refusal}
use Rattle.model.specs.SiteMemory.{sum}
use Rattle.model.specs.Coordinator.{Coordinator}
use Rattle.model.specs.CoordinatorMemory.{coordinator_words, phase_consistent, all_within}

-- Phase, base, quantile and total.
abbrev pub record_consistent : Settings → CoordinatorRecord → Bool
record_consistent settings numbers =
    phase_consistent settings numbers.signals numbers.phase
    && leb numbers.base numbers.total
    && leb numbers.quantile top_value
    && leb numbers.total coordinator_limit

-- The estimates and the value counts, and the sum of these while the threshold is 1.
abbrev pub numbers_consistent : Coordinator → Bool
numbers_consistent c =
    all_within coordinator_limit c.estimates
    && all_within coordinator_limit c.histogram
    && (not (eqb c.threshold 1) || eqb (sum c.histogram) c.total)

-- The higher half of each number: of 64 bits, the upper 32.
abbrev pub half_range : ℕ
half_range = 4294967296

abbrev pub higher_halves : List ℕ → List ℕ
higher_halves [] = []
higher_halves (x ∷ xs) = x / half_range ∷ higher_halves xs

-- What the sum of value counts asks, so that it fits.
pub record SumAsks (numbers : List ℕ) : Type 0 where
  pub few : length numbers ≤ value_count
  pub small : all_within coordinator_limit numbers ≡ true

-- What the test of the numbers asks.
pub record MemoryAsks (settings : Settings) (memory : List ℕ) : Type 0 where
  pub settings_accepted : settings_refusal settings ≡ no_refusal
  pub memory_long : coordinator_words settings ≤ length memory
