-- The coordinator in its record and lent memory: "a number for each code and 1024 class counts".
-- What is read there, what is written there, and refusal 11.
--
--   coordinator_words settings                the numbers of its memory
--   coordinator_in settings numbers memory    the coordinator that record and memory hold
--   coordinator_record c                      the record of a coordinator
--   coordinator_memory c memory               the memory with the coordinator written into it
--   coordinator_consistent settings c
use Rattle.std.specs.Prelude.{Bool, true, ◌&&◌, ◌||◌, not, List, [], ◌∷◌, ◌++◌, ℕ, ◌+◌, eqb, ltb, leb, length, take, drop}
use Rattle.model.specs.declared.Settings.{Settings}
use Rattle.model.specs.declared.Phase.{Phase}
use Rattle.model.specs.declared.Phase.TheVariants.{Idle, Collecting, Probing, Announcing}
use Rattle.model.specs.declared.CoordinatorRecord.{CoordinatorRecord}
use Rattle.model.specs.Refusals.{when, ◌or_else◌, no_refusal, memory_too_short, memory_inconsistent}
use Rattle.model.specs.Limits.{top_value, value_count, coordinator_limit}
use Rattle.model.specs.Settings.{settings_refusal, threshold_of}
use Rattle.model.specs.SiteMemory.{overwrite, sum}
use Rattle.model.specs.Coordinator.{Coordinator}

-- ---- Read from memory, and written to it

abbrev pub coordinator_words : Settings → ℕ
coordinator_words settings = settings.universe + value_count

abbrev pub coordinator_in : Settings → CoordinatorRecord → List ℕ → Coordinator
coordinator_in settings numbers memory = record {
  estimates = take settings.universe memory;
  histogram = take value_count (drop settings.universe memory);
  total = numbers.total;
  base = numbers.base;
  threshold = numbers.threshold;
  signals = numbers.signals;
  quantile = numbers.quantile;
  phase = numbers.phase;
}

abbrev pub coordinator_record : Coordinator → CoordinatorRecord
coordinator_record c = record {
  total = c.total;
  base = c.base;
  threshold = c.threshold;
  signals = c.signals;
  quantile = c.quantile;
  phase = c.phase;
}

abbrev pub coordinator_memory : Coordinator → List ℕ → List ℕ
coordinator_memory c memory = overwrite (c.estimates ++ c.histogram) memory

-- ---- Refusals 4 and 11

abbrev pub all_within : ℕ → List ℕ → Bool
all_within limit [] = true
all_within limit (x ∷ xs) = leb x limit && all_within limit xs

-- "signals ≥ k while idle, or other than k in another phase; .. a phase with a deck ≥ k, or an
-- interval not within 0 to 1023 with low below high; .. the sum in its phase, above
-- 100,000,000,000"
abbrev pub phase_consistent : Settings → ℕ → Phase → Bool
phase_consistent settings signals Idle = ltb signals settings.sites
phase_consistent settings signals (Collecting site) =
    eqb signals settings.sites && ltb site settings.sites
phase_consistent settings signals (Probing site low high sum) =
    eqb signals settings.sites
    && ltb site settings.sites
    && ltb low high
    && leb high top_value
    && leb sum coordinator_limit
phase_consistent settings signals (Announcing site) =
    eqb signals settings.sites && ltb site settings.sites

-- "a desk threshold other than the one its base gives; base above total; the desk's class above
-- 1023; the desk's class counts not summing to its total while its threshold is 1; .. a number of
-- the desk's memory or record .. above 100,000,000,000". The limit is tested where it says
-- something: base is at most the total, and the threshold less still.
abbrev pub coordinator_consistent : Settings → Coordinator → Bool
coordinator_consistent settings c =
    phase_consistent settings c.signals c.phase
    && eqb c.threshold (threshold_of settings c.base)
    && leb c.base c.total
    && leb c.quantile top_value
    && (not (eqb c.threshold 1) || eqb (sum c.histogram) c.total)
    && all_within coordinator_limit c.estimates
    && all_within coordinator_limit c.histogram
    && leb c.total coordinator_limit

-- What every call on the coordinator tests first: 1, 2, 3; then 4, 11.
abbrev pub coordinator_memory_refusal : Settings → CoordinatorRecord → List ℕ → ℕ
coordinator_memory_refusal settings numbers memory =
    settings_refusal settings
    or_else when (ltb (length memory) (coordinator_words settings)) memory_too_short
    or_else when (not (coordinator_consistent settings (coordinator_in settings numbers memory)))
    memory_inconsistent
    or_else no_refusal
