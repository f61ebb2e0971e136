-- What the internal tests of a site's record and memory answer and require.
--
--   counter_passes, counters_pass   whether counters in memory are consistent
--   numbers_pass settings numbers   whether the single numbers of a record are
--   MemoryFits settings memory      settings that pass, and memory that is long enough
--   ValuesFit memory from value     a histogram in memory, and a value of it
use Rattle.std.specs.Prelude.{◌≡◌, Bool, ◌&&◌, List, ℕ, ◌+◌, ◌≤◌, ◌<◌, ltb, leb, length}
use Rattle.model.specs.declared.Settings.{Settings}
use Rattle.model.specs.declared.SiteRecord.{SiteRecord}
use Rattle.model.specs.Refusals.{no_refusal}
use Rattle.model.specs.Limits.{value_count, site_limit}
use Rattle.model.specs.Settings.{settings_refusal}
use Rattle.model.specs.SiteMemory.{site_words, site_in, counters_in, counter_consistent, counters_consistent}
use Rattle.site_counters.specs.Stored.{stored_at}

-- Whether the counter at a place, and whether each of the counters in use, is consistent.
abbrev pub counter_passes : Settings → SiteRecord → List ℕ → ℕ → Bool
counter_passes settings numbers memory place =
    counter_consistent settings (site_in settings numbers memory) (stored_at memory place)

abbrev pub counters_pass : Settings → SiteRecord → List ℕ → ℕ → Bool
counters_pass settings numbers memory used =
    counters_consistent settings (site_in settings numbers memory) (counters_in used memory)

-- Whether the single numbers of a site's record are consistent.
abbrev pub numbers_pass : Settings → SiteRecord → Bool
numbers_pass settings numbers =
    leb numbers.used settings.capacity
    && leb numbers.arrivals site_limit
    && ltb numbers.pending numbers.threshold
    && leb numbers.threshold site_limit
    && leb numbers.dropped numbers.arrivals

-- Settings that pass, and memory that is long enough.
pub record MemoryFits (settings : Settings) (memory : List ℕ) : Type 0 where
  pub settings_accepted : settings_refusal settings ≡ no_refusal
  pub long_enough : site_words settings ≤ length memory

-- A histogram within the memory, from a place on, and a value of it.
pub record ValuesFit (memory : List ℕ) (from value : ℕ) : Type 0 where
  pub long_enough : from + value_count ≤ length memory
  pub value_within : value < value_count
