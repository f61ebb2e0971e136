-- What the tests of a whole network's memory require and promise.
--
--   SitesFit         settings that pass, and memory for all sites
--   NetworkFits      the same with the coordinator's memory
--   ShortSays        what the test of the lengths answers
use Rattle.std.specs.Prelude.{◌≡◌, Bool, List, ℕ, ◌≤◌, length}
use Rattle.model.specs.declared.Settings.{Settings}
use Rattle.model.specs.Refusals.{no_refusal}
use Rattle.model.specs.Settings.{settings_refusal}
use Rattle.model.specs.CoordinatorMemory.{coordinator_words}
use Rattle.model.specs.NetworkMemory.{sites_words, network_too_short}

pub record SitesFit (settings : Settings) (memory : List ℕ) : Type 0 where
  pub settings_accepted : settings_refusal settings ≡ no_refusal
  pub long_enough : sites_words settings ≤ length memory

pub record NetworkFits (settings : Settings) (site_memory coordinator_memory : List ℕ) : Type 0
  where
    pub sites_fit : SitesFit settings site_memory
    pub coordinator_long : coordinator_words settings ≤ length coordinator_memory

-- Memory of these lengths is shorter than the settings ask for.
pub record ShortSays
    (settings : Settings)
    (site_numbers coordinator_numbers : ℕ)
    (answer : Bool) : Type 0 where
  pub too_short : (site_memory coordinator_memory : List ℕ)
      → length site_memory ≡ site_numbers
      → length coordinator_memory ≡ coordinator_numbers
      → answer ≡ network_too_short settings site_memory coordinator_memory
