-- What the internal steps on a site require: what refusals 1, 2, 3, 4 and 11 decide, as facts.
--
--   StepReady settings numbers memory      what record and memory are, for a step
use Rattle.std.specs.Prelude.{◌≡◌, List, ℕ, ◌≤◌, length}
use Rattle.model.specs.declared.Settings.{Settings}
use Rattle.model.specs.declared.SiteRecord.{SiteRecord}
use Rattle.model.specs.Refusals.{no_refusal}
use Rattle.model.specs.Settings.{settings_refusal}
use Rattle.model.specs.SiteMemory.{site_words, site_in}
use Rattle.model.specs.SoundNetwork.{SoundSite}

-- Settings that pass, memory that is long enough, and a sound site in it.
pub record StepReady (settings : Settings) (numbers : SiteRecord) (memory : List ℕ) : Type 0 where
  pub settings_accepted : settings_refusal settings ≡ no_refusal
  pub long_enough : site_words settings ≤ length memory
  pub site_sound : SoundSite settings (site_in settings numbers memory)
