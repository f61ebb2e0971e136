-- The consistency test decides what the internal steps require.
--
--   step_ready     what refusals 1, 2, 3, 4 and 11 leave
use Prim.Native.Nat.{ℕ}
use mathlib.Core.Path.{◌≡◌}
use mathlib.Core.List.{List}
use Rattle.model.specs.declared.Settings.{Settings}
use Rattle.model.specs.declared.SiteRecord.{SiteRecord}
use Rattle.model.specs.Refusals.{no_refusal}
use Rattle.model.specs.SiteMemory.{site_memory_refusal}
use Rattle.model.proofs.Thresholds.TestedMemory.{site_tested}
use Rattle.model.proofs.Soundness.ConsistentSites.{sound_of_consistent}
use Rattle.site_memory.specs.Ready.{StepReady}

pub step_ready : (settings : Settings) (numbers : SiteRecord) (memory : List ℕ)
    → site_memory_refusal settings numbers memory ≡ no_refusal
    → StepReady settings numbers memory
step_ready settings numbers memory none =
    let tested = site_tested settings numbers memory none in
    record {
      settings_accepted = tested.settings_accepted;
      long_enough = tested.memory_long;
      site_sound = sound_of_consistent settings numbers memory tested.memory_long
          tested.consistent;
    }
