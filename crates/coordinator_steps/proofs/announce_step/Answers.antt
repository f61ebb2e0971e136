-- By phase: out of announcing the step leaves all as it is; else the site after this one, if there
-- is one, decides.
use native.Mathlib.Omega.{arith}
use Rattle.coordinator_steps.proofs.StepLaws.{settings_fit}
use Rattle.model.specs.SoundNetwork.{SoundPhase}
use Rattle.model.specs.declared.Phase.TheVariants.{Announcing}
use Rattle.coordinator_steps.proofs.announce_step.Goals as goal

pub overflow_add-site : goal.overflow_add-site
overflow_add-site c =
    let settings = c.args.settings in
    let site = c.in-Announcing.site in
    let phase : SoundPhase settings c.args.coordinator.signals (Announcing site) =
    rw c.in-Announcing.is at c.requires.phase_sound in
    omega (
      arith,
      phase.site_known,
      (settings_fit settings c.requires.settings_accepted
          ).sites_few,
    )
