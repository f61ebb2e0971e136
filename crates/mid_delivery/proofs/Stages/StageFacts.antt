-- What holds at every stage of a delivery: each site and the coordinator are sound by themselves,
-- and neither the total nor the sum of a halving passes the limit. PROOF.md section 8.
--
--   stage_length                     there are as many sites as the settings say
--   stage_sites, stage_coordinator   each by itself
--   stage_total, stage_sum           within the limit
use Rattle.std.specs.Prelude.{if◌then◌else◌}
use mathlib.Core.Path.{◌≡◌, refl}
use mathlib.Core.Bool.{Bool, true, false}
use mathlib.Core.List.{List}
use Prim.Native.Nat.{ℕ, ◌≤◌, ◌<◌}
use native.Mathlib.Omega.{arith}
use lib.Dec.{ltb}
use lib.ListN.{length}
use borrow.Author.Tests.{ltb-true}
use Rattle.model.specs.declared.Settings.{Settings}
use Rattle.model.specs.declared.Message.{Message}
use Rattle.model.specs.declared.Phase.TheVariants.{Idle, Announcing}
use Rattle.model.specs.Limits.{coordinator_limit}
use Rattle.model.specs.Network.{Network, site_at}
use Rattle.model.specs.SoundNetwork.{SoundSite, SoundPhase, sum_of_phase, SoundCoordinator}
use Rattle.model.proofs.Thresholds.SettingsLaws.{Settled}
use Rattle.mid_delivery.proofs.Soundness.Together.{Together, total_bounded}
use Rattle.mid_delivery.proofs.Stages.Stages.{Announces, Stage, reporting, polling, halving, announcing}

-- ---- Each by itself, at every stage

pub stage_length : {settings : Settings} {network : Network} {waiting : List Message} {left : ℕ}
    → Stage settings network waiting left
    → length network.sites ≡ settings.sites
stage_length (reporting r) = r.together.all_sites
stage_length (polling p) = p.together.all_sites
stage_length (halving p) = p.together.all_sites
stage_length (announcing a) = a.together.all_sites

-- Every site is sound by itself.
pub stage_sites : {settings : Settings} {network : Network} {waiting : List Message} {left : ℕ}
    → Stage settings network waiting left
    → (j : ℕ) → j < settings.sites
    → SoundSite settings (site_at network j)
stage_sites (reporting r) = r.together.sites_sound
stage_sites (polling p) = p.together.sites_sound
stage_sites (halving p) = p.together.sites_sound
stage_sites (announcing a) = a.together.sites_sound

announces_phase : {settings : Settings} {network : Network} {waiting : List Message} {left : ℕ}
    → Settled settings
    → Announces settings network waiting left
    → SoundPhase settings network.coordinator.signals network.coordinator.phase
announces_phase {settings} {network} fit a = by_phase (ltb a.j settings.sites) refl
  where
    by_phase : (more : Bool) → ltb a.j settings.sites ≡ more
        → SoundPhase settings network.coordinator.signals network.coordinator.phase
    by_phase true more =
        let announces : network.coordinator.phase ≡ Announcing a.j =
        rw more at a.phase_is in
        let signals : network.coordinator.signals ≡ settings.sites =
        rw more at a.signals_are in
        rw announces (record {
          all_signals = signals;
          site_known = ltb-true a.j settings.sites more;
        })
    by_phase false last =
        let idle : network.coordinator.phase ≡ Idle = rw last at a.phase_is in
        let signals : network.coordinator.signals ≡ 0 = rw last at a.signals_are in
        rw idle (omega (arith, fit.sites.at_least))

-- So is the coordinator, with its phase.
pub stage_coordinator : {settings : Settings} {network : Network} {waiting : List Message}
    {left : ℕ}
    → Settled settings
    → Stage settings network waiting left
    → SoundCoordinator settings network.coordinator
stage_coordinator fit (reporting r) =
    record { numbers = r.together.numbers; phase_sound = rw r.idle r.few_signals }
stage_coordinator fit (polling p) =
    record { numbers = p.together.numbers; phase_sound = rw p.phase_is p.closing }
stage_coordinator fit (halving p) =
    record { numbers = p.together.numbers; phase_sound = rw p.phase_is p.halving }
stage_coordinator fit (announcing a) =
    record { numbers = a.together.numbers; phase_sound = announces_phase fit a }

-- ---- The limit, at every stage

total_small : {settings : Settings} {network : Network} {informed flight : ℕ}
    → Settled settings
    → Together settings network informed flight
    → network.coordinator.total ≤ coordinator_limit
total_small fit together = omega (arith, total_bounded together, fit.sites.at_most)

-- The total is at most all arrivals.
pub stage_total : {settings : Settings} {network : Network} {waiting : List Message} {left : ℕ}
    → Settled settings
    → Stage settings network waiting left
    → network.coordinator.total ≤ coordinator_limit
stage_total fit (reporting r) = total_small fit r.together
stage_total fit (polling p) = total_small fit p.together
stage_total fit (halving p) = total_small fit p.together
stage_total fit (announcing a) = total_small fit a.together

-- The sum of a halving has at most a site's limit from each site that answered.
pub stage_sum : {settings : Settings} {network : Network} {waiting : List Message} {left : ℕ}
    → Settled settings
    → Stage settings network waiting left
    → sum_of_phase network.coordinator.phase ≤ coordinator_limit
stage_sum fit (reporting r) = rw r.idle (omega arith)
stage_sum fit (polling p) = rw p.phase_is (omega arith)
stage_sum fit (halving p) =
    rw p.phase_is
    (omega (arith, p.sum_within, p.halving.closing.site_known, fit.sites.at_most))
stage_sum {settings} {network} fit (announcing a) =
    rw a.phase_is (by_phase (ltb a.j settings.sites))
  where
    by_phase : (more : Bool)
        → sum_of_phase (if more then Announcing a.j else Idle) ≤ coordinator_limit
    by_phase true = omega arith
    by_phase false = omega arith
