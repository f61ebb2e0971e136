-- Announcements, asked for and handed over, in any order that keeps the queue's: each site gets the
-- new threshold, and the next kind 7 may be asked for while earlier ones still wait.
--
--   handed_announces   the head of the queue in this stage
--   asked_announces    the next kind 7
use mathlib.Core.Path.{◌≡◌, refl, sym, ap, ◌∙◌, subst}
use mathlib.Core.Bool.{Bool, true, false, false≢true}
use mathlib.Core.List.{List, [], ◌∷◌, ◌++◌, append-nil}
use Prim.Native.Nat.{ℕ, zero, suc, ◌+◌, ◌-◌, ◌≤◌, ◌<◌}
use native.Mathlib.Omega.{arith}
use lib.Dec.{ltb}
use borrow.Author.Tests.{ltb-true}
use Rattle.model.specs.declared.Settings.{Settings}
use Rattle.model.specs.declared.Message.{Message}
use Rattle.model.specs.declared.Phase.TheVariants.{Idle, Announcing}
use Rattle.model.specs.Limits.{site_limit}
use Rattle.model.specs.Messages.{announcement}
use Rattle.model.specs.Coordinator.{Coordinator, with_phase, at_rest, is_announcing, announced}
use Rattle.model.specs.Network.{Network, site_at, with_coordinator}
use Rattle.model.specs.SoundNetwork.{SoundSite, SoundNumbers}
use Rattle.model.proofs.Thresholds.SettingsLaws.{Settled}
use Rattle.model.proofs.Deliveries.DeliveryLoops.{told}
use Rattle.model.proofs.Deliveries.DeliveryMessages.{announcements}
use Rattle.model.proofs.Soundness.SoundSites.{sound_told}
use Rattle.mid_delivery.proofs.Soundness.CoordinatorSound.{numbers_phase, numbers_rest}
use Rattle.mid_delivery.proofs.Soundness.Together.{threshold_bounded, together_site, together_coordinator}
use Rattle.mid_delivery.proofs.Stages.AcceptedMessages.{announcement_accepted}
use Rattle.mid_delivery.proofs.Stages.PhaseSteps.{announced_next}
use Rattle.mid_delivery.proofs.Stages.Stages.{Announces, announcing_at, signals_at, Stage, StageAfter, announcing, HandedOn, AskedOn}

-- ---- An announcement handed over

module _ {settings : Settings} {network : Network} {left : ℕ} {waiting : List Message}
    (fit : Settled settings) (a : Announces settings network waiting left) where
  abbrev c : Coordinator
  c = network.coordinator

  -- The first of the waiting announcements, when w of them follow.
  announcement_handed : (w : ℕ) → a.w ≡ suc w
      → HandedOn settings network (announcement a.i c.threshold c.base)
      (announcements c.threshold c.base (suc a.i) w) left
  announcement_handed w more =
      let i : ℕ = a.i in
      let known : i < settings.sites = omega (arith, a.reached, a.within) in
      let site_sound : SoundSite settings (site_at network i) = a.together.sites_sound i known in
      let rises : (site_at network i).threshold ≤ c.threshold =
      a.together.thresholds_below i known in
      let within : c.threshold ≤ site_limit =
      omega (arith, threshold_bounded a.together fit) in
      record {
        some_left = omega (arith, a.steps_left, a.within, a.reached);
        head_accepted =
            announcement_accepted settings (site_at network i) i known c.threshold c.base
            rises within;
        next = rw append-nil (announcing (record {
          i = suc i;
          w = w;
          j = a.j;
          waits = refl;
          reached = omega (arith, a.reached);
          within = a.within;
          phase_is = a.phase_is;
          signals_are = a.signals_are;
          together = together_site a.together i (told c.threshold (site_at network i)) known
              (suc i) 0 (sound_told site_sound c.threshold rises within)
              (λ i' i'< other. a.together.informed_same i' (omega arith)) (λ _. refl)
              (omega arith) refl;
          steps_left = omega (arith, a.steps_left, a.within, a.reached);
        }));
      }

-- The head is kind 7; the next stage is the same, or rest.
pub handed_announces : {settings : Settings} {network : Network} {m : Message}
    {waiting : List Message} {left : ℕ}
    → Settled settings
    → Announces settings network (m ∷ waiting) left
    → HandedOn settings network m waiting left
handed_announces {settings} {network} {m} {waiting} {left} fit a = by_number a.w refl
  where
    t : ℕ
    t = network.coordinator.threshold

    base : ℕ
    base = network.coordinator.base

    by_number : (w : ℕ) → a.w ≡ w → HandedOn settings network m waiting left
    by_number zero none =
        let waits : m ∷ waiting ≡ [] = rw none at a.waits in
        let impossible : ◌≡◌ {A = ℕ} 0 1 = cc in
        absurd (omega arith)
    by_number (suc w) more =
        let waits : m ∷ waiting
        ≡ announcement a.i t base ∷ announcements t base (suc a.i) w =
        rw more at a.waits in
        let head : m ≡ announcement a.i t base = cc in
        let tail : waiting ≡ announcements t base (suc a.i) w = cc in
        rw (head, tail) (announcement_handed fit a w more)

-- ---- The next announcement asked for

-- One more announcement joins a run of them.
pub announcements_snoc : (t base i w : ℕ)
    → announcements t base i w ++ (announcement (i + w) t base ∷ [])
    ≡ announcements t base i (suc w)
announcements_snoc t base i zero =
    let same : i + 0 ≡ i = omega arith in
    rw same
announcements_snoc t base i (suc w) =
    let same : i + suc w ≡ suc i + w = omega arith in
    rw same
    (ap {B = List Message} (λ ms. announcement i t base ∷ ms) (announcements_snoc t base (suc i) w))

module _ {settings : Settings} {network : Network} {waiting : List Message} {left : ℕ}
    (a : Announces settings network waiting left)
    (phase_is : network.coordinator.phase ≡ Announcing a.j)
    (all_signals : network.coordinator.signals ≡ settings.sites)
    (known : a.j < settings.sites) where
  abbrev waiting_then : List Message
  waiting_then =
      waiting
      ++ (announcement a.j network.coordinator.threshold network.coordinator.base ∷ [])

  joined : waiting_then
      ≡ announcements network.coordinator.threshold network.coordinator.base a.i
      (suc a.w)
  joined =
      rw (a.waits, ← a.reached)
      (announcements_snoc network.coordinator.threshold network.coordinator.base a.i
      a.w)

  -- The stage with the coordinator's next phase, c' being its record then.
  asked_stage : (c' : Coordinator)
      → SoundNumbers settings c'
      → c'.threshold ≡ network.coordinator.threshold
      → c'.base ≡ network.coordinator.base
      → c'.total ≡ network.coordinator.total
      → c'.phase ≡ announcing_at settings (a.j + 1)
      → c'.signals ≡ signals_at settings (a.j + 1)
      → Stage settings (with_coordinator network c') waiting_then (left - 1)
  asked_stage c' numbers same_threshold same_base same_total phase-then signals-then =
      announcing (record {
        i = a.i;
        w = suc a.w;
        j = a.j + 1;
        waits =
            subst
            (λ t. waiting_then ≡ announcements t c'.base a.i (suc a.w)) (sym same_threshold)
            (subst
            (λ base. waiting_then ≡ announcements network.coordinator.threshold base a.i (suc a.w))
            (sym same_base) joined);
        reached = omega (arith, a.reached);
        within = omega arith;
        phase_is = phase-then;
        signals_are = signals-then;
        together = together_coordinator a.together c' a.i 0 numbers
            (omega (arith, same_threshold))
            (λ j j<. a.together.informed_same j j< ∙ sym same_threshold)
            (omega (arith, same_total));
        steps_left = omega (arith, a.steps_left);
      })

  asked : AskedOn settings network waiting left
  asked = record {
    some_left = omega (arith, a.steps_left);
    next = by_last (ltb (a.j + 1) settings.sites) refl;
  }
    where
      by_last : (more : Bool) → ltb (a.j + 1) settings.sites ≡ more
          → StageAfter settings network waiting (left - 1)
          (announced settings network.coordinator)
      by_last true goes_on =
          subst (StageAfter settings network waiting (left - 1))
          (sym (announced_next settings network.coordinator a.j true phase_is goes_on))
          (asked_stage (with_phase network.coordinator (Announcing (a.j + 1)))
          (numbers_phase a.together.numbers (Announcing (a.j + 1))) refl refl refl
          (rw goes_on) (rw goes_on all_signals))
      by_last false last =
          subst (StageAfter settings network waiting (left - 1))
          (sym (announced_next settings network.coordinator a.j false phase_is last))
          (asked_stage (at_rest network.coordinator) (numbers_rest a.together.numbers)
          refl refl refl (rw last) (rw last))

-- Another kind 7 waits last; after the last of them the coordinator is idle.
pub asked_announces : {settings : Settings} {network : Network} {waiting : List Message} {left : ℕ}
    → Announces settings network waiting left
    → is_announcing network.coordinator.phase ≡ true
    → AskedOn settings network waiting left
asked_announces {settings} {network} {waiting} {left} a announces =
    by_phase (ltb a.j settings.sites) refl
  where
    by_phase : (more : Bool) → ltb a.j settings.sites ≡ more
        → AskedOn settings network waiting left
    by_phase true more =
        asked a (rw more at a.phase_is) (rw more at a.signals_are)
        (ltb-true a.j settings.sites more)
    by_phase false last =
        let idle : network.coordinator.phase ≡ Idle = rw last at a.phase_is in
        absurd (false≢true (rw idle at announces))
