-- A delivery in mid-way, whatever it has done so far: each step keeps a stage, and finishing it in
-- the model's order comes to the same network and the same messages. PROOF.md sections 4 and 7.
--
--   hand_on, ask_on         the head of the queue is accepted; the two steps keep a stage
--   Finishes                finishing from here ends there, with all these messages
--   ask_early               a kind 7 asked for while others wait: the same as in the model's order
--   MidDelivery             a stage from which the delivery finishes as it should
--   mid_handed, mid_asked   kept by both steps
use mathlib.Core.Path.{◌≡◌, refl, sym, ◌∙◌}
use mathlib.Core.Bool.{Bool, true, false, false≢true}
use mathlib.Core.List.{List, [], ◌∷◌, append-nil}
use Prim.Native.Nat.{ℕ, zero, suc, ◌-◌, ◌≤◌, ◌<◌}
use native.Mathlib.Omega.{arith}
use lib.Dec.{ltb}
use borrow.Author.Tests.{ltb-true}
use Rattle.model.specs.declared.Settings.{Settings}
use Rattle.model.specs.declared.Message.{Message}
use Rattle.model.specs.declared.Phase.TheVariants.{Idle}
use Rattle.model.specs.Messages.{announcement}
use Rattle.model.specs.Coordinator.{is_announcing}
use Rattle.model.specs.Network.{Network, hand_over, ask_announcement}
use Rattle.model.specs.DeliveryClaims.{Delivery, delivery, joining, delivery_steps}
use Rattle.model.proofs.Thresholds.SettingsLaws.{Settled}
use Rattle.model.proofs.Deliveries.DeliverySteps.{steps_asked}
use Rattle.model.proofs.Deliveries.DeliveryMessages.{announcements}
use Rattle.mid_delivery.proofs.Stages.Stages.{Announces, Stage, reporting, polling, halving, announcing, HandedOn, AskedOn}
use Rattle.mid_delivery.proofs.Stages.ReportStage.{handed_reports}
use Rattle.mid_delivery.proofs.Stages.PollStage.{handed_polls}
use Rattle.mid_delivery.proofs.Stages.ProbeStage.{handed_probes}
use Rattle.mid_delivery.proofs.Stages.AnnounceStage.{handed_announces, asked_announces}

-- ---- The two steps keep a stage

-- The head of the queue is accepted, at whatever stage.
pub hand_on : {settings : Settings} {network : Network} {m : Message} {waiting : List Message}
    {left : ℕ}
    → Settled settings
    → Stage settings network (m ∷ waiting) left
    → HandedOn settings network m waiting left
hand_on fit (reporting r) = handed_reports r
hand_on fit (polling p) = handed_polls fit p
hand_on fit (halving p) = handed_probes fit p
hand_on fit (announcing a) = handed_announces fit a

-- A coordinator that announces is in the last stage.
announces_of : {settings : Settings} {network : Network} {waiting : List Message} {left : ℕ}
    → Stage settings network waiting left
    → is_announcing network.coordinator.phase ≡ true
    → Announces settings network waiting left
announces_of (reporting r) announces = absurd (false≢true (rw r.idle at announces))
announces_of (polling p) announces = absurd (false≢true (rw p.phase_is at announces))
announces_of (halving p) announces = absurd (false≢true (rw p.phase_is at announces))
announces_of (announcing a) announces = a

-- The next kind 7 of an announcing coordinator.
pub ask_on : {settings : Settings} {network : Network} {waiting : List Message} {left : ℕ}
    → Stage settings network waiting left
    → is_announcing network.coordinator.phase ≡ true
    → AskedOn settings network waiting left
ask_on stage announces = asked_announces (announces_of stage announces) announces

-- ---- Finishing

-- However many steps beyond those that are left, it ends there.
pub record Finishes (settings : Settings) (final : Network) (all : List Message) (left : ℕ)
    (d : Delivery) : Type 0 where
  pub ends : (fuel : ℕ) → left ≤ fuel → delivery_steps fuel settings d ≡ delivery final [] all

-- Kind 7 is handed to a site and asked of the coordinator: neither sees the other's change.
pub ask_early : (settings : Settings) (network : Network) (t base i w : ℕ) (log : List Message)
    → is_announcing network.coordinator.phase ≡ true
    → (fuel : ℕ) → w ≤ fuel
    → delivery_steps (suc fuel) settings (delivery network (announcements t base i w) log)
    ≡ delivery_steps fuel settings
    (joining (ask_announcement settings network) (announcements t base i w) log)
ask_early settings network t base i zero log announces fuel enough =
    steps_asked fuel settings network log announces
ask_early settings network t base i (suc w) log announces zero enough = absurd (omega arith)
ask_early settings network t base i (suc w) log announces (suc fuel) enough =
    let told : Network = (hand_over settings network (announcement i t base)).network in
    rw (append-nil (announcements t base (suc i) w), append-nil log)
    (ask_early settings told t base (suc i) w log announces fuel (omega arith)
    ∙ simp append-nil)

-- ---- In mid-delivery

-- A delivery at a stage, that finishes at this network with all these messages.
pub record MidDelivery (settings : Settings) (final : Network) (all : List Message) (left : ℕ)
    (d : Delivery) : Type 0 where
  pub stage : Stage settings d.network d.waiting left
  pub finishes : Finishes settings final all left d

module _ {settings : Settings} {final : Network} {all : List Message} {left : ℕ} where
  -- The head of the queue is handed over: the model's own step.
  pub mid_handed : {network : Network} {m : Message} {waiting log : List Message}
      → Settled settings
      → MidDelivery settings final all left (delivery network (m ∷ waiting) log)
      → MidDelivery settings final all (left - 1)
      (joining (hand_over settings network m) waiting log)
  mid_handed fit mid =
      let on = hand_on fit mid.stage in
      let some : 1 ≤ left = on.some_left in
      record {
        stage = on.next;
        finishes = record {
          ends = λ fuel enough. mid.finishes.ends (suc fuel) (omega arith);
        };
      }

  -- The next kind 7 is asked for, at any time.
  pub mid_asked : {network : Network} {waiting log : List Message}
      → MidDelivery settings final all left (delivery network waiting log)
      → is_announcing network.coordinator.phase ≡ true
      → MidDelivery settings final all (left - 1)
      (joining (ask_announcement settings network) waiting log)
  mid_asked {network} {waiting} {log} mid announces =
      let a : Announces settings network waiting left = announces_of mid.stage announces in
      record {
        stage = (ask_on mid.stage announces).next;
        finishes = record { ends = finished a };
      }
    where
      -- An announcing coordinator has an announcement to hand out.
      some_to_come : (a : Announces settings network waiting left) → a.j < settings.sites
      some_to_come a = by_phase (ltb a.j settings.sites) refl
        where
          by_phase : (more : Bool) → ltb a.j settings.sites ≡ more → a.j < settings.sites
          by_phase true more = ltb-true a.j settings.sites more
          by_phase false last =
              let idle : network.coordinator.phase ≡ Idle = rw last at a.phase_is in
              absurd (false≢true (rw idle at announces))

      finished : Announces settings network waiting left
          → (fuel : ℕ) → left - 1 ≤ fuel
          → delivery_steps fuel settings (joining (ask_announcement settings network) waiting log)
          ≡ delivery final [] all
      finished a fuel enough =
          let early : delivery_steps (suc fuel) settings (delivery network waiting log)
          ≡ delivery_steps fuel settings (joining (ask_announcement settings network) waiting log) =
          rw a.waits
          (ask_early settings network network.coordinator.threshold
          network.coordinator.base a.i a.w log announces fuel
          (omega (arith, a.steps_left, some_to_come a))) in
          sym early ∙ mid.finishes.ends (suc fuel) (omega arith)
