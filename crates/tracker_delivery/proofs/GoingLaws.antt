-- A delivery that goes on: its stage, numbers that the coordinator's steps can take, the sizes of
-- its network and the room that the log has for its messages; and the deliveries that its two
-- steps come to.
--
--   going_stage, going_ready, going_stored      what holds of it
--   going_room                                  all messages so far fit the log
--   going_handed, going_asked                   the next step
--   going_ends                                  where nothing waits, it has come to the model's end
use mathlib.Core.Path.{◌≡◌, refl, ap}
use mathlib.Core.Bool.{Bool, true, false}
use mathlib.Core.List.{List, [], ◌∷◌, ◌++◌}
use Prim.Native.Nat.{ℕ, zero, suc, ◌*◌, ◌≤◌, ◌<◌}
use native.Mathlib.Omega.{arith}
use lib.ListN.{length, length-append}
use Rattle.model.specs.declared.Settings.{Settings}
use Rattle.model.specs.declared.Arrival.{Arrival}
use Rattle.model.specs.declared.Message.{Message}
use Rattle.model.specs.Limits.{most_messages}
use Rattle.model.specs.Coordinator.{Coordinator, is_announcing}
use Rattle.model.specs.Network.{Network, site_at, hand_over, ask_announcement, after_arrival}
use Rattle.model.specs.SoundNetwork.{SoundSite, SoundNumbers}
use Rattle.model.specs.Messages.{message_width}
use Rattle.model.specs.DeliveryClaims.{Delivery, delivery, joining, delivery_step, delivery_steps}
use Rattle.mid_delivery.specs.SoundClaims.{handed, asked, InMidDelivery}
use Rattle.model.proofs.Thresholds.SettingsLaws.{Settled, settled}
use Rattle.model.proofs.Soundness.SoundSites.{ArrivalTaken, taken_of_no_refusal}
use Rattle.model.proofs.Deliveries.DeliveryTheorem.{delivery_claims}
use Rattle.mid_delivery.proofs.Stages.Stages.{Stage}
use Rattle.mid_delivery.proofs.Stages.StageFacts.{stage_length, stage_sites, stage_coordinator}
use Rattle.mid_delivery.proofs.Soundness.SoundTheorem.{StillLeft, reached_left, sound_claims}
use Rattle.site_memory.proofs.SitesMemoryLaws.{all_storable}
use Rattle.mid_delivery.proofs.Numbers.NumberBounds.{estimates_few, values_few}
use Rattle.coordinator_steps.specs.Ready.{CoordinatorReady}
use Rattle.tracker_delivery.specs.Holding.{Accepting, Going, rested, WithLog}
use Rattle.tracker_delivery.proofs.OneAnswer.{answers_one, announced_one}
use Rattle.tracker_delivery.proofs.HoldingLaws.{StoredCoordinator, Stored}
use Rattle.tracker_delivery.proofs.RestLaws.{sound_then, bounded_then}

-- ---- The log only grows

step_log : (settings : Settings) (network : Network) (waiting log : List Message)
    → length log ≤ length (delivery_step settings (delivery network waiting log)).log
step_log settings network (m ∷ waiting) log =
    rw (length-append log (hand_over settings network m).messages) (omega arith)
step_log settings network [] log = by_phase (is_announcing network.coordinator.phase) refl
  where
    by_phase : (announces : Bool) → is_announcing network.coordinator.phase ≡ announces
        → length log ≤ length (delivery_step settings (delivery network [] log)).log
    by_phase true announces =
        rw (announces, length-append log (ask_announcement settings network).messages) (omega arith)
    by_phase false silent = rw silent (omega arith)

steps_log : (n : ℕ) (settings : Settings) (d : Delivery)
    → length d.log ≤ length (delivery_steps n settings d).log
steps_log zero settings d = omega arith
steps_log (suc n) settings d =
    omega (
      arith,
      step_log settings d.network d.waiting d.log,
      steps_log n settings (delivery_step settings d),
    )

-- ---- Sizes

pub stored_coordinator : {settings : Settings} {c : Coordinator}
    → SoundNumbers settings c
    → StoredCoordinator settings c
stored_coordinator numbers = record {
  estimates_length = numbers.estimates_length;
  histogram_length = numbers.histogram_length;
}

pub stored_of_sound : {settings : Settings} {network : Network}
    → length network.sites ≡ settings.sites
    → ((j : ℕ) → j < settings.sites → SoundSite settings (site_at network j))
    → SoundNumbers settings network.coordinator
    → Stored settings network
stored_of_sound {settings} {network} all sites numbers = record {
  all_sites = all;
  sites_stored = all_storable all sites;
  coordinator_stored = stored_coordinator numbers;
}

-- ---- A delivery that goes on

module _ {settings : Settings} {given : WithLog} {earlier : List Message} {network : Network}
    {arrival : Arrival} (accepting : Accepting settings given earlier network arrival) where
  pub going_fit : Settled settings
  going_fit = settled settings accepting.fits.settings_accepted

  pub going_taken : ArrivalTaken settings (site_at network arrival.site) arrival
  going_taken =
      taken_of_no_refusal settings (site_at network arrival.site) arrival accepting.taken

module _ {settings : Settings} {given : WithLog} {earlier : List Message} {network : Network}
    {arrival : Arrival} {steps : ℕ} {d : Delivery}
    (going : Going settings given earlier network arrival steps d) where
  abbrev accepting : Accepting settings given earlier network arrival
  accepting = going.accepting

  pub going_left : StillLeft settings network arrival (going_fit accepting) accepting.sound
      (going_taken accepting) steps d
  going_left =
      reached_left settings network arrival (going_fit accepting) accepting.sound
      (going_taken accepting) steps d going.reached

  pub going_stage : Stage settings d.network d.waiting going_left.left
  going_stage = going_left.mid.stage

  in_mid : InMidDelivery settings network arrival steps d
  in_mid =
      sound_claims.in_mid_delivery settings network arrival steps d
      accepting.fits.settings_accepted accepting.sound accepting.taken going.reached

  -- No number is above what the delivery comes to.
  pub going_ready : CoordinatorReady settings d.network.coordinator
  going_ready =
      let fit = going_fit accepting in
      let sound = sound_then accepting in
      let bounded = bounded_then accepting in
      record {
        sound = in_mid.coordinator_sound;
        within = record {
          total_within = omega (arith, in_mid.total_within);
          estimates_within = λ item.
              omega (arith, in_mid.estimates_below item, estimates_few fit sound bounded item);
          histogram_within = λ value.
              omega (arith, in_mid.values_below value, values_few fit sound bounded value);
          sum_within = omega (arith, in_mid.sum_within);
        };
      }

  pub going_stored : Stored settings d.network
  going_stored =
      stored_of_sound (stage_length going_stage) (stage_sites going_stage)
      (stage_coordinator (going_fit accepting) going_stage).numbers

  log_within : length d.log ≤ most_messages settings
  log_within =
      let left = going_left.left in
      let ended = going_left.mid.finishes.ends left (omega arith) in
      omega (
        arith,
        steps_log left settings d,
        ap (λ (e : Delivery). length e.log) ended,
        delivery_claims.few_messages settings network arrival accepting.sound.idle,
      )

  pub going_room : message_width * length (earlier ++ d.log) ≤ length given.log
  going_room =
      omega (arith, length-append earlier d.log, log_within, accepting.room)

  -- Where nothing waits and no kind 7 is to come, the delivery is the model's at its end.
  pub going_ends : d.waiting ≡ []
      → is_announcing d.network.coordinator.phase ≡ false
      → d ≡ rested (after_arrival settings network arrival)
  going_ends none silent =
      let ends = in_mid.ends none silent in
      λ i. delivery (ends i).network (none i) (ends i).messages

-- ---- The next step

module _ {settings : Settings} {given : WithLog} {earlier : List Message} {network : Network}
    {arrival : Arrival} {steps : ℕ} where
  pub going_handed : {now : Network} {m : Message} {waiting log : List Message}
      → Going settings given earlier network arrival steps (delivery now (m ∷ waiting) log)
      → Going settings given earlier network arrival (suc steps)
      (joining (hand_over settings now m) waiting log)
  going_handed {now} {m} {waiting} {log} going = record {
    accepting = going.accepting;
    reached = handed steps now m waiting log going.reached;
    few_waiting =
        omega (
          arith,
          length-append waiting (hand_over settings now m).messages,
          answers_one settings now m,
          going.few_waiting,
        );
  }

  pub going_asked : {now : Network} {log : List Message}
      → Going settings given earlier network arrival steps (delivery now [] log)
      → is_announcing now.coordinator.phase ≡ true
      → Going settings given earlier network arrival (suc steps)
      (joining (ask_announcement settings now) [] log)
  going_asked {now} {log} going announces = record {
    accepting = going.accepting;
    reached = asked steps now [] log going.reached announces;
    few_waiting =
        omega (arith, announced_one settings now.coordinator);
  }
