-- One step of a delivery on records and memory is one step of the model's, from any sound network.
-- PROOF.md section 9, "The invariant".
--
--   goes_on                  the delivery, once what is held is what the model's step leaves
--   handed_on                the head of the queue handed over, in the model
--   coordinator_sound_then   the coordinator that a step leaves is sound
use mathlib.Core.Path.{◌≡◌, sym, ap, ◌∙◌, subst}
use mathlib.Core.List.{List, ◌∷◌, ◌++◌, append_assoc}
use Prim.Native.Nat.{ℕ, suc}
use Rattle.model.specs.declared.Settings.{Settings}
use Rattle.model.specs.declared.Arrival.{Arrival}
use Rattle.model.specs.declared.Message.{Message}
use Rattle.model.specs.Refusals.{no_refusal}
use Rattle.model.specs.Settings.{settings_refusal}
use Rattle.model.specs.Network.{Network, Delivered, hand_over}
use Rattle.model.specs.SoundNetwork.{SoundCoordinator}
use Rattle.model.specs.DeliveryClaims.{Delivery, delivery, joining, delivery_of}
use Rattle.mid_delivery.specs.SoundClaims.{Reached, handed}
use Rattle.mid_delivery.proofs.Soundness.SoundTheorem.{sound_claims}
use Rattle.history.specs.State.{Held, State, network_of, sending}
use Rattle.history.proofs.Decoded.{Lengths}
use Rattle.history.proofs.Underway.{Underway}

module _ {settings : Settings} {origin : Network} {arrival : Arrival} {past : List Message} {n : ℕ}
    (before : State) (mid : Underway settings origin arrival past n before)
  where
    -- What is held then, with the messages that the call hands out: the model's step.
    pub goes_on : (later : List Message) (after : Delivered)
        → Reached settings (delivery_of settings origin arrival) (suc n)
        (joining after later mid.log)
        → (held : Held) (out : List Message)
        → Lengths settings held
        → network_of settings held ≡ after.network
        → out ≡ after.messages
        → Underway settings origin arrival past (suc n) (sending before held later out)
    goes_on later after on held out lengths network_is out_is =
        let there : delivery (network_of settings held) (later ++ out) (mid.log ++ out)
        ≡ joining after later mid.log =
        λ i. delivery (network_is i) (later ++ out_is i) (mid.log ++ out_is i) in
        record {
          origin_sound = mid.origin_sound;
          taken = mid.taken;
          lengths = lengths;
          log = mid.log ++ out;
          reached = subst (Reached settings _ (suc n)) (sym there) on;
          messages_are =
              ap (λ (front : List Message). front ++ out) mid.messages_are
              ∙ append_assoc past mid.log out;
        }

    -- The head of the queue handed over, in the model.
    pub handed_on : (m : Message) (later : List Message)
        → before.waiting ≡ m ∷ later
        → Reached settings (delivery_of settings origin arrival) (suc n)
        (joining (hand_over settings (network_of settings before.held) m) later mid.log)
    handed_on m later waits =
        let network = network_of settings before.held in
        handed n network m later mid.log
        (subst (λ (waiting : List Message).
        Reached settings (delivery_of settings origin arrival) n
        (delivery network waiting mid.log))
        waits mid.reached)

    -- The coordinator that a step of the model's delivery leaves is sound.
    pub coordinator_sound_then : settings_refusal settings ≡ no_refusal
        → (d : Delivery)
        → Reached settings (delivery_of settings origin arrival) (suc n) d
        → SoundCoordinator settings d.network.coordinator
    coordinator_sound_then passes d on =
        (sound_claims.in_mid_delivery settings origin arrival (suc n) d passes
        mid.origin_sound mid.taken on).coordinator_sound
