-- What holds of every state that a history reaches: it is at rest, and then the model's run over
-- the arrivals accepted; or it is in mid-delivery, after so many steps from the run before the
-- arrival. PROOF.md section 9, "The invariant".
--
--   Resting, Delivering, Standing    where a state stands
--   StateOk settings n state         the invariant, n steps after the last arrival
--   rest_of_standing                 at rest it is the model's run
--   SoundHeld, sound_of_standing     sites and coordinator are sound, numbers small
--   head_of_standing                 the head of the queue is accepted
--   run_of_standing                  the accepted arrivals, and the messages as the first of a run
use mathlib.Core.Path.{◌≡◌, sym, ap, ◌∙◌, subst}
use mathlib.Core.Bool.{true, false}
use mathlib.Core.List.{List, [], ◌∷◌, ◌++◌, append_assoc, append-nil}
use Prim.Native.Nat.{ℕ, suc, ◌≤◌}
use native.Mathlib.Omega.{arith}
use lib.ListN.{length}
use Rattle.model.specs.declared.Settings.{Settings}
use Rattle.model.specs.declared.Arrival.{Arrival}
use Rattle.model.specs.declared.Message.{Message}
use Rattle.model.specs.Refusals.{no_refusal}
use Rattle.model.specs.Limits.{most_steps}
use Rattle.model.specs.Settings.{settings_refusal}
use Rattle.model.specs.Draws.{is_draw}
use Rattle.model.specs.Coordinator.{is_announcing}
use Rattle.model.specs.Network.{Delivered, delivery_fuel}
use Rattle.model.specs.Runs.{Run, with_arrival, run_of}
use Rattle.model.specs.MessageCounts.{none_counted, counted_up}
use Rattle.model.specs.DeliveryClaims.{message_refusal}
use Rattle.model.proofs.Runs.RunLaws.{run_from_append}
use Rattle.model.proofs.MessageCount.CountLaws.{NamesBelow}
use Rattle.model.proofs.Touches.DrawLaws.{takes}
use Rattle.model.proofs.Soundness.ConsistentCoordinator.{CoordinatorWithin}
use Rattle.history.specs.State.{State, network_of}
use Rattle.history.proofs.RunSound.{sound_run, within_of_run}
use Rattle.history.proofs.Decoded.{Lengths}
use Rattle.history.proofs.Underway.{Underway, SoundParts, in_mid, parts_underway, grows, messages_underway}

-- ---- Where a state stands

-- Nothing waits, and all is as the model's run has it.
pub record Resting (settings : Settings) (state : State) : Type 0 where
  pub nothing_waits : state.waiting ≡ []
  pub accepted_are : (run_of settings state.accepted).accepted ≡ state.accepted
  pub network_is : network_of settings state.held ≡ (run_of settings state.accepted).network
  pub messages_are : state.messages ≡ (run_of settings state.accepted).messages

-- After n steps of the delivery that an arrival set off.
pub record Delivering (settings : Settings) (n : ℕ) (state : State) : Type 0 where
  -- the arrivals before it, and the arrival
  pub front : List Arrival
  pub arrival : Arrival
  pub is_draw_lem : is_draw arrival ≡ true
  pub accepted_are : state.accepted ≡ front ++ (arrival ∷ [])
  pub front_accepted : (run_of settings front).accepted ≡ front
  -- from the network that the run before it comes to
  pub underway : Underway settings (run_of settings front).network arrival
      (run_of settings front).messages n state

-- At rest, no step after an arrival; or in mid-delivery.
pub data Standing (settings : Settings) (n : ℕ) (state : State) : Type 0 where
  resting : n ≡ 0 → Resting settings state → Standing settings n state
  delivering : Delivering settings n state → Standing settings n state

-- The invariant, n steps of delivery after the last arrival.
pub record StateOk (settings : Settings) (n : ℕ) (state : State) : Type 0 where
  pub lengths : Lengths settings state.held
  pub standing : Standing settings n state
  -- each message of the logs is counted, at the site that it names, and that is one of the k
  pub counts_are : state.held.sites.messages ≡ counted_up none_counted state.log
  pub log_named : NamesBelow settings.sites state.log
  pub log_length : length state.log ≡ state.logged
  -- what was logged is among the messages
  pub logged_within : state.logged ≤ length state.messages

-- ---- What a standing is worth

-- Each site and the coordinator that a state holds, and the limit of its numbers.
abbrev pub SoundHeld : Settings → State → Type 0
SoundHeld settings state = SoundParts settings (network_of settings state.held)

-- The accepted arrivals are those of a run, and the messages the first of its messages.
pub record BeginsRun (settings : Settings) (state : State) : Type 0 where
  pub accepted_are : (run_of settings state.accepted).accepted ≡ state.accepted
  pub later : List Message
  pub messages_are : (run_of settings state.accepted).messages ≡ state.messages ++ later

-- ---- At rest

module _ {settings : Settings} (passes : settings_refusal settings ≡ no_refusal) {state : State}
    (rest : Resting settings state) where
  begins_rest : BeginsRun settings state
  begins_rest = record {
    accepted_are = rest.accepted_are;
    later = [];
    messages_are = sym rest.messages_are ∙ sym (append-nil state.messages);
  }

  sound_rest : SoundHeld settings state
  sound_rest =
      let ok = sound_run settings passes state.accepted in
      let network = (run_of settings state.accepted).network in
      let parts : SoundParts settings network = record {
        sites_sound = ok.sound.sites_sound;
        coordinator_sound = ok.sound.coordinator_sound;
        within = within_of_run settings passes network ok;
      } in
      subst (SoundParts settings) (sym rest.network_is) parts

-- ---- In mid-delivery, and either way

module _ {settings : Settings} (passes : settings_refusal settings ≡ no_refusal)
    {n : ℕ} {state : State}
  where
    -- ---- In mid-delivery

    module _ (mid : Delivering settings n state) where
      abbrev before : Run
      before = run_of settings mid.front

      -- The run over all that was accepted is the run before, with this arrival.
      pub run_then : run_of settings state.accepted ≡ with_arrival settings before mid.arrival
      run_then =
          ap (run_of settings) mid.accepted_are
          ∙ run_from_append settings _ mid.front (mid.arrival ∷ [])
          ∙ rw (takes mid.arrival _ mid.is_draw_lem mid.underway.taken)

      accepted_then : (run_of settings state.accepted).accepted ≡ state.accepted
      accepted_then =
          ap (λ (run : Run). run.accepted) run_then
          ∙ ap (λ (front : List Arrival). front ++ (mid.arrival ∷ [])) mid.front_accepted
          ∙ sym mid.accepted_are

      begins_mid : BeginsRun settings state
      begins_mid =
          let log = mid.underway.log in
          let more = (grows passes mid.underway).more in
          record {
            accepted_are = accepted_then;
            later = more;
            messages_are =
                ap (λ (run : Run). run.messages) run_then
                ∙ ap (λ (ms : List Message). before.messages ++ ms)
                (messages_underway passes mid.underway)
                ∙ sym (append_assoc before.messages log more)
                ∙ ap (λ (ms : List Message). ms ++ more) (sym mid.underway.messages_are);
          }

      -- The run with this arrival is within the limit, and no number is above what it comes to.
      sound_mid : SoundHeld settings state
      sound_mid =
          parts_underway passes mid.underway
          (subst (λ (run : Run). CoordinatorWithin run.network.coordinator) run_then
          (within_of_run settings passes (run_of settings state.accepted).network
          (sound_run settings passes state.accepted)))

      -- Where nothing waits and no kind 7 is to come, the run is complete.
      rest_mid : state.waiting ≡ []
          → is_announcing state.held.coordinator.phase ≡ false
          → Resting settings state
      rest_mid none silent =
          let ended = (in_mid passes mid.underway).ends none silent in
          record {
            nothing_waits = none;
            accepted_are = accepted_then;
            network_is =
                ap (λ (d : Delivered). d.network) ended
                ∙ ap (λ (run : Run). run.network) (sym run_then);
            messages_are =
                mid.underway.messages_are
                ∙ ap (λ (d : Delivered). before.messages ++ d.messages) ended
                ∙ ap (λ (run : Run). run.messages) (sym run_then);
          }

    -- ---- Either way

    -- By the soundness of runs, and in mid-delivery of every step from them.
    pub sound_of_standing : Standing settings n state → SoundHeld settings state
    sound_of_standing (resting _ rest) = sound_rest passes rest
    sound_of_standing (delivering mid) = sound_mid mid

    -- The messages so far are the first of the run's.
    pub run_of_standing : Standing settings n state → BeginsRun settings state
    run_of_standing (resting _ rest) = begins_rest passes rest
    run_of_standing (delivering mid) = begins_mid mid

    -- A delivery with nothing left to do has come to the model's run.
    pub rest_of_standing : Standing settings n state
        → state.waiting ≡ []
        → is_announcing state.held.coordinator.phase ≡ false
        → Resting settings state
    rest_of_standing (resting _ rest) none silent = rest
    rest_of_standing (delivering mid) none silent = rest_mid mid none silent

    -- The head of the queue is accepted by whom it is for.
    pub head_of_standing : Standing settings n state
        → (m : Message) (later : List Message)
        → state.waiting ≡ m ∷ later
        → message_refusal settings (network_of settings state.held) m ≡ no_refusal
    head_of_standing (resting _ rest) m later waits =
        let impossible : 0 ≡ suc (length later) =
        ap length (sym rest.nothing_waits ∙ waits) in
        absurd (omega arith)
    head_of_standing (delivering mid) m later waits =
        (in_mid passes mid.underway).head_accepted m later waits

    -- No delivery has more steps than the model's fuel.
    pub few_of_standing : Standing settings n state → n ≤ delivery_fuel settings
    few_of_standing (resting none rest) = omega arith
    few_of_standing (delivering mid) = (in_mid passes mid.underway).few_steps

    -- Nor than 24 × k + 2.
    pub firm_of_standing : Standing settings n state → n ≤ most_steps settings
    firm_of_standing (resting none rest) = omega arith
    firm_of_standing (delivering mid) = (in_mid passes mid.underway).firm_steps
