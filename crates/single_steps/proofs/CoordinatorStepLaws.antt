-- The calls on the coordinator, as steps of delivery: accepted, or refused.
--
--   ask_goes, ask_stops                    the next kind 7
--   coordinator_goes, coordinator_stops    a message at the coordinator
use mathlib.Core.Path.{◌≡◌, refl, sym, ap, ◌∙◌, subst}
use mathlib.Core.Bool.{true}
use mathlib.Core.List.{List, ◌∷◌, ◌++◌, append-nil}
use Prim.Native.Nat.{ℕ, ◌≤◌}
use native.Mathlib.Omega.{arith}
use lib.ListN.{length}
use lib.Seq.{take-length, drop-length}
use Rattle.model.specs.declared.Settings.{Settings}
use Rattle.model.specs.declared.Message.{Message}
use Rattle.model.specs.Refusals.{no_refusal}
use Rattle.model.specs.Coordinator.{is_announcing}
use Rattle.tracker_queue.specs.declared.Queue.{Queue}
use Rattle.tracker_queue.specs.Sending.{without_head}
use Rattle.coordinator.specs.Calls.{Reception}
use Rattle.coordinator.specs.Calls as CoordinatorCalls
use Rattle.history.specs.State.{Held, with_part, after_coordinator_call}
use Rattle.history.specs.Steps.{to_coordinator_lem, next_announcement}
use Rattle.history.proofs.Answers.{refused_choice}
use Rattle.history.proofs.CoordinatorFronts.{front_then}
use Rattle.single_steps.specs.Progress.{ProgressOutcome, sent, refused_with, queued}
use Rattle.single_steps.specs.Steps.{coordinator_refuses, announcement_refused, AskAsks, HandByCallAsks, CallStepSays}
use Rattle.single_steps.proofs.QueueLaws.{queued_head, few_without_head}
use Rattle.single_steps.proofs.StepLaws.{moved_on, went, stopped}

-- ---- The next kind 7

module _ {settings : Settings} {memory : List ℕ} {progress : ProgressOutcome}
    (asks : AskAsks progress)
    (answer : Reception)
    (says : CoordinatorCalls.AnnounceSays settings progress.coordinator memory answer) where
  pub ask_stops : (answer.refusal ≡ no_refusal → ⊥)
      → (site_memory : List ℕ)
      → CallStepSays settings site_memory memory memory progress
      (refused_with progress answer.refusal)
  ask_stops refused site_memory =
      stopped progress answer.refusal memory (omega (arith, asks.nothing_waits)) refused refl
      (λ past state stands.
      announcement_refused
      (ap (λ (held : Held). is_announcing held.coordinator.phase) stands.held_is
      ∙ asks.announces)
      (ap (λ (held : Held).
      CoordinatorCalls.announce_refusal settings held.coordinator held.coordinator_memory)
      stands.held_is
      ∙ sym says.refusal))

  -- All of the memory is lent.
  pub ask_goes : answer.refusal ≡ no_refusal
      → (site_memory : List ℕ) (then : ProgressOutcome)
      → then
      ≡ sent answer.count
      (moved_on progress progress.sites answer.coordinator progress.waiting) answer.out
      → CallStepSays settings site_memory memory memory progress then
  ask_goes accepts site_memory then then_is =
      went asks.not_refused progress.sites answer.coordinator progress.waiting
      (omega (arith, asks.nothing_waits)) answer.count answer.out then then_is
      (λ past state stands. record {
        held =
            after_coordinator_call state.held answer.coordinator
            state.held.coordinator_memory;
        waiting = state.waiting;
        held_is = ap (λ (held : Held).
            after_coordinator_call held answer.coordinator held.coordinator_memory)
            stands.held_is;
        waiting_are = stands.waiting_are;
        delivers =
            next_announcement (length state.held.coordinator_memory) answer
            (subst (λ (lent : List ℕ).
            CoordinatorCalls.AnnounceSays settings state.held.coordinator lent answer)
            (sym (take-length state.held.coordinator_memory))
            (subst (λ (held : Held).
            CoordinatorCalls.AnnounceSays settings held.coordinator held.coordinator_memory
            answer)
            (sym stands.held_is) says))
            accepts;
      })

-- ---- A message at the coordinator

-- All of the memory was lent, and is as the call left it.
whole_left : (memory after : List ℕ) → with_part memory 0 (length memory) after ≡ after
whole_left memory after =
    front_then memory (length memory) after
    ∙ ap (λ (behind : List ℕ). after ++ behind) (drop-length memory)
    ∙ append-nil after

module _ {settings : Settings} {before after : List ℕ} {progress : ProgressOutcome}
    (asks : HandByCallAsks true progress)
    (answer : Reception)
    (says : CoordinatorCalls.CoordinatorReceiveSays settings progress.coordinator
    progress.waiting.first
    before after answer) where
  abbrev m : Message
  m = progress.waiting.first

  abbrev later : List Message
  later = queued (without_head progress.waiting)

  head_waits : queued progress.waiting ≡ m ∷ later
  head_waits = queued_head progress.waiting asks.few asks.some

  abbrev refusal : ℕ
  refusal = CoordinatorCalls.receive_refusal settings progress.coordinator m before

  pub coordinator_stops : (answer.refusal ≡ no_refusal → ⊥)
      → (site_memory : List ℕ)
      → CallStepSays settings site_memory before after progress
      (refused_with progress answer.refusal)
  coordinator_stops refused site_memory =
      stopped progress answer.refusal after asks.few refused
      (says.memory
      ∙ refused_choice refusal _ _ (λ none. refused (says.refusal ∙ none)))
      (λ past state stands.
      coordinator_refuses m later (stands.waiting_are ∙ head_waits) asks.way_is
      (ap (λ (held : Held).
      CoordinatorCalls.receive_refusal settings held.coordinator m held.coordinator_memory)
      stands.held_is
      ∙ sym says.refusal))

  -- All of the memory is lent.
  pub coordinator_goes : answer.refusal ≡ no_refusal
      → (site_memory : List ℕ) (queue : Queue) (then : ProgressOutcome)
      → queue ≡ without_head progress.waiting
      → then
      ≡ sent answer.count
      (moved_on progress progress.sites answer.coordinator queue) answer.out
      → CallStepSays settings site_memory before after progress then
  coordinator_goes accepts site_memory queue then queue-is then_is =
      went asks.not_refused progress.sites answer.coordinator queue
      (subst (λ (q : Queue). q.count ≤ 1) (sym queue-is)
      (few_without_head progress.waiting asks.few))
      answer.count answer.out then then_is
      (λ past state stands.
      let memory = state.held.coordinator_memory in
      record {
        held =
            after_coordinator_call state.held answer.coordinator
            (with_part memory 0 (length memory) after);
        waiting = later;
        held_is =
            ap (after_coordinator_call state.held answer.coordinator)
            (whole_left memory after)
            ∙ ap (λ (held : Held). after_coordinator_call held answer.coordinator after)
            stands.held_is;
        waiting_are = ap queued (sym queue-is);
        delivers =
            to_coordinator_lem m later (length memory) after answer
            (stands.waiting_are ∙ head_waits) asks.way_is
            (subst (λ (lent : List ℕ).
            CoordinatorCalls.CoordinatorReceiveSays settings state.held.coordinator m lent after
            answer)
            (sym (take-length memory))
            (subst (λ (held : Held).
            CoordinatorCalls.CoordinatorReceiveSays settings held.coordinator m
            held.coordinator_memory
            after answer)
            (sym stands.held_is) says))
            accepts;
      })
