-- One call of a delivery, and all of them, as steps of a history: whatever state the records, the
-- queue and the memory stand for, arisen or not, each call that is accepted is a step from it, and
-- a call that is refused leaves it.
--
--   Blocked settings state refusal   a call that is due is refused by this number
--   Stepped settings past state ..   a step of delivery, or the state as it was with a refusal
--   AskAsks, HandByCallAsks, DueAsks       what each call requires of the progress
--   CallStepSays                         what each call promises
--   Came settings past first ..      steps of delivery since a first state
--   DeliverByCallsAsks, DeliverByCallsSays         call by call, until none is due
use Rattle.std.specs.Prelude.{◌≡◌, Bool, true, false, List, ◌∷◌, ℕ, ◌+◌, ◌≤◌, ◌<◌}
use Rattle.model.specs.declared.Settings.{Settings}
use Rattle.model.specs.declared.Message.{Message}
use Rattle.model.specs.Refusals.{no_refusal}
use Rattle.model.specs.Messages.{to_coordinator}
use Rattle.model.specs.SiteMemory.{site_words}
use Rattle.model.specs.Coordinator.{is_announcing}
use Rattle.bench_memory.specs.Promises.{SitesFit}
use Rattle.site.specs.Calls as SiteCalls
use Rattle.coordinator.specs.Calls as CoordinatorCalls
use Rattle.history.specs.State.{State, record_at, site_part}
use Rattle.history.specs.Steps.{Delivers}
use Rattle.history.specs.Histories.{Deliveries}
use Rattle.single_steps.specs.Progress.{ProgressOutcome, carried_limit, is_due, Stands}

-- ---- One call

-- What is due and refused.
pub data Blocked (settings : Settings) (state : State) (refusal : ℕ) : Type 0 where
  coordinator_refuses : (m : Message) (later : List Message)
      → state.waiting ≡ m ∷ later
      → to_coordinator m ≡ true
      → CoordinatorCalls.receive_refusal settings state.held.coordinator m
      state.held.coordinator_memory
      ≡ refusal
      → Blocked settings state refusal
  site_refuses : (m : Message) (later : List Message) (words : ℕ)
      → state.waiting ≡ m ∷ later
      → to_coordinator m ≡ false
      → site_words settings ≤ words
      → (SiteCalls.receive_refusal settings (record_at state.held m.site) m.site m
      (site_part settings state.held m.site words)
      ≡ no_refusal → ⊥)
      → (m.site < settings.sites
      → SiteCalls.receive_refusal settings (record_at state.held m.site) m.site m
      (site_part settings state.held m.site words)
      ≡ refusal)
      → Blocked settings state refusal
  announcement_refused :
      is_announcing state.held.coordinator.phase ≡ true
      → CoordinatorCalls.announce_refusal settings state.held.coordinator
      state.held.coordinator_memory
      ≡ refusal
      → Blocked settings state refusal

pub data Stepped
    (settings : Settings)
    (past : ℕ)
    (state : State)
    (after : ProgressOutcome)
    (site_memory coordinator_memory : List ℕ) : Type 0 where
  -- the call is accepted: a step of a history
  goes : (next : State)
      → Delivers settings state next
      → Stands past next after site_memory coordinator_memory
      → after.refusal ≡ no_refusal
      → Stepped settings past state after site_memory coordinator_memory
  -- it is refused: all is as it was
  stops : Stands past state after site_memory coordinator_memory
      → (after.refusal ≡ no_refusal → ⊥)
      → Blocked settings state after.refusal
      → Stepped settings past state after site_memory coordinator_memory

-- Nothing waits, and the coordinator announces.
pub record AskAsks (progress : ProgressOutcome) : Type 0 where
  pub not_refused : progress.refusal ≡ no_refusal
  pub few_carried : progress.carried < carried_limit
  pub nothing_waits : progress.waiting.count ≡ 0
  pub announces : is_announcing progress.coordinator.phase ≡ true

-- A message waits, and it is for the coordinator, or for a site.
pub record HandByCallAsks (way : Bool) (progress : ProgressOutcome) : Type 0 where
  pub not_refused : progress.refusal ≡ no_refusal
  pub few_carried : progress.carried < carried_limit
  pub some : progress.waiting.count ≡ 0 → ⊥
  pub few : progress.waiting.count ≤ 2
  pub way_is : to_coordinator progress.waiting.first ≡ way

-- One of them.
pub record DueAsks (progress : ProgressOutcome) : Type 0 where
  pub not_refused : progress.refusal ≡ no_refusal
  pub few_carried : progress.carried < carried_limit
  pub few : progress.waiting.count ≤ 2
  pub announces : progress.waiting.count ≡ 0
      → is_announcing progress.coordinator.phase ≡ true

pub record CallStepSays
    (settings : Settings)
    (site_memory coordinatorBefore coordinator_after : List ℕ)
    (before after : ProgressOutcome) : Type 0 where
  pub few : after.waiting.count ≤ 2
  pub one_more : after.carried ≤ before.carried + 1
  pub left_is : after.left ≡ before.left
  pub steps : (past : ℕ) (state : State)
      → Stands past state before site_memory coordinatorBefore
      → Stepped settings past state after site_memory coordinator_after

-- ---- All calls

-- From a first state on: so many accepted calls, as many as are now fewer left; and if a call was
-- refused, it was the last.
pub record Came
    (settings : Settings)
    (past : ℕ)
    (first : State)
    (begun now : ProgressOutcome)
    (site_memory coordinator_memory : List ℕ) : Type 0 where
  pub taken : ℕ
  pub after : State
  pub deliveries : Deliveries settings first taken after
  pub stands : Stands past after now site_memory coordinator_memory
  pub counted : now.refusal ≡ no_refusal → taken + now.left ≡ begun.left
  pub blocked : (now.refusal ≡ no_refusal → ⊥) → Blocked settings after now.refusal

pub record DeliverByCallsAsks (settings : Settings) (site_memory : List ℕ) (begun : ProgressOutcome)
    : Type 0 where
  pub fits : SitesFit settings site_memory
  pub few : begun.waiting.count ≤ 2
  pub few_carried : begun.carried + begun.left ≤ carried_limit
  pub not_refused : begun.refusal ≡ no_refusal

-- From every state that the progress stands for; and then no call is due.
pub record DeliverByCallsSays
    (settings : Settings)
    (site_memory coordinatorBefore coordinator_after : List ℕ)
    (begun ended : ProgressOutcome) : Type 0 where
  pub none_due : is_due ended ≡ false
  pub comes : (past : ℕ) (first : State)
      → Stands past first begun site_memory coordinatorBefore
      → Came settings past first begun ended site_memory coordinator_after
