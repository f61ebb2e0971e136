-- A call that is accepted is a step of delivery from every state that the progress stands for; one
-- that is refused leaves that state, and was due.
--
--   moved_on                               the progress after a call that is accepted
--   Moves, went                            a call that is accepted, whichever it is
--   stopped                                a call that is refused, whichever it is
-- The calls on the coordinator: CoordinatorStepLaws.antt. A message at a site: SiteStepLaws.antt.
use mathlib.Core.Path.{◌≡◌, refl, sym, ap, ◌∙◌}
use mathlib.Core.List.{List, [], ◌∷◌, ◌++◌}
use Prim.Native.Nat.{ℕ, ◌≤◌}
use native.Mathlib.Omega.{arith}
use lib.ListN.{take, length-append}
use Rattle.model.specs.declared.Settings.{Settings}
use Rattle.model.specs.declared.Message.{Message}
use Rattle.model.specs.declared.Sites.{Sites}
use Rattle.model.specs.declared.CoordinatorRecord.{CoordinatorRecord}
use Rattle.model.specs.Refusals.{no_refusal}
use Rattle.tracker_queue.specs.declared.Queue.{Queue}
use Rattle.history.specs.State.{Held, State, sending, held_by}
use Rattle.history.specs.Steps.{Delivers}
use Rattle.single_steps.specs.Progress.{ProgressOutcome, sent, refused_with, queued, Stands}
use Rattle.single_steps.specs.Steps.{Blocked, goes, stops, CallStepSays}
use Rattle.single_steps.proofs.QueueLaws.{sends}

-- What is held by a progress.
abbrev held_in : ProgressOutcome → List ℕ → List ℕ → Held
held_in progress = held_by progress.sites progress.coordinator

-- The progress after a call that is accepted, before what it hands out waits.
abbrev pub moved_on : ProgressOutcome → Sites → CoordinatorRecord → Queue → ProgressOutcome
moved_on progress sites coordinator queue = record {
  sites = sites;
  coordinator = coordinator;
  waiting = queue;
  carried = progress.carried;
  refusal = progress.refusal;
  left = progress.left;
}

-- ---- Accepted

-- The state's next one, with what the call hands out: what is held, and what waits still.
pub record Moves
    (settings : Settings)
    (state : State)
    (moved : ProgressOutcome)
    (site_memory memory : List ℕ)
    (out : List Message) : Type 0 where
  pub held : Held
  pub waiting : List Message
  pub held_is : held ≡ held_by moved.sites moved.coordinator site_memory memory
  pub waiting_are : waiting ≡ queued moved.waiting
  pub delivers : Delivers settings state (sending state held waiting out)

-- It went, from every state that the progress stands for.
pub went : {settings : Settings} {site_memory before after : List ℕ} {progress : ProgressOutcome}
    → progress.refusal ≡ no_refusal
    → (sites : Sites) (coordinator : CoordinatorRecord) (queue : Queue)
    → queue.count ≤ 1
    → (count : ℕ) (m : Message) (then : ProgressOutcome)
    → then ≡ sent count (moved_on progress sites coordinator queue) m
    → ((past : ℕ) (state : State)
    → Stands past state progress site_memory before
    → Moves settings state (moved_on progress sites coordinator queue) site_memory after
    (take count (m ∷ [])))
    → CallStepSays settings site_memory before after progress then
went {site_memory = site_memory} {after = after} {progress = progress} not_refused sites coordinator
    queue few count m then then_is moves =
    let says = sends count (moved_on progress sites coordinator queue) m then then_is few in
    let out = take count (m ∷ []) in
    record {
      few = says.few;
      one_more = says.one_more;
      left_is = says.same_left;
      steps = λ past state stands.
          let to = moves past state stands in
          goes (sending state to.held to.waiting out) to.delivers
          (record {
            held_is =
                to.held_is
                ∙ (λ i. held_by (sym says.same_sites i) (sym says.same_coordinator i)
                site_memory after);
            waiting_are =
                ap (λ (ms : List Message). ms ++ out) to.waiting_are
                ∙ says.waits;
            carried_are =
                omega (
                  arith,
                  length-append state.messages out,
                  stands.carried_are,
                  says.counts,
                );
          })
          (says.same_refusal ∙ not_refused);
    }

-- ---- Refused

-- A call is refused that every state says is due; it left the memory as it was.
module _ {settings : Settings} {site_memory before : List ℕ} (progress : ProgressOutcome) where
  pub stopped : (refusal : ℕ) (after : List ℕ)
      → progress.waiting.count ≤ 2
      → (refusal ≡ no_refusal → ⊥)
      → after ≡ before
      → ((past : ℕ) (state : State)
      → Stands past state progress site_memory before
      → Blocked settings state refusal)
      → CallStepSays settings site_memory before after progress (refused_with progress refusal)
  stopped refusal after few refused same blocked = record {
    few = few;
    one_more = omega arith;
    left_is = refl;
    steps = λ past state stands.
        stops
        (record {
          held_is = stands.held_is ∙ ap (held_in progress site_memory) (sym same);
          waiting_are = stands.waiting_are;
          carried_are = stands.carried_are;
        })
        refused (blocked past state stands);
  }
