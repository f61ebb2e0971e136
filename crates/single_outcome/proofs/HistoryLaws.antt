-- Deliveries in a history: they stay in it, and no call of theirs is refused. By crate `history`'s
-- invariant.
--
--   passes_of_reachable    the settings of a history pass their test
--   reachable_after        after steps of delivery it is the history still
--   start_accepted         at rest the start test passes
--   never_stopped          no call that is due is refused
use mathlib.Core.Path.{◌≡◌, sym, ◌∙◌}
use mathlib.Core.List.{List}
use Prim.Native.Nat.{ℕ}
use Rattle.model.specs.declared.Settings.{Settings}
use Rattle.model.specs.declared.Arrival.{Arrival}
use Rattle.model.specs.declared.Message.{Message}
use Rattle.model.specs.Refusals.{no_refusal}
use Rattle.model.specs.Settings.{settings_refusal}
use Rattle.model.specs.Network.{Network}
use Rattle.model.proofs.Thresholds.RefusalLaws.{both_accepted}
use Rattle.history.specs.State.{held_refusal, State, AtRest}
use Rattle.history.specs.Steps.{delivers, refuses}
use Rattle.history.specs.Histories.{Reachable, started, stepped, reopened, Deliveries, no_step, delivered, refused_between}
use Rattle.history.proofs.Accounts.{few_dropped}
use Rattle.history.proofs.Accepted.{held_sound, network_accepted}
use Rattle.history.proofs.Arisen.{arisen}
use Rattle.single_outcome.proofs.EndLaws.{AtEnd, not_blocked, by_end}

-- The start call on the sites is accepted.
pub passes_of_reachable : {settings : Settings} (state : State)
    → Reachable settings state
    → settings_refusal settings ≡ no_refusal
passes_of_reachable {settings} state
    (started site_memory site_count site_part sites memory count part coordinator
    sites-say sites_accepted coordinator-says coordinator_accepted) =
    (both_accepted (settings_refusal settings) _ (sym sites-say.refusal ∙ sites_accepted)
    ).first_accepted
passes_of_reachable state (stepped before after earlier step) =
    passes_of_reachable before earlier
passes_of_reachable state (reopened before _ _ _ _ _ _ _ _ _ _ earlier _ _ _ _) =
    passes_of_reachable before earlier

-- Each step is a step of the history.
pub reachable_after : {settings : Settings} (first : State)
    → Reachable settings first
    → (n : ℕ) (after : State)
    → Deliveries settings first n after
    → Reachable settings after
reachable_after first reachable n after no_step = reachable
reachable_after first reachable n after (delivered m before after' earlier step) =
    stepped before after (reachable_after first reachable m before earlier) (delivers step)
reachable_after first reachable n after (refused_between m before after' earlier step) =
    stepped before after (reachable_after first reachable n before earlier) (refuses step)

-- Neither 4 nor 11, nor 1, 2, 3.
pub start_accepted : {settings : Settings} (state : State)
    → Reachable settings state
    → AtRest state
    → held_refusal settings state.held ≡ no_refusal
start_accepted state reachable =
    let passes = passes_of_reachable state reachable in
    network_accepted passes (arisen passes state reachable).ok

-- What arose is sound within the limit, in mid-delivery too.
pub never_stopped : {settings : Settings} {network : Network} {arrival : Arrival}
    {past : List Message} {first : State} {taken : ℕ} (after : State) {refusal : ℕ}
    → AtEnd settings network arrival past first taken after refusal
    → Reachable settings after
    → refusal ≡ no_refusal
never_stopped after {refusal} end reachable =
    let passes = passes_of_reachable after reachable in
    by_end refusal end (λ none quiet. none)
    (λ refused blocked.
    absurd
    (not_blocked passes after end.mid (held_sound passes (arisen passes after reachable).ok)
    (λ m later waits way.
    few_dropped passes (arisen passes after reachable).ok.standing m.site)
    refusal refused blocked))
