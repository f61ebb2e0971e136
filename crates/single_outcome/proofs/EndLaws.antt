-- Where a delivery ends, by the calls that it took: no call is due any more, so one was refused, or
-- nothing waits and nothing is announced.
--
--   Quiet                   nothing waits, and nothing is announced
--   HeadWithin              no message waits for a site that has forgotten more than arrived
--   not_blocked             then, from sound parts, no call that is due is refused
--   not_blocked_quiet       where nothing waits and nothing is announced none is due
--   AtEnd, at_end, by_end   where the calls came to: not refused and quiet, or blocked
use mathlib.Core.Path.{◌≡◌, refl, sym, ap, ◌∙◌, subst}
use mathlib.Core.Bool.{Bool, true, false, not, ◌&&◌, false≢true}
use mathlib.Core.List.{List, [], ◌∷◌}
use Prim.Native.Nat.{ℕ, zero, suc, ◌≤◌, ◌<◌}
use native.Mathlib.Omega.{arith}
use lib.ListN.{length}
use lib.Seq.{take-length}
use borrow.Author.Tests.{eqb-true, eq-eqb, ne_eqb, not-false}
use Rattle.laws.proofs.Tests.{neither_of_or}
use Rattle.model.specs.declared.Settings.{Settings}
use Rattle.model.specs.declared.Arrival.{Arrival}
use Rattle.model.specs.declared.Message.{Message}
use Rattle.model.specs.Choice.{is_zero}
use Rattle.model.specs.Refusals.{no_refusal}
use Rattle.model.specs.Limits.{most_steps}
use Rattle.model.specs.Settings.{settings_refusal}
use Rattle.model.specs.Messages.{to_coordinator}
use Rattle.model.specs.Coordinator.{is_announcing}
use Rattle.model.specs.Network.{Network, site_at}
use Rattle.model.specs.SoundNetwork.{DroppedWithin}
use Rattle.coordinator.specs.Calls as CoordinatorCalls
use Rattle.history.specs.State.{Held, State, network_of}
use Rattle.history.specs.Histories.{Deliveries}
use Rattle.history.proofs.Underway.{SoundParts, Underway, in_mid}
use Rattle.history.proofs.GoesOn.{deliveries_on, coordinator_accepts, site_accepts, announcement_accepted}
use Rattle.single_steps.specs.Progress.{ProgressOutcome, goes_on, may_go_on, is_due}
use Rattle.single_steps.specs.Steps.{Blocked, coordinator_refuses, site_refuses, announcement_refused, Came}
use Rattle.single_begin.specs.Arriving.{most_calls}
use Rattle.single_steps.proofs.QueueLaws.{queued_none}

-- Nothing waits, and nothing is announced.
pub record Quiet (state : State) : Type 0 where
  pub nothing_waits : state.waiting ≡ []
  pub silent : is_announcing state.held.coordinator.phase ≡ false

-- No message waits for a site that has forgotten more than arrived.
abbrev pub HeadWithin : Settings → State → Type 0
HeadWithin settings state =
    (m : Message) (later : List Message)
    → state.waiting ≡ m ∷ later
    → to_coordinator m ≡ false
    → m.site < settings.sites
    → DroppedWithin (site_at (network_of settings state.held) m.site)

-- From sound parts what is due is accepted, with all of the coordinator's memory lent.
pub not_blocked : {settings : Settings} (passes : settings_refusal settings ≡ no_refusal)
    {origin : Network} {arrival : Arrival} {past : List Message} {n : ℕ} (state : State)
    (mid : Underway settings origin arrival past n state)
    → SoundParts settings (network_of settings state.held)
    → HeadWithin settings state
    → (refusal : ℕ)
    → (refusal ≡ no_refusal → ⊥)
    → Blocked settings state refusal → ⊥
not_blocked {settings} passes state mid parts few refusal refused
    (coordinator_refuses m later waits way number) =
    let memory = state.held.coordinator_memory in
    refused
    (sym number
    ∙ ap (CoordinatorCalls.receive_refusal settings state.held.coordinator m)
    (sym (take-length memory))
    ∙ coordinator_accepts passes state mid.lengths parts m (length memory)
    ((in_mid passes mid).head_accepted m later waits) way mid.lengths.coordinator_long)
not_blocked passes state mid parts few refusal refused
    (site_refuses m later words waits way enough not-accepted number) =
    not-accepted
    (site_accepts passes state mid.lengths parts m words (few m later waits way)
    ((in_mid passes mid).head_accepted m later waits) way enough)
not_blocked {settings} passes state mid parts few refusal refused
    (announcement_refused announces number) =
    let memory = state.held.coordinator_memory in
    refused
    (sym number
    ∙ ap (CoordinatorCalls.announce_refusal settings state.held.coordinator)
    (sym (take-length memory))
    ∙ announcement_accepted passes state mid.lengths parts (length memory) announces
    mid.lengths.coordinator_long)

-- Where nothing waits and nothing is announced, no call is due.
pub not_blocked_quiet : {settings : Settings} {state : State} {refusal : ℕ}
    → Quiet state
    → Blocked settings state refusal → ⊥
not_blocked_quiet quiet (coordinator_refuses m later waits way number) =
    let lengths : 0 ≡ suc (length later) = ap length (sym quiet.nothing_waits ∙ waits) in
    omega arith
not_blocked_quiet quiet (site_refuses m later words waits way enough not-accepted number) =
    let lengths : 0 ≡ suc (length later) = ap length (sym quiet.nothing_waits ∙ waits) in
    omega arith
not_blocked_quiet quiet (announcement_refused announces number) =
    false≢true (sym quiet.silent ∙ announces)

-- ---- The end of a delivery

-- So many steps after a first state, and then no call is due: one was refused, or all is quiet.
pub record AtEnd
    (settings : Settings)
    (network : Network)
    (arrival : Arrival)
    (past : List Message)
    (first : State)
    (taken : ℕ)
    (after : State)
    (refusal : ℕ) : Type 0 where
  pub start : Underway settings network arrival past 0 first
  pub deliveries : Deliveries settings first taken after
  pub mid : Underway settings network arrival past taken after
  pub quiet : refusal ≡ no_refusal → Quiet after
  pub blocked : (refusal ≡ no_refusal → ⊥) → Blocked settings after refusal

-- Not refused, or blocked.
pub by_end : {A : Type 0} {settings : Settings} {network : Network} {arrival : Arrival}
    {past : List Message} {first : State} {taken : ℕ} {after : State} (refusal : ℕ)
    → AtEnd settings network arrival past first taken after refusal
    → (refusal ≡ no_refusal → Quiet after → A)
    → ((refusal ≡ no_refusal → ⊥) → Blocked settings after refusal → A)
    → A
by_end zero end quiet blocked = quiet refl (end.quiet refl)
by_end (suc n) end quiet blocked =
    let refused : suc n ≡ no_refusal → ⊥ = λ none. omega arith in
    blocked refused (end.blocked refused)

module _ {settings : Settings} (passes : settings_refusal settings ≡ no_refusal)
    {network : Network} {arrival : Arrival} {before : List Message}
    {past : ℕ} {first : State} {begun ended : ProgressOutcome} {site_memory memory : List ℕ}
    (start : Underway settings network arrival before 0 first)
    (came : Came settings past first begun ended site_memory memory)
    (allowed : begun.left ≡ most_calls settings)
    (none_due : is_due ended ≡ false) where
  there : Underway settings network arrival before came.taken came.after
  there =
      let on = deliveries_on passes start came.taken came.after came.deliveries in
      let steps : on.steps ≡ came.taken = omega (arith, on.in_all) in
      subst (λ (n : ℕ). Underway settings network arrival before n came.after) steps
      on.holds

  -- A delivery has fewer calls than are allowed, so none is due for another reason.
  quiet_end : ended.refusal ≡ no_refusal → Quiet came.after
  quiet_end not_refused =
      let few : came.taken ≤ most_steps settings = (in_mid passes there).firm_steps in
      let some_left : ended.left ≡ 0 → ⊥ =
      λ none. omega (arith, few, came.counted not_refused, allowed, none) in
      let may : may_go_on ended ≡ true =
      rw (eq-eqb ended.refusal 0 not_refused, ne_eqb ended.left 0 some_left) refl in
      let no-further : goes_on ended ≡ false =
      sym (ap (λ (test : Bool). test && goes_on ended) may) ∙ none_due in
      let neither = neither_of_or (not (is_zero ended.waiting.count))
      (is_announcing ended.coordinator.phase) no-further in
      let none : ended.waiting.count ≡ 0 =
      eqb-true ended.waiting.count 0
      (not-false (is_zero ended.waiting.count) neither.first_false) in
      record {
        nothing_waits = came.stands.waiting_are ∙ queued_none ended.waiting none;
        silent =
            ap (λ (held : Held). is_announcing held.coordinator.phase) came.stands.held_is
            ∙ neither.second_false;
      }

  -- Where the calls came to.
  pub at_end : AtEnd settings network arrival before first came.taken came.after
      ended.refusal
  at_end = record {
    start = start;
    deliveries = came.deliveries;
    mid = there;
    quiet = quiet_end;
    blocked = came.blocked;
  }
