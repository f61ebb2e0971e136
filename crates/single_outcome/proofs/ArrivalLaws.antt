-- An arrival with full delivery by the public calls: the promise, from what its parts promise.
--
--   left_says          the arrival is refused, or a touch
--   Delivers-it        what the parts of the code did
--   taken_says         the draw is accepted, and delivered
use mathlib.Core.Path.{◌≡◌, refl, sym, ap, ◌∙◌, subst}
use mathlib.Core.Bool.{true, false, false≢true}
use mathlib.Core.List.{List, [], ◌++◌}
use Prim.Native.Nat.{ℕ}
use native.Mathlib.Omega.{arith}
use lib.ListN.{length, length-append}
use Rattle.model.specs.declared.Settings.{Settings}
use Rattle.model.specs.declared.Arrival.{Arrival}
use Rattle.model.specs.declared.Sites.{Sites}
use Rattle.model.specs.declared.CoordinatorRecord.{CoordinatorRecord}
use Rattle.model.specs.Refusals.{◌or_else◌, no_refusal}
use Rattle.model.specs.Draws.{is_draw}
use Rattle.model.specs.Network.{Network}
use Rattle.model.specs.Runs.{line_refusal_in, run_of}
use Rattle.history.specs.State.{held_refusal, Held, State, AtRest, network_of, network_written, held_by}
use Rattle.history.specs.Steps.{after_single, arrives, single}
use Rattle.history.specs.Histories.{Reachable, stepped}
use Rattle.model.proofs.Touches.DrawLaws.{takes, not_taken}
use Rattle.history.proofs.Answers.{taken_choice, left_choice}
use Rattle.history.proofs.SingleState.{begins}
use Rattle.demands.proofs.Theorem.{demands}
use Rattle.history.proofs.Underway.{SoundRest}
use Rattle.single_steps.specs.Progress.{ProgressOutcome}
use Rattle.single_steps.specs.Steps.{Came, DeliverByCallsSays}
use Rattle.single_begin.specs.Arriving.{DeliveryBegun, BeginDeliverySays}
use Rattle.single_outcome.specs.Delivery.{DeliveryOutcome, delivery_refusal, delivery_in, HistoryGoesOn, ArrivalDelivered, DeliverySays}
use Rattle.single_outcome.proofs.EndLaws.{AtEnd, at_end}
use Rattle.single_outcome.proofs.RestLaws.{Ended}
use Rattle.single_outcome.proofs.OutcomeLaws.{outcome_of}
use Rattle.single_outcome.proofs.PassedLaws.{Passed, rest_of}
use Rattle.single_outcome.proofs.HeldLaws.{kept_after, held_after}
use Rattle.single_outcome.proofs.HistoryLaws.{passes_of_reachable, reachable_after, start_accepted, never_stopped}

-- ---- Either way

-- In a history at rest the start test passes, and the number is the rules'.
by_rules_of : {settings : Settings} (arrival : Arrival) (given : Held) (refusal : ℕ)
    → refusal ≡ delivery_refusal settings given arrival
    → (before : State)
    → before.held ≡ given
    → AtRest before
    → Reachable settings before
    → refusal ≡ line_refusal_in settings (network_of settings given) arrival
by_rules_of {settings} arrival given refusal refusal_is before held_is at_rest reachable =
    let none : held_refusal settings given ≡ no_refusal =
    subst (λ (held : Held). held_refusal settings held ≡ no_refusal) held_is
    (start_accepted before reachable at_rest) in
    refusal_is
    ∙ ap (λ (start : ℕ). start or_else line_refusal_in settings (network_of settings given) arrival)
    none

-- ---- Refused, or a touch

pub left_says : {settings : Settings} {arrival : Arrival} (given left : Held)
    (answer : DeliveryOutcome)
    → answer.refusal ≡ delivery_refusal settings given arrival
    → (answer.refusal ≡ no_refusal → is_draw arrival ≡ false)
    → answer.carried ≡ 0
    → answer.stopped ≡ no_refusal
    → left ≡ given
    → DeliverySays settings arrival given left answer
left_says {settings} {arrival} given left answer refusal_is touches nothing none same =
    let test = not_taken arrival _ (λ accepts. touches (refusal_is ∙ accepts)) in
    record {
      refusal = refusal_is;
      carried = nothing ∙ sym (left_choice _ _ _ test);
      stopped = none ∙ sym (left_choice _ _ _ test);
      held = same ∙ sym (left_choice _ _ _ test);
      delivered = λ accepts is_draw_lem. absurd (false≢true (sym (touches accepts) ∙ is_draw_lem));
      by_rules = by_rules_of arrival given answer.refusal refusal_is;
    }

-- ---- Accepted

module _ {settings : Settings} {arrival : Arrival} {sites : Sites}
    {coordinator : CoordinatorRecord} {site_before site_after before after : List ℕ}
    {first ended : ProgressOutcome}
    (ok : Passed settings (held_by sites coordinator site_before before))
    (begin_says : BeginDeliverySays settings arrival sites coordinator site_before site_after first)
    (is_draw_lem : is_draw arrival ≡ true)
    (accepts : first.refusal ≡ no_refusal)
    (deliver-says : DeliverByCallsSays settings site_after before after first ended) where
  abbrev given : Held
  given = held_by sites coordinator site_before before

  abbrev left : Held
  left = held_by ended.sites ended.coordinator site_after after

  abbrev network : Network
  network = network_of settings given

  -- From a state that holds what was given, with nothing waiting.
  module _ (state : State) (held_is : state.held ≡ given) (nothing_waits : state.waiting ≡ [])
    where
      begun : DeliveryBegun settings state arrival first site_after before
      begun = begin_says.begins accepts state before held_is nothing_waits

      abbrev then : State
      then = after_single settings state arrival begun.words begun.part begun.observed

      came : Came settings (length state.messages) then first ended site_after after
      came = deliver-says.comes (length state.messages) then begun.stands

      rest : SoundRest settings state
      rest = rest_of ok state held_is nothing_waits

      here : network_of settings state.held ≡ network
      here = ap (network_of settings) held_is

      end : AtEnd settings network arrival state.messages then came.taken came.after
          ended.refusal
      end =
          subst (λ (origin : Network).
          AtEnd settings origin arrival state.messages then came.taken came.after
          ended.refusal)
          here
          (at_end ok.passes
          (begins ok.passes state rest arrival begun.words begun.part begun.observed
          begun.says is_draw_lem begun.accepts)
          came begin_says.left_is deliver-says.none_due)

      ends : Ended settings network arrival state.messages came.after ended.refusal
      ends = outcome_of ok.passes ok.within ok.dropped_within end

      -- All that is left is the network that it comes to, written over what was given.
      left_is : left
          ≡ network_written settings given (delivery_in settings network arrival).network
          given.sites.messages
      left_is =
          sym came.stands.held_is
          ∙ held_after ok.passes state rest arrival begun.words begun.part
          begun.observed begun.says is_draw_lem begun.accepts came.taken came.after
          came.deliveries
          ∙ (λ i. network_written settings (held_is i) (ends.network_is i)
          (held_is i).sites.messages)

      -- As many messages as went out.
      carried_is : ended.carried ≡ length (delivery_in settings network arrival).messages
      carried_is =
          let out = (delivery_in settings network arrival).messages in
          omega (
            arith,
            came.stands.carried_are,
            ap length ends.messages_are,
            length-append state.messages out,
          )

      module _ (at_rest : AtRest state) (reachable : Reachable settings state) where
        reachable_then : Reachable settings then
        reachable_then =
            stepped state then reachable
            (arrives (single arrival begun.words begun.part begun.observed at_rest
            is_draw_lem begun.says begun.accepts))

        there : Reachable settings came.after
        there =
            reachable_after then reachable_then came.taken came.after came.deliveries

        completes : ended.refusal ≡ no_refusal
        completes = never_stopped came.after end there

        goes_on : HistoryGoesOn settings state arrival came.after
        goes_on =
            let passes = passes_of_reachable state reachable in
            let kept = (kept_after ok.passes state rest arrival begun.words begun.part
            begun.observed begun.says is_draw_lem begun.accepts came.taken came.after
            came.deliveries).holds in
            let rested = ends.rests completes in
            let as-rules = (demands.second settings came.after passes there).at_rest rested in
            record {
              reachable = there;
              at_rest = rested;
              accepted_are = kept.same_accepted;
              network_is =
                  as-rules.network_is
                  ∙ ap (λ (arrivals : List Arrival). (run_of settings arrivals).network)
                  kept.same_accepted;
              messages_are =
                  as-rules.messages_are
                  ∙ ap (λ (arrivals : List Arrival). (run_of settings arrivals).messages)
                  kept.same_accepted;
              tails_kept = kept.from.tails;
            }

      delivered_it : (answer : DeliveryOutcome)
          → answer.stopped ≡ ended.refusal
          → ArrivalDelivered settings state arrival answer left
      delivered_it answer stopped_is = record {
        words = begun.words;
        part = begun.part;
        observed = begun.observed;
        observe_says = begun.says;
        observe_accepts = begun.accepts;
        calls = came.taken;
        after = came.after;
        deliveries = came.deliveries;
        held_is = came.stands.held_is;
        messages_are =
            ends.messages_are
            ∙ ap (λ (there : Network).
            state.messages ++ (delivery_in settings there arrival).messages) (sym here);
        rests = λ none. ends.rests (sym stopped_is ∙ none);
        completes = λ at_rest reachable. stopped_is ∙ completes at_rest reachable;
        goes_on = goes_on;
      }

  -- What was given, as a state with nothing before it.
  abbrev fresh : State
  fresh = record {
    held = given;
    waiting = [];
    accepted = [];
    messages = [];
    log = [];
    logged = 0;
  }

  pub taken_says : (answer : DeliveryOutcome)
      → answer.refusal ≡ no_refusal
      → no_refusal ≡ delivery_refusal settings given arrival
      → answer.carried ≡ ended.carried
      → answer.stopped ≡ ended.refusal
      → DeliverySays settings arrival given left answer
  taken_says answer none number_is carried_same stopped-same =
      let test = takes arrival _ is_draw_lem (sym number_is) in
      record {
        refusal = none ∙ number_is;
        carried =
            carried_same
            ∙ carried_is fresh refl refl
            ∙ sym (taken_choice _ _ _ test);
        stopped =
            stopped-same
            ∙ (ends fresh refl refl).stopped_is
            ∙ sym (taken_choice _ _ _ test);
        held = left_is fresh refl refl ∙ sym (taken_choice _ _ _ test);
        delivered = λ _ _ state held_is nothing_waits.
            delivered_it state held_is nothing_waits answer stopped-same;
        by_rules = by_rules_of arrival given answer.refusal (none ∙ number_is);
      }
