-- A line's draw on a session that stands for a run: a batch of one arrival on the run's network.
--
--   rule_is                 with a log long enough it is refused as the rules say
--   sent_are, few_sent      the messages of a draw that is taken
--   stands_then             the session stands after one draw more, or a touch
use mathlib.Core.Path.{◌≡◌, refl, sym, ap, ◌∙◌, subst}
use mathlib.Core.Bool.{true}
use mathlib.Core.List.{List, [], ◌∷◌, ◌++◌}
use Prim.Native.Nat.{ℕ, ◌≤◌}
use native.Mathlib.Omega.{arith}
use lib.ListN.{length, take}
use borrow.Author.Tests.{eq-eqb}
use Rattle.model.specs.declared.Settings.{Settings}
use Rattle.model.specs.declared.Arrival.{Arrival}
use Rattle.model.specs.Refusals.{no_refusal}
use Rattle.model.specs.Limits.{most_messages}
use Rattle.model.specs.Settings.{settings_refusal}
use Rattle.model.specs.Draws.{draws_of}
use Rattle.model.specs.Network.{Network, after_line}
use Rattle.model.specs.Runs.{Run, run_of, line_refusal_in}
use Rattle.model.specs.MessageCounts.{none_counted, counted_up}
use Rattle.model.proofs.Touches.DrawLaws.{line_few}
use Rattle.worklist_reader.specs.Walk.{Step}
use Rattle.tracker.specs.Batch.{BatchCall, BatchHeld, BatchSays, batch_in, unless_refused, log_room}
use Rattle.history.specs.State.{State, network_of}
use Rattle.history.specs.Steps.{after_batch}
use Rattle.history.proofs.Accepted.{batch_by_rules}
use Rattle.history.proofs.Invariant.{StateOk, Resting}
use Rattle.history.proofs.BatchedState.{batch_ok, batch_resting}
use Rattle.drawtrack_steps.specs.declared.Session.{Session}
use Rattle.drawtrack_steps.specs.Outcome.{Buffers, buffers, Outcome, outcome}
use Rattle.drawtrack_steps.specs.Steps.{draw_call, draw_refusal, taken_of}
use Rattle.drawtrack_steps.proofs.TakeLaws.{done}
use Rattle.drawtrack_course.specs.Course.{Represents, Room}
use Rattle.drawtrack_course.proofs.StateLaws.{run_after, state, state_ok, state_at_rest}
use Rattle.drawtrack_course.proofs.BatchLaws.{one_refusal, One, one_taken, left_of, says_of}

-- ---- The draw of a line

module _ {session : Session} {given : Buffers} {arrivals : List Arrival}
    (stands : Represents session given.site_memory given.coordinator_memory arrivals)
    (room : Room given) (step : Step) where
  abbrev settings : Settings
  settings = session.settings

  abbrev arrival : Arrival
  arrival = step.arrival

  abbrev here : State
  here = state session given.site_memory given.coordinator_memory arrivals

  abbrev run : Run
  run = run_after session arrivals

  abbrev held_network : Network
  held_network = network_of settings here.held

  abbrev call : BatchCall
  call = draw_call session step given

  abbrev answer : BatchHeld
  answer = left_of call

  says : BatchSays call answer
  says = says_of call

  passes : settings_refusal settings ≡ no_refusal
  passes = stands.settings_accepted

  -- 23 * 4 + 2 = 94 records of four numbers each
  room_enough : most_messages settings ≤ log_room given.log
  room_enough = omega (arith, stands.few_sites, room.log_long)

  by_rules : draw_refusal call ≡ line_refusal_in settings held_network arrival
  by_rules =
      batch_by_rules passes (state_ok stands) (state_at_rest stands) (arrival ∷ [])
      given.log answer says
      ∙ one_refusal settings (log_room given.log) held_network arrival room_enough

  pub rule_is : draw_refusal call ≡ line_refusal_in settings run.network arrival
  rule_is =
      by_rules
      ∙ ap (λ (network : Network). line_refusal_in settings network arrival) stands.network_is

  -- ---- A draw that is taken

  module _ (none : draw_refusal call ≡ no_refusal) where
    is : {A : Type 0} (x y z : A) → x ≡ unless_refused call y z → x ≡ y
    is = done session step given answer says none

    taken : One settings (log_room given.log) held_network arrival room_enough
    taken =
        one_taken settings (log_room given.log) held_network arrival room_enough
        (eq-eqb (line_refusal_in settings held_network arrival) 0 (sym by_rules ∙ none))

    pub sent_are : (batch_in call).messages
        ≡ (after_line settings run.network arrival).messages
    sent_are =
        taken.messages_are
        ∙ ap (λ (network : Network). (after_line settings network arrival).messages)
        stands.network_is

    pub few_sent : length (batch_in call).messages ≤ 94
    few_sent =
        omega (
          arith,
          ap length taken.messages_are,
          line_few settings held_network arrival (state_at_rest stands).idle,
          stands.few_sites,
        )

    -- ---- Where the session stands then

    ok_then : StateOk settings 0 (after_batch here (arrival ∷ []) answer)
    ok_then =
        batch_ok passes here (state_ok stands) (state_at_rest stands) (arrival ∷ []) given.log
        answer says

    rest_then : Resting settings (after_batch here (arrival ∷ []) answer)
    rest_then =
        batch_resting passes here (state_ok stands) (state_at_rest stands) (arrival ∷ [])
        given.log answer says

    abbrev after_all : List Arrival
    after_all = arrivals ++ draws_of (arrival ∷ [])

    accepted_then : arrivals ++ draws_of (take answer.accepted (arrival ∷ [])) ≡ after_all
    accepted_then =
        ap (λ (n : ℕ). arrivals ++ draws_of (take n (arrival ∷ [])))
        (is answer.accepted _ _ refl ∙ taken.accepted_is)

    -- All messages so far are those of the logs.
    counts_then : answer.held.sites.messages
        ≡ counted_up none_counted (run_of settings after_all).messages
    counts_then =
        ok_then.counts_are
        ∙ ap (counted_up none_counted)
        (rest_then.messages_are
        ∙ ap (λ (xs : List Arrival). (run_of settings xs).messages) accepted_then)

    abbrev next : Session
    next = record {
      going = true;
      refusal = no_refusal;
      settings = session.settings;
      sites = answer.held.sites;
      coordinator = answer.held.coordinator;
      at = step.at;
      line = step.line;
    }

    answer_stands :
        Represents next answer.held.site_memory answer.held.coordinator_memory after_all
    answer_stands = record {
      settings_accepted = passes;
      few_sites = stands.few_sites;
      few_items = stands.few_items;
      all_records = ok_then.lengths.all_records;
      sites_long = ok_then.lengths.sites_long;
      coordinator_long = ok_then.lengths.coordinator_long;
      network_is =
          rest_then.network_is
          ∙ ap (λ (xs : List Arrival). (run_of settings xs).network) accepted_then;
      accepted_are =
          subst (λ (xs : List Arrival). (run_of settings xs).accepted ≡ xs) accepted_then
          rest_then.accepted_are;
      counts_are = counts_then;
    }

    -- The same, with records and memory as the definition of the draw has them.
    pub stands_then : let there = taken_of session step given in
        Represents there.moved.session there.left.site_memory
        there.left.coordinator_memory after_all
    stands_then =
        let sites = is answer.held.sites _ _ refl in
        let coordinator = is answer.held.coordinator _ _ refl in
        let site_memory = is answer.held.site_memory _ _ refl in
        let memory = is answer.held.coordinator_memory _ _ refl in
        subst (λ (there : Outcome).
        Represents there.moved.session there.left.site_memory
        there.left.coordinator_memory after_all)
        (λ i. outcome
        (record {
          session = record {
            going = true;
            refusal = no_refusal;
            settings = session.settings;
            sites = sites i;
            coordinator = coordinator i;
            at = step.at;
            line = step.line;
          };
          written = 0;
        })
        (buffers (site_memory i) (memory i) [] [] []))
        answer_stands
