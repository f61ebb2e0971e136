-- The state after one step of delivery: the delivery goes on by one step of the model's, from any
-- sound network; and in a history the invariant is kept. PROOF.md section 9, "The invariant".
--
--   delivered_on             the delivery, one step further
--   StepKeeps, step_keeps    what every step of delivery keeps
--   none_when_quiet          no step of delivery where nothing waits and nothing is announced
--   none_at_rest             none from a state at rest
--   delivered_ok             the invariant of the state then
use mathlib.Core.Path.{◌≡◌, refl, sym, ap, ◌∙◌, subst}
use mathlib.Core.Bool.{false, false≢true}
use mathlib.Core.List.{List, []}
use Prim.Native.Nat.{ℕ, suc, ◌≤◌}
use native.Mathlib.Omega.{arith}
use lib.ListN.{length, length-append}
use Rattle.model.specs.declared.Settings.{Settings}
use Rattle.model.specs.declared.Arrival.{Arrival}
use Rattle.model.specs.declared.Message.{Message}
use Rattle.model.specs.Refusals.{no_refusal}
use Rattle.model.specs.Settings.{settings_refusal}
use Rattle.model.specs.Coordinator.{is_announcing}
use Rattle.model.specs.Network.{Network}
use Rattle.model.specs.MessageCounts.{none_counted, counted_up}
use Rattle.model.proofs.MessageCount.CountLaws.{NamesBelow}
use Rattle.history.specs.State.{State, with_part}
use Rattle.history.specs.Steps.{answered_out, received_out, Delivers, to_coordinator_lem, to_site, next_announcement}
use Rattle.history.proofs.CallFronts.{receives_whole, announces_whole}
use Rattle.history.proofs.RunSound.{sound_run}
use Rattle.history.proofs.Underway.{Underway}
use Rattle.history.proofs.Invariant.{StateOk, Resting, Standing, resting, delivering}
use Rattle.history.proofs.ToCoordinator.{to_coordinator_on}
use Rattle.history.proofs.ToSite.{to_site_on}
use Rattle.history.proofs.NextAnnouncement.{announces, next_on}

-- ---- From any sound network

-- One step of delivery further.
pub delivered_on : {settings : Settings} (passes : settings_refusal settings ≡ no_refusal)
    {origin : Network} {arrival : Arrival} {past : List Message} {n : ℕ} (before : State)
    → Underway settings origin arrival past n before
    → (after : State)
    → Delivers settings before after
    → Underway settings origin arrival past (suc n) after
delivered_on {settings} passes before mid after
    (to_coordinator_lem m later words part answer waits way says accepts) =
    let held = before.held in
    to_coordinator_on passes before mid m later
    (with_part held.coordinator_memory 0 words part) answer waits way
    (receives_whole settings held.coordinator m words held.coordinator_memory part answer says
    accepts)
    accepts
delivered_on passes before mid after (to_site m later words answer waits way says accepts) =
    to_site_on passes before mid m later words answer waits way says accepts
delivered_on {settings} passes before mid after (next_announcement words answer says accepts) =
    let held = before.held in
    next_on settings before answer
    (announces_whole settings held.coordinator words held.coordinator_memory answer says
    accepts)
    accepts mid

-- It accepts no arrival, logs and counts nothing, and only adds to the messages.
pub record StepKeeps (before after : State) : Type 0 where
  pub same_accepted : after.accepted ≡ before.accepted
  pub same_log : after.log ≡ before.log
  pub same_logged : after.logged ≡ before.logged
  pub same_counts : after.held.sites.messages ≡ before.held.sites.messages
  pub no_fewer : length before.messages ≤ length after.messages

pub step_keeps : {settings : Settings} (before after : State)
    → Delivers settings before after
    → StepKeeps before after
step_keeps before after (to_coordinator_lem m later words part answer waits way says accepts) =
    record {
      same_accepted = refl;
      same_log = refl;
      same_logged = refl;
      same_counts = refl;
      no_fewer = omega (arith, length-append before.messages (received_out answer));
    }
step_keeps before after (to_site m later words answer waits way says accepts) = record {
  same_accepted = refl;
  same_log = refl;
  same_logged = refl;
  same_counts = refl;
  no_fewer = omega (arith, length-append before.messages (answered_out answer));
}
step_keeps before after (next_announcement words answer says accepts) = record {
  same_accepted = refl;
  same_log = refl;
  same_logged = refl;
  same_counts = refl;
  no_fewer = omega (arith, length-append before.messages (received_out answer));
}

-- Nothing waits and nothing is announced: no step of delivery.
pub none_when_quiet : {settings : Settings} (before : State)
    → before.waiting ≡ []
    → is_announcing before.held.coordinator.phase ≡ false
    → (after : State)
    → Delivers settings before after
    → ⊥
none_when_quiet before none silent after
    (to_coordinator_lem m later words part answer waits way says accepts) =
    let lengths : 0 ≡ suc (length later) = ap length (sym none ∙ waits) in
    omega arith
none_when_quiet before none silent after
    (to_site m later words answer waits way says accepts) =
    let lengths : 0 ≡ suc (length later) = ap length (sym none ∙ waits) in
    omega arith
none_when_quiet {settings} before none silent after
    (next_announcement words answer says accepts) =
    let held = before.held in
    let all-lent = announces_whole settings held.coordinator words held.coordinator_memory
    answer says accepts in
    false≢true (sym silent ∙ announces settings before answer all-lent accepts)

-- ---- In a history

module _ {settings : Settings} (passes : settings_refusal settings ≡ no_refusal) (before : State)
  where
    -- At rest nothing waits, and the model's run, at rest too, announces nothing.
    pub none_at_rest : Resting settings before
        → (after : State)
        → Delivers settings before after
        → ⊥
    none_at_rest rest =
        none_when_quiet before rest.nothing_waits
        (ap (λ (network : Network). is_announcing network.coordinator.phase) rest.network_is
        ∙ ap is_announcing (sound_run settings passes before.accepted).sound.idle)

    -- The invariant, one step of delivery further.
    pub delivered_ok : {n : ℕ} (ok : StateOk settings n before) (after : State)
        → Delivers settings before after
        → StateOk settings (suc n) after
    delivered_ok {n} ok after step = by_standing ok.standing
      where
        by_standing : Standing settings n before → StateOk settings (suc n) after
        by_standing (resting _ rest) = absurd (none_at_rest rest after step)
        by_standing (delivering mid) =
            let on = delivered_on passes before mid.underway after step in
            let keeps = step_keeps before after step in
            record {
              lengths = on.lengths;
              standing = delivering (record {
                front = mid.front;
                arrival = mid.arrival;
                is_draw_lem = mid.is_draw_lem;
                accepted_are = keeps.same_accepted ∙ mid.accepted_are;
                front_accepted = mid.front_accepted;
                underway = on;
              });
              counts_are =
                  keeps.same_counts
                  ∙ ok.counts_are
                  ∙ ap (counted_up none_counted) (sym keeps.same_log);
              log_named = subst (NamesBelow settings.sites) (sym keeps.same_log)
                  ok.log_named;
              log_length =
                  ap length keeps.same_log ∙ ok.log_length ∙ sym keeps.same_logged;
              logged_within =
                  omega (arith, keeps.same_logged, keeps.no_fewer, ok.logged_within);
            }
