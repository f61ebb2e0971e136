-- The three demands hold of every history of calls: each follows from the invariant, which every
-- reachable state has (crate `history`, Arisen.antt), and from the claims over runs. PROOF.md
-- section 9.
--
--   demands     the theorem
use mathlib.Core.Path.{◌≡◌, sym, ap, ◌∙◌, subst}
use mathlib.Core.List.{List}
use Prim.Native.Nat.{ℕ, ◌+◌, ◌-◌, ◌*◌, ◌≤◌}
use native.Mathlib.Nat.{mul-le-mul_left}
use native.Mathlib.Omega.{arith}
use lib.ListN.{length, take, drop, length-append, take-append-drop}
use lib.Seq.{take-append_seam}
use Rattle.model.specs.declared.Settings.{Settings}
use Rattle.model.specs.declared.Arrival.{Arrival}
use Rattle.model.specs.Refusals.{no_refusal}
use Rattle.model.specs.Limits.{most_steps, messages_per_arrival, allowance_factor, firm_messages, firm_messages_per_digit}
use Rattle.model.specs.Settings.{settings_refusal, digits, allowance}
use Rattle.model.specs.Site.{Site}
use Rattle.model.specs.Network.{Network, site_at}
use Rattle.model.specs.Runs.{Run, run_of}
use Rattle.model.specs.Claims.{counted, FewMessages}
use Rattle.forgotten.specs.Departures.{departures, Accounted}
use Rattle.model.proofs.Runs.Theorem.{demands_over_runs}
use Rattle.forgotten.proofs.DroppedTheorem.{dropped_claims}
use Rattle.history.specs.State.{State, network_written}
use Rattle.history.specs.Histories.{Reachable, held_at_start, delivered_in}
use Rattle.history.proofs.Invariant.{BeginsRun, run_of_standing, firm_of_standing}
use Rattle.history.proofs.Decoded.{site_is}
use Rattle.history.proofs.Accounts.{accounted_held}
use Rattle.history.proofs.Accepted.{held_sound, resting_of, sound_rest_of}
use Rattle.history.proofs.Refused.{refused_same}
use Rattle.history.proofs.Kept.{tails_kept, others_kept}
use Rattle.history.proofs.FromStart.{held_whole}
pub use Rattle.history.proofs.Arisen.{Arisen, arisen}
use Rattle.history.proofs.Arisen.{lasting}
use Rattle.demands.specs.Reading.{FirmShare}
use Rattle.demands.specs.First.{First}
use Rattle.demands.specs.Second.{Second}
use Rattle.demands.specs.Whole.{logged_counts, Whole}
use Rattle.demands.specs.Third.{Third}
use Rattle.demands.specs.Dropped.{Dropped}
use Rattle.demands.specs.Closing.{Closing}
use Rattle.demands.specs.Demands.{Demands}
use Rattle.demands.proofs.AcceptedClaims.{memory_accepted, refused_by_rules}
use Rattle.demands.proofs.GoesOnClaims.{delivery_goes_on}
use Rattle.demands.proofs.FirmShares.{listed_firm}
use Rattle.demands.proofs.Readings.{reads_right}
use Rattle.demands.proofs.FewFollow.{few_follow}
use Rattle.demands.proofs.Counts.{counted_of}
use Rattle.demands.proofs.OneTouch.{others_left, touch_or_draw}
use Rattle.demands.proofs.Closings as Closings
use Rattle.demands.proofs.GivenDraws.{as_given}
use Rattle.demands.proofs.KeptOut.{nothing_lost}
use Rattle.demands.proofs.CallWithout.{says_without}
use Rattle.demands.proofs.LeftOut.{left_out}

-- ---- Each demand

module _ (settings : Settings) (state : State) (passes : settings_refusal settings ≡ no_refusal)
    (reachable : Reachable settings state) where
  there : Arisen settings state
  there = arisen passes state reachable

  first : First settings state
  first = record {
    memory_accepted = memory_accepted passes there.ok;
    refused_by_rules = refused_by_rules passes there.ok;
    refused_changes_nothing = λ after step. refused_same state after step;
    delivery_goes_on = delivery_goes_on passes there.ok;
  }

  begins : BeginsRun settings state
  begins = run_of_standing passes there.ok.standing

  abbrev run : Run
  run = run_of settings state.accepted

  -- Each front of the arrivals accepted is accepted again, one and all.
  fronts : (n : ℕ)
      → (run_of settings (take n state.accepted)).accepted ≡ take n state.accepted
  fronts n =
      subst (λ (arrivals : List Arrival).
      (run_of settings (take n arrivals)).accepted ≡ take n arrivals)
      begins.accepted_are
      ((demands_over_runs.cuts settings state.accepted).fronts_accepted n)

  second : Second settings state
  second = record {
    at_rest = λ rest.
        let as_run = resting_of passes there.ok rest in
        record {
          network_is = as_run.network_is;
          messages_are = as_run.messages_are;
          reads_right = reads_right passes there.ok as_run;
        };
    messages_begin =
        sym (ap (take (length state.messages)) begins.messages_are
        ∙ take-append_seam state.messages begins.later);
    accepted_are = begins.accepted_are;
    fronts_accepted = fronts;
    messages_after_each = λ n.
        let front = (run_of settings (take n state.accepted)).messages in
        ap (λ (arrivals : List Arrival). take (length front) (run_of settings arrivals).messages)
        (sym (take-append-drop n state.accepted))
        ∙ (demands_over_runs.cuts settings (take n state.accepted)).messages_stay
        (drop n state.accepted);
    tracks_after_each = λ n.
        demands_over_runs.tracks settings (take n state.accepted) passes;
    estimates_after_each = λ n.
        demands_over_runs.estimates_near settings (take n state.accepted) passes;
    firm_after_each = λ n item holds.
        subst (FirmShare settings item) (fronts n)
        (listed_firm settings passes (take n state.accepted) item holds);
    tails_kept = tails_kept passes state there.ok;
    others_kept = λ arrival words part answer rest says accepts.
        touch_or_draw arrival
        (others_left settings state arrival words part answer says)
        (λ is_draw_lem.
        others_kept passes state (sound_rest_of passes there.ok rest) arrival words part answer
        says is_draw_lem accepts);
  }

  whole : Whole settings (held_at_start reachable) state
  whole =
      let kept = lasting passes state reachable in
      let now = held_whole passes state kept.ok (held_at_start reachable) kept.from in
      record {
        start_fresh = kept.fresh;
        nothing_else = now;
        whole_at_rest = λ rest.
            now
            ∙ ap (λ (network : Network).
            network_written settings (held_at_start reachable) network (logged_counts state))
            (resting_of passes there.ok rest).network_is;
      }

  -- The messages so far are no more than those of the run.
  no_more : length state.messages ≤ length run.messages
  no_more =
      omega (
        arith,
        ap length begins.messages_are,
        length-append state.messages begins.later,
      )

  few : FewMessages settings run
  few = demands_over_runs.few_messages settings state.accepted passes

  within_digits : settings.epsilon * length state.messages
      ≤ allowance_factor settings * (settings.sites * (digits (counted state.accepted) + 1))
  within_digits =
      let of-run = subst (λ (arrivals : List Arrival).
      settings.epsilon * length run.messages
      ≤ allowance_factor settings * (settings.sites * (digits (counted arrivals) + 1)))
      begins.accepted_are few.within_digits in
      omega (arith, mul-le-mul_left settings.epsilon no_more, of-run)

  per_arrival : length state.messages ≤ messages_per_arrival settings * counted state.accepted
  per_arrival =
      let of-run = subst (λ (arrivals : List Arrival).
      length run.messages ≤ messages_per_arrival settings * counted arrivals)
      begins.accepted_are few.per_arrival in
      omega (arith, no_more, of-run)

  within_allowance : length state.messages ≤ allowance settings (counted state.accepted)
  within_allowance =
      let of-run = subst (λ (arrivals : List Arrival).
      length run.messages ≤ allowance settings (counted arrivals))
      begins.accepted_are few.within_allowance in
      omega (arith, no_more, of-run)

  within_later_digits : settings.epsilon * length state.messages
      ≤ firm_messages settings * settings.sites
      + firm_messages_per_digit settings * (settings.sites * (digits (counted state.accepted) - 2))
  within_later_digits =
      let of-run = subst (λ (arrivals : List Arrival).
      settings.epsilon * length run.messages
      ≤ firm_messages settings * settings.sites
      + firm_messages_per_digit settings * (settings.sites * (digits (counted arrivals) - 2)))
      begins.accepted_are
      (demands_over_runs.firm_messages_lem settings state.accepted passes
      ).within_later_digits in
      omega (arith, mul-le-mul_left settings.epsilon no_more, of-run)

  third : Third settings state
  third =
      record {
        within_digits = within_digits;
        per_arrival = per_arrival;
        within_allowance = within_allowance;
        within_later_digits = within_later_digits;
        few_messages_after_each = λ n.
            demands_over_runs.few_messages settings (take n state.accepted) passes;
        firm_messages_after_each = λ n.
            demands_over_runs.firm_messages_lem settings (take n state.accepted) passes;
        few_follow = few_follow settings passes state.accepted;
        counts =
            counted_of passes there.ok within_digits per_arrival within_allowance
            within_later_digits;
      }

  -- Every draw is reported, unreported or forgotten.
  dropped : Dropped settings state
  dropped =
      let held = accounted_held passes there.ok.standing in
      let read_at = site_is passes state.held there.ok.lengths
      (held_sound passes there.ok).sites_sound in
      record {
        accounted = held;
        record_says = λ j known.
            sym (ap (λ (site : Site). site.dropped) (read_at j known)) ∙ (held j known).dropped_are;
        record_draws = λ j known.
            sym (ap (λ (site : Site). site.arrivals) (read_at j known)) ∙ (held j known).draws_are;
        accounted_after_each = λ n j known.
            subst
            (λ (arrivals : List Arrival).
            Accounted j arrivals (departures settings (take n state.accepted))
            (run_of settings (take n state.accepted)).messages
            (site_at (run_of settings (take n state.accepted)).network j))
            (fronts n)
            (dropped_claims.run_accounted settings (take n state.accepted) passes j known);
      }

  -- It can be closed, and is the same when it is opened again.
  closing : Closing settings state
  closing =
      Closings.closing passes state (held_at_start reachable) (lasting passes state reachable)

  -- A delivery has few steps, closed in between or not.
  few_steps : delivered_in reachable ≤ most_steps settings
  few_steps = firm_of_standing passes (lasting passes state reachable).ok.standing

-- The three demands.
pub demands : Demands
demands = record {
  first = first;
  second = second;
  whole = whole;
  third = third;
  dropped = dropped;
  given = λ settings state passes reachable. as_given passes state reachable;
  touches = left_out;
  batch_touches = says_without;
  closing = closing;
  few_steps = few_steps;
  nothing_lost = λ settings before after step. nothing_lost step;
}
