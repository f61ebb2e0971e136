-- Every draw of a site is reported, unreported or forgotten, in every state that arose (request
-- N1): no message changes what a site has counted and forgotten and no answer is a kind 1, so a
-- state in mid-delivery has what the rules' run over its arrivals has. PROOF.md section 12.
--
--   kept_same, reported_same    what no message changes, as the run has it
--   accounted_held              the claim of what is held
--   few_dropped                 so no site has forgotten more than arrived: never 11
use mathlib.Core.Path.{◌≡◌, sym, ap, ◌∙◌}
use Prim.Native.Nat.{ℕ, ◌<◌}
use native.Mathlib.Omega.{arith}
use Rattle.model.specs.declared.Settings.{Settings}
use Rattle.model.specs.Refusals.{no_refusal}
use Rattle.model.specs.Settings.{settings_refusal}
use Rattle.model.specs.Counters.{unreported_in}
use Rattle.model.specs.Site.{Site}
use Rattle.model.specs.Network.{Network, Delivered, site_at, delivery_fuel, after_arrival}
use Rattle.model.specs.Runs.{Run, run_of}
use Rattle.model.specs.SoundNetwork.{DroppedWithin}
use Rattle.model.specs.DeliveryClaims.{delivery}
use Rattle.forgotten.specs.Departures.{departures, reported_at, count_at, Accounted}
use Rattle.model.proofs.Soundness.NeverFewer.{Kept, counters_kept, arrivals_kept, dropped_kept}
use Rattle.forgotten.proofs.Reported.{reported_at_append, steps_report}
use Rattle.forgotten.proofs.DroppedTheorem.{dropped_claims}
use Rattle.history.specs.State.{State, network_of}
use Rattle.history.proofs.Underway.{in_mid, kept_underway}
use Rattle.history.proofs.Invariant.{Standing, resting, delivering, run_then, run_of_standing}

module _ {settings : Settings} (passes : settings_refusal settings ≡ no_refusal)
    {n : ℕ} {state : State}
  where
    -- What the delivery comes to has the same, and that is the run.
    pub kept_same : {A : Type 0} {of : Site → A}
        → Kept of
        → Standing settings n state
        → (j : ℕ)
        → of (site_at (network_of settings state.held) j)
        ≡ of (site_at (run_of settings state.accepted).network j)
    kept_same {of = of} kept (resting _ rest) j =
        ap (λ (network : Network). of (site_at network j)) rest.network_is
    kept_same {of = of} kept (delivering mid) j =
        kept_underway passes mid.underway kept j
        ∙ ap (λ (run : Run). of (site_at run.network j)) (sym (run_then passes mid))

    -- An amount counts as sent when its kind 1 goes out, and that is at the arrival.
    pub reported_same : Standing settings n state
        → (j : ℕ)
        → reported_at j state.messages
        ≡ reported_at j (run_of settings state.accepted).messages
    reported_same (resting _ rest) j = ap (reported_at j) rest.messages_are
    reported_same (delivering mid) j =
        let before = run_of settings mid.front in
        let log = mid.underway.log in
        let here = delivery (network_of settings state.held) state.waiting log in
        let final = (after_arrival settings before.network mid.arrival).messages in
        omega (
          arith,
          ap (reported_at j) mid.underway.messages_are,
          reported_at_append j before.messages log,
          steps_report j settings (delivery_fuel settings) here,
          ap (λ (d : Delivered). reported_at j d.messages)
              (in_mid passes mid.underway).finishes,
          ap (λ (run : Run). reported_at j run.messages) (run_then passes mid),
          reported_at_append j before.messages final,
        )

    pub accounted_held : Standing settings n state
        → (j : ℕ) → j < settings.sites
        → Accounted j state.accepted (departures settings state.accepted) state.messages
        (site_at (network_of settings state.held) j)
    accounted_held standing j known =
        let run = run_of settings state.accepted in
        let there = dropped_claims.run_accounted settings state.accepted passes j known in
        let same_counters = ap unreported_in (kept_same counters_kept standing j) in
        let same_arrivals = kept_same arrivals_kept standing j in
        let same_dropped = kept_same dropped_kept standing j in
        record {
          all_draws =
              omega (
                arith,
                there.all_draws,
                reported_same standing j,
                same_counters,
                same_arrivals,
                same_dropped,
              );
          dropped_are = same_dropped ∙ there.dropped_are;
          draws_are =
              same_arrivals
              ∙ there.draws_are
              ∙ ap (count_at j) (run_of_standing passes standing).accepted_are;
        }

    pub few_dropped : Standing settings n state
        → (j : ℕ) → j < settings.sites
        → DroppedWithin (site_at (network_of settings state.held) j)
    few_dropped standing j known = omega (arith, (accounted_held standing j known).all_draws)
