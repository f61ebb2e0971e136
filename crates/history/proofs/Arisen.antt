-- Every state that a history reaches has the invariant: it holds after the two start calls and is
-- kept by every step, and by a closing; and what is held comes of what the start calls left. By
-- recursion on the history. PROOF.md section 9.
--
--   Arisen, arisen         the invariant, some steps after the last arrival
--   lasting                the same with a fresh start, and what is held from it
use mathlib.Core.Path.{◌≡◌, refl, sym, subst}
use Prim.Native.Nat.{ℕ}
use Rattle.model.specs.declared.Settings.{Settings}
use Rattle.model.specs.Refusals.{no_refusal}
use Rattle.model.specs.Settings.{settings_refusal}
use Rattle.history.specs.State.{State, AtRest, with_part}
use Rattle.history.specs.Steps.{batch, single, Step, arrives, delivers, refuses}
use Rattle.history.specs.Histories.{start_state, Reachable, started, stepped, reopened, held_at_start, delivered_by, delivered_in}
use Rattle.history.proofs.CallFronts.{start_says_whole, starts_whole}
use Rattle.history.proofs.Invariant.{StateOk, resting}
use Rattle.history.proofs.Accepted.{held_sound, resting_of}
use Rattle.history.proofs.StartedState.{start_ok, start_fresh}
use Rattle.history.proofs.BatchedState.{batch_ok}
use Rattle.history.proofs.LentBatch.{of_lent_batch}
use Rattle.history.proofs.SingleState.{single_ok}
use Rattle.history.proofs.DeliveredState.{delivered_ok}
use Rattle.history.proofs.Refused.{refused_same}
use Rattle.history.proofs.FromStart.{from_self, from_step}
use Rattle.history.proofs.Lasting.{Lasting}
use Rattle.history.proofs.Reopened.{lasting_reopened}

-- The invariant, some steps after the last arrival.
pub record Arisen (settings : Settings) (state : State) : Type 0 where
  pub steps : ℕ
  pub ok : StateOk settings steps state

module _ {settings : Settings} (passes : settings_refusal settings ≡ no_refusal) where
  -- ---- Each step

  -- At rest the last delivery is over.
  rest_ok : {n : ℕ} (state : State)
      → StateOk settings n state
      → AtRest state
      → StateOk settings 0 state
  rest_ok state ok rest = record {
    lengths = ok.lengths;
    standing = resting refl (resting_of passes ok rest);
    counts_are = ok.counts_are;
    log_named = ok.log_named;
    log_length = ok.log_length;
    logged_within = ok.logged_within;
  }

  step_ok : (n : ℕ) (before after : State)
      → StateOk settings n before
      → (step : Step settings before after)
      → StateOk settings (delivered_by step n) after
  step_ok n before after ok
      (arrives (batch site_count coordinator_count arrivals log answer rest says)) =
      of_lent_batch passes before ok rest site_count coordinator_count arrivals log answer says
      (StateOk settings 0) (rest_ok before ok rest)
      (batch_ok passes before ok rest arrivals log _)
  step_ok n before after ok
      (arrives (single arrival words part answer rest is_draw_lem says accepts)) =
      single_ok passes before ok rest arrival words part answer says is_draw_lem accepts
  step_ok n before after ok (delivers step) = delivered_ok passes before ok after step
  step_ok n before after ok (refuses step) =
      subst (StateOk settings n) (sym (refused_same before after step)) ok

  -- ---- Every history

  -- By recursion on it.
  pub lasting : (state : State) (reachable : Reachable settings state)
      → Lasting settings (held_at_start reachable) (delivered_in reachable) state
  lasting state
      (started site_memory site_count site_part sites memory count part coordinator
      sites-say sites_accepted coordinator-says coordinator_accepted) =
      let sitesThen = with_part site_memory 0 site_count site_part in
      let coordinatorThen = with_part memory 0 count part in
      let sites-whole = start_says_whole settings site_count site_memory site_part sites sites-say
      sites_accepted in
      let coordinator_whole = starts_whole settings count memory part coordinator
      coordinator-says coordinator_accepted in
      let ok = start_ok settings site_memory sitesThen memory coordinatorThen sites coordinator
      sites-whole sites_accepted coordinator_whole coordinator_accepted in
      record {
        ok = ok;
        fresh = start_fresh settings site_memory sitesThen memory coordinatorThen sites
            coordinator sites-whole sites_accepted coordinator_whole coordinator_accepted;
        from = from_self passes
            (start_state sites.sites coordinator.coordinator sitesThen coordinatorThen).held
            ok.lengths (held_sound passes ok).sites_sound;
      }
  lasting state (stepped before after earlier step) =
      let now = lasting before earlier in
      record {
        ok = step_ok (delivered_in earlier) before after now.ok step;
        fresh = now.fresh;
        from = from_step passes before now.ok (held_at_start earlier) now.from after step;
      }
  lasting state
      (reopened before site_count coordinator_count bytes written saved site_memory memory
      site_after
      after loaded earlier save_says save_accepted load_says load-accepted) =
      lasting_reopened passes before (held_at_start earlier) (lasting before earlier) site_count
      coordinator_count bytes written saved site_memory memory site_after after loaded save_says
      save_accepted load_says load-accepted

  -- The invariant alone.
  pub arisen : (state : State) → Reachable settings state → Arisen settings state
  arisen state reachable =
      record { steps = delivered_in reachable; ok = (lasting state reachable).ok }
