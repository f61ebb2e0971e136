-- A session that stands for a run is a state of a history, at rest: what the histories' laws say
-- holds of it.
--
--   state, state_rest, state_ok, state_at_rest   the state, and that it is one of a history
use mathlib.Core.Path.{refl, ap, ◌∙◌}
use mathlib.Core.List.{List, []}
use Prim.Native.Nat.{ℕ}
use native.Mathlib.Omega.{arith}
use lib.ListN.{length}
use Rattle.model.specs.declared.Arrival.{Arrival}
use Rattle.model.specs.Network.{Network}
use Rattle.model.specs.Runs.{Run, run_of}
use Rattle.history.specs.State.{State, AtRest}
use Rattle.history.proofs.RunSound.{sound_run, run_names}
use Rattle.history.proofs.Invariant.{StateOk, Resting, resting}
use Rattle.drawtrack_steps.specs.declared.Session.{Session}
use Rattle.drawtrack_steps.specs.Outcome.{held_of}
use Rattle.drawtrack_course.specs.Course.{Represents}

abbrev pub run_after : Session → List Arrival → Run
run_after session arrivals = run_of session.settings arrivals

abbrev pub state : Session → List ℕ → List ℕ → List Arrival → State
state session site_memory coordinator_memory arrivals = record {
  held = held_of session site_memory coordinator_memory;
  waiting = [];
  accepted = arrivals;
  messages = (run_after session arrivals).messages;
  log = (run_after session arrivals).messages;
  logged = length (run_after session arrivals).messages;
}

module _ {session : Session} {site_memory coordinator_memory : List ℕ} {arrivals : List Arrival}
    (stands : Represents session site_memory coordinator_memory arrivals) where
  abbrev here : State
  here = state session site_memory coordinator_memory arrivals

  pub state_rest : Resting session.settings here
  state_rest = record {
    nothing_waits = refl;
    accepted_are = stands.accepted_are;
    network_is = stands.network_is;
    messages_are = refl;
  }

  pub state_ok : StateOk session.settings 0 here
  state_ok = record {
    lengths = record {
      all_records = stands.all_records;
      sites_long = stands.sites_long;
      coordinator_long = stands.coordinator_long;
    };
    standing = resting refl state_rest;
    counts_are = stands.counts_are;
    log_named = run_names session.settings stands.settings_accepted arrivals;
    log_length = refl;
    logged_within = omega arith;
  }

  pub state_at_rest : AtRest here
  state_at_rest = record {
    nothing_waits = refl;
    idle =
        ap (λ (network : Network). network.coordinator.phase) stands.network_is
        ∙ (sound_run session.settings stands.settings_accepted arrivals).sound.idle;
  }
