-- Every draw of a site is reported, unreported or forgotten, after every list of arrivals from a
-- fresh start.
--
--   RunAccounted     a sound network, and every draw of each of its sites accounted for
--   accounted_run    after every list of arrivals
use mathlib.Core.Path.{◌≡◌, refl, sym, subst}
use mathlib.Core.Bool.{Bool, true, false}
use mathlib.Core.List.{List, [], ◌∷◌, ◌++◌, append_assoc, append-nil}
use Prim.Native.Nat.{ℕ, ◌<◌}
use native.Mathlib.Omega.{arith}
use Rattle.laws.proofs.Lists.{get_d_replicate_default}
use Rattle.model.specs.declared.Settings.{Settings}
use Rattle.model.specs.declared.Arrival.{Arrival}
use Rattle.model.specs.Refusals.{no_refusal}
use Rattle.model.specs.Settings.{settings_refusal}
use Rattle.model.specs.Site.{Site, fresh_site}
use Rattle.model.specs.Network.{site_at, after_arrival}
use Rattle.model.specs.Runs.{refusal_in, is_taken_in, Run, fresh_run, with_arrival, run_from, run_of}
use Rattle.model.specs.SoundNetwork.{Sound}
use Rattle.forgotten.specs.Departures.{Departure, departure_of, departures_from, departures, Accounted}
use Rattle.model.proofs.Touches.DrawLaws.{taken_accepted}
use Rattle.mid_delivery.proofs.Soundness.SoundTheorem.{sound_claims}
use Rattle.forgotten.proofs.Reported.{reported_at_append}
use Rattle.forgotten.proofs.Accounting.{dropped_at_append, count_at_append, moves}

-- A sound network, and every draw of each of its sites accounted for.
pub record RunAccounted (settings : Settings) (departed : List Departure) (run : Run) : Type 0 where
  pub sound : Sound settings run.network
  pub accounted : (j : ℕ) → j < settings.sites
      → Accounted j run.accepted departed run.messages (site_at run.network j)

module _ (settings : Settings) (passes : settings_refusal settings ≡ no_refusal) where
  -- Nothing drawn, nothing sent.
  accounted_fresh : RunAccounted settings [] (fresh_run settings)
  accounted_fresh = record {
    sound = sound_claims.fresh_sound settings passes;
    accounted = λ j j<.
        let fresh = get_d_replicate_default {A = Site} fresh_site settings.sites j in
        subst (Accounted j [] [] []) (sym fresh) (record {
          all_draws = refl;
          dropped_are = refl;
          draws_are = refl;
        });
  }

  -- One accepted arrival more.
  accounted_more : (run : Run) (departed : List Departure) (arrival : Arrival)
      → refusal_in settings run.network arrival ≡ no_refusal
      → RunAccounted settings departed run
      → RunAccounted settings (departed ++ departure_of settings run.network arrival)
      (with_arrival settings run arrival)
  accounted_more run departed arrival taken ok = record {
    sound = sound_claims.arrival_sound settings run.network arrival passes ok.sound taken;
    accounted = λ j j<.
        let here = ok.accounted j j< in
        let more = moves settings run.network arrival passes ok.sound taken j in
        let messages = (after_arrival settings run.network arrival).messages in
        record {
          all_draws =
              omega (
                arith,
                here.all_draws,
                more.draws_move,
                reported_at_append j run.messages messages,
              );
          dropped_are =
              omega (
                arith,
                here.dropped_are,
                more.dropped_moves,
                dropped_at_append j departed (departure_of settings run.network arrival),
              );
          draws_are =
              omega (
                arith,
                here.draws_are,
                more.arrivals_move,
                count_at_append j run.accepted (arrival ∷ []),
              );
        };
  }

  accounted_from : (run : Run) (departed : List Departure) (arrivals : List Arrival)
      → RunAccounted settings departed run
      → RunAccounted settings (departed ++ departures_from settings run arrivals)
      (run_from settings run arrivals)
  accounted_from run departed [] ok =
      subst (λ (all : List Departure). RunAccounted settings all run)
      (sym (append-nil departed)) ok
  accounted_from run departed (arrival ∷ arrivals) ok =
      by_test (is_taken_in settings run.network arrival) refl
      (λ after all then_ok. accounted_from after all arrivals then_ok)
    where
      by_test : (accepts : Bool)
          → is_taken_in settings run.network arrival ≡ accepts
          → ((after : Run) (all : List Departure)
          → RunAccounted settings all after
          → RunAccounted settings (all ++ departures_from settings after arrivals)
          (run_from settings after arrivals))
          → RunAccounted settings
          (departed ++ departures_from settings run (arrival ∷ arrivals))
          (run_from settings run (arrival ∷ arrivals))
      by_test true accepts later =
          let one = departure_of settings run.network arrival in
          let none = taken_accepted arrival _ accepts in
          rw accepts
          (subst
          (λ (all : List Departure).
          RunAccounted settings all
          (run_from settings (with_arrival settings run arrival) arrivals))
          (append_assoc departed one
          (departures_from settings (with_arrival settings run arrival) arrivals))
          (later (with_arrival settings run arrival) (departed ++ one)
          (accounted_more run departed arrival none ok)))
      by_test false left later = rw left (later run departed ok)

  -- After every list of arrivals.
  pub accounted_run : (arrivals : List Arrival)
      → RunAccounted settings (departures settings arrivals) (run_of settings arrivals)
  accounted_run arrivals = accounted_from (fresh_run settings) [] arrivals accounted_fresh
