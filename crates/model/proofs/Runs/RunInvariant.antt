-- What holds between arrivals holds after every run from a fresh start; and its messages are few
-- (PROOF.md section 6, "Conclusion").
--
--   run_ok                after every list of arrivals
--   messages_of_ok        demand 3's three bounds on messages
--   firm_messages_of_ok   and the firmer one
use mathlib.Core.Path.{◌≡◌, refl}
use mathlib.Core.Bool.{Bool, true, false}
use mathlib.Core.List.{List, [], ◌∷◌}
use Prim.Native.Nat.{◌+◌, ◌*◌, ◌≤◌}
use native.Mathlib.Nat.{le-div_iff_mul-le}
use native.Mathlib.Omega.{arith}
use lib.ListN.{length}
use Rattle.model.specs.declared.Settings.{Settings}
use Rattle.model.specs.declared.Arrival.{Arrival}
use Rattle.model.specs.Limits.{allowance_factor}
use Rattle.model.specs.Settings.{digits}
use Rattle.model.specs.Network.{site_at}
use Rattle.model.specs.Runs.{is_taken_in, Run, fresh_run, run_one, run_from, run_of}
use Rattle.model.specs.Claims.{counted, FewMessages, FirmMessages}
use Rattle.model.proofs.Thresholds.SettingsLaws.{Settled}
use Rattle.model.proofs.MessageCount.RoundBounds.{messages_firm, messages_few, messages_per_arrival_lem}
use Rattle.model.proofs.BetweenArrivals.SitesInvariant.{few_pending}
use Rattle.model.proofs.BetweenArrivals.NetworkInvariant.{network_fresh, known_of_no_refusal}
use Rattle.model.proofs.BetweenArrivals.NetworkClose.{network_ok_arrival}
use Rattle.model.proofs.BetweenArrivals.EstimateBounds.{RunOk}
use Rattle.model.proofs.Touches.DrawLaws.{taken_accepted}

module _ {settings : Settings} (fit : Settled settings) where
  -- An arrival that is not taken changes nothing.
  run_ok_one : (run : Run) (arrival : Arrival)
      → RunOk settings run
      → RunOk settings (run_one settings run arrival)
  run_ok_one run arrival ok = by_test (is_taken_in settings run.network arrival) refl
    where
      by_test : (taken : Bool) → is_taken_in settings run.network arrival ≡ taken
          → RunOk settings (run_one settings run arrival)
      by_test true taken =
          rw taken (network_ok_arrival fit ok arrival
          (known_of_no_refusal settings (site_at run.network arrival.site) arrival
          (taken_accepted arrival _ taken)))
      by_test false left = rw left ok

  run_ok_from : (run : Run) (arrivals : List Arrival)
      → RunOk settings run
      → RunOk settings (run_from settings run arrivals)
  run_ok_from run [] ok = ok
  run_ok_from run (arrival ∷ arrivals) ok =
      run_ok_from (run_one settings run arrival) arrivals (run_ok_one run arrival ok)

  -- From a fresh start, after every list of arrivals.
  pub run_ok : (arrivals : List Arrival) → RunOk settings (run_of settings arrivals)
  run_ok arrivals = run_ok_from (fresh_run settings) arrivals (network_fresh settings fit)

-- ---- Messages

module _ {settings : Settings} {run : Run} (fit : Settled settings) (ok : RunOk settings run) where
  signals_le : run.network.coordinator.signals ≤ settings.sites
  signals_le = omega (arith, ok.few_signals)

  times_epsilon : settings.epsilon * length run.messages
      ≤ allowance_factor settings * (settings.sites * (digits (counted run.accepted) + 1))
  times_epsilon =
      omega (
        arith,
        messages_few fit.epsilon.at_most ok.account signals_le (few_pending ok.sites_ok),
      )

  -- The three bounds on messages.
  pub messages_of_ok : FewMessages settings run
  messages_of_ok = record {
    within_digits = omega (arith, times_epsilon);
    per_arrival =
        omega (
          arith,
          messages_per_arrival_lem fit.epsilon.at_most ok.account signals_le
              (few_pending ok.sites_ok),
        );
    within_allowance =
        (le-div_iff_mul-le {k = settings.epsilon} (omega (arith, fit.epsilon.at_least))).1
        (omega (arith, times_epsilon));
  }

  -- The firmer bound over the digits.
  pub firm_messages_of_ok : FirmMessages settings run
  firm_messages_of_ok = record {
    within_later_digits =
        omega (
          arith,
          messages_firm fit.epsilon.at_most ok.account signals_le
              (few_pending ok.sites_ok),
        );
  }
