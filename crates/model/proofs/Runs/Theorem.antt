-- Demands 2 and 3 over every list of arrivals, put together from the invariant of runs.
use mathlib.Core.Path.{◌≡◌}
use mathlib.Core.List.{List}
use Prim.Native.Nat.{ℕ}
use lib.ListN.{take}
use Rattle.model.specs.declared.Settings.{Settings}
use Rattle.model.specs.declared.Arrival.{Arrival}
use Rattle.model.specs.Refusals.{no_refusal}
use Rattle.model.specs.Settings.{settings_refusal}
use Rattle.model.specs.Runs.{run_of}
use Rattle.model.specs.Claims.{counted, Estimates, Tracks, FirmQuantile, ListSize, FewMessages, FirmMessages, BeforeDraws, AfterEach, DemandsOverRuns}
use Rattle.model.proofs.Thresholds.SettingsLaws.{Settled, settled}
use Rattle.model.proofs.BetweenArrivals.EstimateBounds.{RunOk, estimates_of_ok}
use Rattle.model.proofs.BetweenArrivals.HeavyHitters.{heavy_of_estimates, light_of_estimates}
use Rattle.model.proofs.BetweenArrivals.QuantileBounds.{quantile_of_ok, firm_quantile_of_ok}
use Rattle.model.proofs.Runs.RunInvariant.{run_ok, messages_of_ok, firm_messages_of_ok}
use Rattle.model.proofs.BetweenArrivals.ListLaws.{list_law}
use Rattle.model.proofs.BetweenArrivals.ListSize.{list_size_of_estimates}
use Rattle.model.proofs.Runs.RunLaws.{runs_cut}
use Rattle.model.proofs.Touches.DrawLists.{draws_above_zero}
use Rattle.model.proofs.Touches.BeforeDraws.{before_draws_of}

module _ (settings : Settings) (arrivals : List Arrival)
    (passes : settings_refusal settings ≡ no_refusal) where
  fit : Settled settings
  fit = settled settings passes

  holds : RunOk settings (run_of settings arrivals)
  holds = run_ok fit arrivals

  near : Estimates settings (run_of settings arrivals)
  near = estimates_of_ok fit holds

  tracks : Tracks settings (run_of settings arrivals)
  tracks = record {
    heavy_listed = heavy_of_estimates fit near;
    light_unlisted = light_of_estimates fit near;
    quantile_within = quantile_of_ok fit holds;
    at_rest = holds.idle;
  }

  few_messages : FewMessages settings (run_of settings arrivals)
  few_messages = messages_of_ok fit holds

  firm_messages_lem : FirmMessages settings (run_of settings arrivals)
  firm_messages_lem = firm_messages_of_ok fit holds

  firm_quantile : FirmQuantile settings (run_of settings arrivals)
  firm_quantile =
      firm_quantile_of_ok fit holds
      (draws_above_zero (run_of settings arrivals).accepted
      (runs_cut settings arrivals).accepted_drawn)

  list_size : ListSize settings (run_of settings arrivals)
  list_size = list_size_of_estimates fit near

  before_draws : counted (run_of settings arrivals).accepted ≡ 0
      → BeforeDraws settings (run_of settings arrivals)
  before_draws none =
      before_draws_of settings none near few_messages tracks.quantile_within

after_each : (settings : Settings) (arrivals : List Arrival) (n : ℕ)
    → settings_refusal settings ≡ no_refusal
    → AfterEach settings arrivals n
after_each settings arrivals n passes = record {
  those_accepted = (runs_cut settings arrivals).fronts_accepted n;
  tracks = tracks settings (take n (run_of settings arrivals).accepted) passes;
  few_messages = few_messages settings (take n (run_of settings arrivals).accepted) passes;
}

-- The whole, for all settings that pass and all lists of arrivals.
pub demands_over_runs : DemandsOverRuns
demands_over_runs = record {
  tracks = tracks;
  firm_quantile = firm_quantile;
  few_messages = few_messages;
  firm_messages_lem = firm_messages_lem;
  estimates_near = near;
  list_law = list_law;
  list_size = list_size;
  before_draws = before_draws;
  cuts = runs_cut;
  after_each = after_each;
}
