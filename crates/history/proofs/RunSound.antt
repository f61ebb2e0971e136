-- The network of every run from a fresh start is sound, and its numbers are far below the limits of
-- refusal 11. PROOF.md section 9, "Never 11".
--
--   SoundRun settings network     sound, and grown from a fresh network
--   sound_run                     after every list of arrivals
--   within_of_run                 the coordinator's numbers are within the limit
--   messages_within               n and the messages of a run
--   run_names                     each of them names one of the k sites
-- Letters: n arrivals, k sites.
use mathlib.Core.Path.{◌≡◌, refl}
use mathlib.Core.Bool.{Bool, true, false}
use mathlib.Core.List.{List, [], ◌∷◌}
use Prim.Native.Nat.{ℕ, zero, suc, ◌≤◌}
use native.Mathlib.Omega.{arith}
use lib.ListN.{length, replicate}
use Rattle.laws.proofs.Lists.{get_d_replicate_default}
use Rattle.model.specs.declared.Settings.{Settings}
use Rattle.model.specs.declared.Arrival.{Arrival}
use Rattle.model.specs.Refusals.{no_refusal}
use Rattle.model.specs.Limits.{value_count, most_arrivals, message_limit}
use Rattle.model.specs.Settings.{settings_refusal}
use Rattle.model.specs.Site.{fresh_site}
use Rattle.model.specs.Network.{Network, site_at, fresh_network}
use Rattle.model.specs.NetworkMemory.{all_arrivals}
use Rattle.model.specs.Runs.{is_taken_in, Run, fresh_run, run_one, run_from, run_of}
use Rattle.model.specs.SoundNetwork.{Sound}
use Rattle.model.specs.NumberClaims.{all_unreported, Grown}
use Rattle.model.proofs.Thresholds.SettingsLaws.{Settled, settled}
use Rattle.model.proofs.Deliveries.ClosedSites.{sum_below_all_arrivals}
use Rattle.model.proofs.Runs.RunInvariant.{run_ok}
use Rattle.model.proofs.Touches.DrawLaws.{taken_accepted}
use Rattle.model.proofs.MessageCount.CountLaws.{NamesBelow, names_none, names_append}
use Rattle.model.proofs.Soundness.SoundSites.{taken_of_no_refusal}
use Rattle.mid_delivery.proofs.Soundness.SoundTheorem.{sound_claims, names_after}
use Rattle.mid_delivery.proofs.Numbers.NumberBounds.{arrivals_few}
use Rattle.mid_delivery.proofs.Numbers.NumberTheorem.{number_claims, grown_self, grown_more}
use Rattle.model.proofs.Soundness.ConsistentCoordinator.{CoordinatorWithin}
use Rattle.model.proofs.Runs.Theorem.{demands_over_runs}

-- A sound network that grew from a fresh one.
pub record SoundRun (settings : Settings) (network : Network) : Type 0 where
  pub sound : Sound settings network
  pub grown : Grown (fresh_network settings) network

module _ (settings : Settings) (passes : settings_refusal settings ≡ no_refusal) where
  -- ---- Every run

  -- An arrival that is not taken changes nothing; one that is leaves a sound network, grown by one.
  sound_run_one : (run : Run) (arrival : Arrival)
      → SoundRun settings run.network
      → SoundRun settings (run_one settings run arrival).network
  sound_run_one run arrival ok =
      by_test (is_taken_in settings run.network arrival) refl
    where
      by_test : (taken : Bool) → is_taken_in settings run.network arrival ≡ taken
          → SoundRun settings (run_one settings run arrival).network
      by_test true taken =
          let none = taken_accepted arrival _ taken in
          rw taken (record {
            sound = sound_claims.arrival_sound settings run.network arrival passes
                ok.sound none;
            grown = grown_more ok.grown
                (number_claims.arrival_grows settings run.network arrival passes ok.sound
                none);
          })
      by_test false left = rw left ok

  sound_run_from : (run : Run) (arrivals : List Arrival)
      → SoundRun settings run.network
      → SoundRun settings (run_from settings run arrivals).network
  sound_run_from run [] ok = ok
  sound_run_from run (arrival ∷ arrivals) ok =
      sound_run_from (run_one settings run arrival) arrivals (sound_run_one run arrival ok)

  -- Of every list of arrivals, accepted or not.
  pub sound_run : (arrivals : List Arrival) → SoundRun settings (run_of settings arrivals).network
  sound_run arrivals =
      sound_run_from (fresh_run settings) arrivals
      (record {
        sound = sound_claims.fresh_sound settings passes;
        grown = grown_self (fresh_network settings);
      })

  -- ---- Numbers within the limit

  nothing_unreported : (k : ℕ) → all_unreported (replicate k fresh_site) ≡ 0
  nothing_unreported zero = refl
  nothing_unreported (suc k) = omega (arith, nothing_unreported k)

  fit : Settled settings
  fit = settled settings passes

  -- No estimate and no value count is above all arrivals, which are within the limit.
  pub within_of_run : (network : Network) → SoundRun settings network
      → CoordinatorWithin network.coordinator
  within_of_run network ok =
      let fresh = fresh_network settings in
      let few : all_arrivals network.sites ≤ most_arrivals = arrivals_few fit ok.sound in
      record {
        estimates_within = λ item.
            omega (
              arith,
              few,
              ok.grown.estimate_grows item,
              nothing_unreported settings.sites,
              get_d_replicate_default {A = ℕ} 0 settings.universe item,
            );
        values_within = λ value.
            omega (
              arith,
              few,
              ok.grown.value_grows value,
              get_d_replicate_default {A = ℕ} 0 value_count value,
            );
        total_within = omega (arith, few, ok.sound.all_counted);
        sum_within = rw ok.sound.idle (omega arith);
      }

  -- n is all arrivals of all sites, and so many times their most is within the limit.
  pub messages_within : (arrivals : List Arrival)
      → length (run_of settings arrivals).messages ≤ message_limit
  messages_within arrivals =
      let sites = (run_of settings arrivals).network.sites in
      let sites_ok = (run_ok fit arrivals).sites_ok in
      omega (
        arith,
        (demands_over_runs.few_messages settings arrivals passes).per_arrival,
        sites_ok.arrivals_add_up,
        sum_below_all_arrivals settings sites sites_ok.all_sites,
        arrivals_few fit (sound_run arrivals).sound,
      )

  -- ---- The sites that messages name

  -- What an arrival sends names sites of the network.
  run_names_one : (run : Run) (arrival : Arrival)
      → SoundRun settings run.network
      → NamesBelow settings.sites run.messages
      → NamesBelow settings.sites (run_one settings run arrival).messages
  run_names_one run arrival ok named =
      by_test (is_taken_in settings run.network arrival) refl
    where
      by_test : (taken : Bool) → is_taken_in settings run.network arrival ≡ taken
          → NamesBelow settings.sites (run_one settings run arrival).messages
      by_test true taken =
          let accepted = taken_of_no_refusal settings (site_at run.network arrival.site)
          arrival (taken_accepted arrival _ taken) in
          rw taken
          (names_append named
          (names_after settings run.network arrival fit ok.sound accepted))
      by_test false left = rw left named

  run_names_from : (run : Run) (arrivals : List Arrival)
      → SoundRun settings run.network
      → NamesBelow settings.sites run.messages
      → NamesBelow settings.sites (run_from settings run arrivals).messages
  run_names_from run [] ok named = named
  run_names_from run (arrival ∷ arrivals) ok named =
      run_names_from (run_one settings run arrival) arrivals (sound_run_one run arrival ok)
      (run_names_one run arrival ok named)

  -- Of every list of arrivals.
  pub run_names : (arrivals : List Arrival)
      → NamesBelow settings.sites (run_of settings arrivals).messages
  run_names arrivals =
      run_names_from (fresh_run settings) arrivals (sound_run []) names_none
