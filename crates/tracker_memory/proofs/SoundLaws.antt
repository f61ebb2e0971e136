-- A network that passes the batch call's tests is sound, its numbers are within the limits, and
-- what was given has room for it: what deliveries in it require.
--
--   Passing, passing                  what an accepted start is worth
use mathlib.Core.Path.{◌≡◌}
use mathlib.Core.List.{List}
use Prim.Native.Nat.{ℕ, ◌≤◌, ◌<◌}
use lib.ListN.{length, get_or}
use Rattle.model.specs.declared.Settings.{Settings}
use Rattle.model.specs.declared.Sites.{Sites}
use Rattle.model.specs.declared.CoordinatorRecord.{CoordinatorRecord}
use Rattle.model.specs.Refusals.{no_refusal}
use Rattle.model.specs.NetworkMemory.{network_in, network_refusal}
use Rattle.model.specs.SoundNetwork.{Sound}
use Rattle.model.specs.NumberClaims.{Bounded}
use Rattle.model.proofs.Thresholds.SettingsLaws.{settled}
use Rattle.mid_delivery.proofs.Numbers.NumberBounds.{bounded_start}
use Rattle.model.proofs.MessageCount.Counts.{FewCounted}
use Rattle.model.proofs.Soundness.ConsistentNetwork.{passes_of}
use Rattle.site_memory.proofs.SitesReading.{enough_records, used_within}
use Rattle.model.specs.Held.{no_record}
use Rattle.bench_memory.specs.Promises.{NetworkFits}

pub record Passing (settings : Settings) (sites : Sites) (coordinator : CoordinatorRecord)
    (site_memory coordinator_memory : List ℕ) : Type 0 where
  pub fits : NetworkFits settings site_memory coordinator_memory
  pub all_records : settings.sites ≤ length sites.records
  pub few_counters : (j : ℕ) → j < settings.sites
      → (get_or sites.records j no_record).used ≤ settings.capacity
  pub sound : Sound settings
      (network_in settings sites coordinator site_memory coordinator_memory)
  pub bounded : Bounded (network_in settings sites coordinator site_memory coordinator_memory)
  pub few_counted : FewCounted settings.sites sites.messages

pub passing : (settings : Settings) (sites : Sites) (coordinator : CoordinatorRecord)
    (site_memory coordinator_memory : List ℕ)
    → network_refusal settings sites coordinator site_memory coordinator_memory ≡ no_refusal
    → Passing settings sites coordinator site_memory coordinator_memory
passing settings sites coordinator site_memory coordinator_memory none =
    let passes = passes_of settings sites coordinator site_memory coordinator_memory none in
    let network-sound = passes.sound in
    let all = network-sound.all_sites in
    record {
      fits = record {
        sites_fit = record {
          settings_accepted = passes.settings_accepted;
          long_enough = passes.sites_long;
        };
        coordinator_long = passes.coordinator_long;
      };
      all_records = enough_records settings.sites settings sites.records site_memory all;
      few_counters = λ j j<.
          used_within no_record settings.sites settings sites.records site_memory all j j<
          (network-sound.sites_sound j j<);
      sound = network-sound;
      bounded = bounded_start (settled settings passes.settings_accepted) network-sound
          (record {
            estimates_within = passes.within.estimates_within;
            values_within = passes.within.values_within;
          });
      few_counted = passes.few_counted;
    }
