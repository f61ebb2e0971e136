-- What is unreported and what arrived is bounded in every sound network, and with it the
-- coordinator's numbers, from those that passed refusal 11 on. PROOF.md S7.
--
--   unreported_bounded, arrivals_few   all unreported, and all arrivals
--   bounded_start, bounded_grown       numbers that passed, and what they grow to
--   estimates_few, values_few          are within their limits
use Prim.Native.Nat.{ℕ, ◌*◌, ◌≤◌, ◌<◌}
use native.Mathlib.Nat.{mul-le-mul_right}
use native.Mathlib.Omega.{arith}
use Rattle.laws.proofs.Sums.{sum_below_le, sum_below_const}
use Rattle.model.specs.declared.Settings.{Settings}
use Rattle.model.specs.Limits.{most_sites, most_capacity, site_limit, most_arrivals}
use Rattle.model.specs.Network.{Network, site_at}
use Rattle.model.specs.NetworkMemory.{all_arrivals}
use Rattle.model.specs.SoundNetwork.{SoundSite, estimate_of, count_of_value, Sound}
use Rattle.model.specs.NumberClaims.{all_unreported, Grown, WithinLimit, Bounded, estimate_limit, value_count_limit}
use Rattle.model.proofs.Thresholds.SettingsLaws.{Settled}
use Rattle.model.proofs.BetweenArrivals.SitesInvariant.{unreported_at}
use Rattle.model.proofs.Deliveries.ClosedSites.{sum_below_all_arrivals}
use Rattle.mid_delivery.proofs.Soundness.Together.{arrivals_bounded}
use Rattle.mid_delivery.proofs.Stages.SoundStages.{together_of_sound}
use Rattle.model.proofs.Soundness.SoundCounters.{unreported_in_sum, unreported_in_le}
use Rattle.mid_delivery.proofs.Numbers.NumberGrowth.{sum_below_all_unreported}

module _ {settings : Settings} {network : Network}
    (fit : Settled settings) (sound : Sound settings network) where
  -- Each of at most c counters has less than the threshold unreported.
  site_unreported : (j : ℕ) → j < settings.sites
      → unreported_at network.sites j ≤ most_capacity * site_limit
  site_unreported j j< =
      let site_sound : SoundSite settings (site_at network j) = sound.sites_sound j j< in
      omega (
        arith,
        unreported_in_sum (site_at network j).counters,
        unreported_in_le (site_at network j).counters site_limit
            (λ place place<. omega (
              arith,
              site_sound.threshold_within,
              (site_sound.counters_sound place place<).unreported_below,
            )),
        mul-le-mul_right site_limit site_sound.few_counters,
        fit.capacity.at_most,
      )

  unreported_bounded : all_unreported network.sites ≤ most_sites * (most_capacity * site_limit)
  unreported_bounded =
      omega (
        arith,
        sum_below_all_unreported settings network.sites sound.all_sites,
        sum_below_le (unreported_at network.sites) (λ j. most_capacity * site_limit)
            settings.sites site_unreported,
        sum_below_const (most_capacity * site_limit) settings.sites,
        fit.sites.at_most,
      )

  pub arrivals_few : all_arrivals network.sites ≤ most_arrivals
  arrivals_few =
      omega (
        arith,
        sum_below_all_arrivals settings network.sites sound.all_sites,
        arrivals_bounded (together_of_sound sound),
        fit.sites.at_most,
      )

  -- ---- The coordinator's numbers

  -- Those that passed refusal 11, whatever the sites hold.
  pub bounded_start : WithinLimit network → Bounded network
  bounded_start within = record {
    estimates_bounded = λ item.
        omega (arith, within.estimates_within item, unreported_bounded);
    values_bounded = λ value. omega (arith, within.values_within value);
  }

  -- And what they have come to.
  pub estimates_few : Bounded network → (item : ℕ) → estimate_of network item ≤ estimate_limit
  estimates_few bounded item = omega (arith, bounded.estimates_bounded item, arrivals_few)

  pub values_few : Bounded network → (value : ℕ) → count_of_value network value ≤ value_count_limit
  values_few bounded value = omega (arith, bounded.values_bounded value, arrivals_few)

pub bounded_grown : {before after : Network} → Grown before after → Bounded before → Bounded after
bounded_grown grown bounded = record {
  estimates_bounded = λ item.
      omega (arith, grown.estimate_grows item, bounded.estimates_bounded item);
  values_bounded = λ value.
      omega (arith, grown.value_grows value, bounded.values_bounded value);
}
