-- How near a delivery comes to the coordinator's limit, from every sound network within it: the
-- total, the sum of a halving and the value counts stay within; of the estimates only the item's
-- grows, by the threshold if kind 1 goes out. So where that has room, what the delivery comes to is
-- within the limit.
--
--   final_within     the coordinator that the delivery comes to
use mathlib.Core.Path.{◌≡◌, refl, ap}
use mathlib.Core.Bool.{Bool, true, false}
use mathlib.Core.List.{List, [], ◌∷◌}
use Prim.Native.Nat.{ℕ, zero, suc, ◌+◌, ◌≤◌}
use native.Mathlib.Omega.{arith}
use lib.Dec.{eqb}
use lib.ListN.{get_or, set}
use borrow.Author.Tests.{eqb-true}
use Rattle.model.specs.declared.Settings.{Settings}
use Rattle.model.specs.declared.Arrival.{Arrival}
use Rattle.model.specs.declared.Phase.TheVariants.{Idle}
use Rattle.model.specs.Refusals.{no_refusal}
use Rattle.model.specs.Limits.{coordinator_limit}
use Rattle.model.specs.Settings.{settings_refusal}
use Rattle.model.specs.Site.{Site, reports_item}
use Rattle.model.specs.Coordinator.{Coordinator}
use Rattle.model.specs.Network.{Network, Delivered, site_at, after_arrival}
use Rattle.model.specs.Runs.{refusal_in}
use Rattle.model.specs.SoundNetwork.{estimate_of, count_of_value, Sound}
use Rattle.model.proofs.Thresholds.SettingsLaws.{settled}
use Rattle.mid_delivery.proofs.Soundness.SoundTheorem.{sound_claims}
use Rattle.mid_delivery.proofs.Numbers.NumberBounds.{arrivals_few}
use Rattle.mid_delivery.proofs.Numbers.NumberTheorem.{number_claims}
use Rattle.model.proofs.Soundness.ConsistentCoordinator.{CoordinatorWithin}
use Rattle.model.proofs.Deliveries.ArrivalParts.{after_item_report, after_count_report, ArrivalCase, no_count_report, count_reported, closes_one, closes_more, arrival_case, network_then}
use Rattle.model.proofs.Deliveries.AfterArrival.{after_arrival_lem}
use Rattle.site_memory.proofs.ValueLaws.{get_d_le_sum}

-- ---- Lists of numbers

-- A place gained an amount and is within the limit then; all others are as they were.
gained_within : (limit : ℕ) (numbers : List ℕ) (place amount x : ℕ)
    → get_or numbers place 0 + amount ≤ limit
    → get_or numbers x 0 ≤ limit
    → get_or (set numbers place (get_or numbers place 0 + amount)) x 0 ≤ limit
gained_within limit [] place amount x room here = omega arith
gained_within limit (y ∷ ys) zero amount zero room here = room
gained_within limit (y ∷ ys) zero amount (suc x) room here = here
gained_within limit (y ∷ ys) (suc place) amount zero room here = here
gained_within limit (y ∷ ys) (suc place) amount (suc x) room here =
    gained_within limit ys place amount x room here

-- ---- The coordinator that the delivery comes to

module _ (settings : Settings) (network : Network) (arrival : Arrival)
    (passes : settings_refusal settings ≡ no_refusal)
    (sound : Sound settings network)
    (within : CoordinatorWithin network.coordinator)
    (taken : refusal_in settings network arrival ≡ no_refusal) where
  abbrev site : Site
  site = site_at network arrival.site

  abbrev before : Coordinator
  before = network.coordinator

  abbrev final : Network
  final = (after_arrival settings network arrival).network

  sound_final : Sound settings final
  sound_final = sound_claims.arrival_sound settings network arrival passes sound taken

  -- By its closed form.
  final_is : (which : ArrivalCase settings network arrival) → final ≡ network_then which
  final_is which =
      ap (λ (d : Delivered). d.network)
      (after_arrival_lem settings network arrival sound.idle which)

  -- ---- The estimates

  estimates_then : (which : ArrivalCase settings network arrival)
      → (network_then which).coordinator.estimates
      ≡ (after_item_report settings network arrival).estimates
  estimates_then (no_count_report none) = refl
  estimates_then (count_reported due few) = refl
  estimates_then (closes_one due all one) = refl
  estimates_then (closes_more due all more) = refl

  module _ (room : reports_item settings site arrival ≡ true
      → estimate_of network arrival.item + site.threshold ≤ coordinator_limit) where
    reported_within : (item : ℕ)
        → get_or (after_item_report settings network arrival).estimates item 0 ≤ coordinator_limit
    reported_within item = by_report (reports_item settings site arrival) refl
      where
        by_report : (due : Bool) → reports_item settings site arrival ≡ due
            → get_or (after_item_report settings network arrival).estimates item 0
            ≤ coordinator_limit
        by_report true due =
            rw due
            (gained_within coordinator_limit before.estimates arrival.item site.threshold
            item (room due) (within.estimates_within item))
        by_report false none = rw none (within.estimates_within item)

    estimates_within : (item : ℕ) → estimate_of final item ≤ coordinator_limit
    estimates_within item =
        let which = arrival_case settings network arrival in
        rw (final_is which, estimates_then which) (reported_within item)

    -- ---- The value counts

    -- While the threshold is 1 they sum to the total; later they stay.
    counted_within : (value : ℕ)
        → (get_or (after_count_report settings network arrival Idle).histogram value 0
        ≤ count_of_value network value + 1)
        → get_or (after_count_report settings network arrival Idle).histogram value 0
        ≤ coordinator_limit
    counted_within value grown = by_threshold (eqb before.threshold 1) refl
      where
        by_threshold : (one : Bool) → eqb before.threshold 1 ≡ one
            → get_or (after_count_report settings network arrival Idle).histogram value 0
            ≤ coordinator_limit
        by_threshold true one =
            let few = arrivals_few (settled settings passes) sound in
            omega (
              arith,
              grown,
              get_d_le_sum before.histogram value,
              sound.coordinator_sound.numbers.histogram_sum (eqb-true before.threshold 1 one),
              sound.all_counted,
              few,
            )
        by_threshold false more = rw more (within.values_within value)

    values_within : (value : ℕ) → count_of_value final value ≤ coordinator_limit
    values_within value = by_case (arrival_case settings network arrival)
      where
        grown : count_of_value final value ≤ count_of_value network value + 1
        grown =
            omega (
              arith,
              (number_claims.arrival_grows settings network arrival passes sound taken
                  ).value_grows value,
              number_claims.arrival_counted settings network arrival passes sound taken,
            )

        by_case : (which : ArrivalCase settings network arrival)
            → count_of_value final value ≤ coordinator_limit
        by_case (no_count_report none) =
            rw (final_is (no_count_report none)) (within.values_within value)
        by_case (count_reported due few) =
            rw (final_is (count_reported due few))
            (counted_within value (rw (final_is (count_reported due few)) at grown))
        by_case (closes_one due all one) =
            rw (final_is (closes_one due all one))
            (counted_within value (rw (final_is (closes_one due all one)) at grown))
        by_case (closes_more due all more) =
            rw (final_is (closes_more due all more))
            (counted_within value (rw (final_is (closes_more due all more)) at grown))

    -- The coordinator that the delivery comes to.
    pub final_within : CoordinatorWithin final.coordinator
    final_within = record {
      estimates_within = estimates_within;
      values_within = values_within;
      total_within =
          omega (
            arith,
            sound_final.all_counted,
            arrivals_few (settled settings passes) sound_final,
          );
      sum_within = rw sound_final.idle (omega arith);
    }
