-- The coordinator's numbers stay small, from any sound network through any batch: the claims of
-- specs/NumberClaims.antt. Growth is counted by all arrivals, and these are bounded.
use mathlib.Core.Path.{◌≡◌, refl, ap, ◌∙◌}
use mathlib.Core.Bool.{Bool, true, false}
use mathlib.Core.List.{List, [], ◌∷◌}
use Prim.Native.Nat.{ℕ, ◌+◌, ◌-◌}
use native.Mathlib.Omega.{arith}
use lib.ListN.{length}
use borrow.Author.Tests.{eqb-true}
use Rattle.model.specs.declared.Settings.{Settings}
use Rattle.model.specs.declared.Arrival.{Arrival}
use Rattle.model.specs.Choice.{is_zero}
use Rattle.model.specs.Refusals.{no_refusal}
use Rattle.model.specs.Settings.{settings_refusal}
use Rattle.model.specs.Network.{Network, site_at, Delivered, after_arrival, after_line}
use Rattle.model.specs.Draws.{is_draw}
use Rattle.model.specs.NetworkMemory.{all_arrivals}
use Rattle.model.specs.Runs.{refusal_in, batch_refusal, Batch, batch_from, batch_of}
use Rattle.model.specs.SoundNetwork.{Sound}
use Rattle.model.specs.NumberClaims.{Grown, BatchNumbers, NumberClaims}
use Rattle.model.proofs.Touches.DrawLaws.{batch_takes}
use Rattle.model.proofs.Thresholds.SettingsLaws.{Settled, settled}
use Rattle.model.proofs.Deliveries.ArrivalParts.{ArrivalCase, arrival_case, network_then}
use Rattle.model.proofs.Deliveries.AfterArrival.{after_arrival_lem}
use Rattle.model.proofs.Soundness.SoundSites.{ArrivalTaken, taken_of_no_refusal}
use Rattle.mid_delivery.proofs.Soundness.SoundTheorem.{sound_claims}
use Rattle.mid_delivery.proofs.Numbers.NumberGrowth.{counted_then, grown_then}
use Rattle.mid_delivery.proofs.Numbers.NumberBounds.{arrivals_few, bounded_start, bounded_grown, estimates_few, values_few}

-- ---- Growth, arrival by arrival

-- No arrival, no growth.
pub grown_self : (network : Network) → Grown network network
grown_self network = record {
  estimate_grows = λ item. omega arith;
  value_grows = λ value. omega arith;
}

-- Growth after growth.
pub grown_more : {first second third : Network}
    → Grown first second
    → Grown second third
    → Grown first third
grown_more earlier later = record {
  estimate_grows = λ item. omega (arith, earlier.estimate_grows item, later.estimate_grows item);
  value_grows = λ value. omega (arith, earlier.value_grows value, later.value_grows value);
}

-- An arrival with full delivery, from the cases of its closed form.
module _ (settings : Settings) (network : Network) (arrival : Arrival)
    (no-refusal : settings_refusal settings ≡ no_refusal)
    (sound : Sound settings network)
    (taken : refusal_in settings network arrival ≡ no_refusal) where
  abbrev after : Network
  after = (after_arrival settings network arrival).network

  which : ArrivalCase settings network arrival
  which = arrival_case settings network arrival

  same : after ≡ network_then which
  same =
      ap (λ (d : Delivered). d.network)
      (after_arrival_lem settings network arrival sound.idle which)

  all : length (network_then which).sites ≡ settings.sites
  all =
      rw same at
      (sound_claims.arrival_sound settings network arrival no-refusal sound taken).all_sites

  fit : Settled settings
  fit = settled settings no-refusal

  known : ArrivalTaken settings (site_at network arrival.site) arrival
  known = taken_of_no_refusal settings (site_at network arrival.site) arrival taken

  arrival_grows : Grown network after
  arrival_grows = rw same (grown_then fit sound known which all)

  arrival_counted : all_arrivals after.sites ≡ all_arrivals network.sites + 1
  arrival_counted = rw same (counted_then fit sound known which all)

-- ---- Batches

module _ (settings : Settings) (room : ℕ) (network : Network)
    (no-refusal : settings_refusal settings ≡ no_refusal) where
  record Kept (batch : Batch) : Type 0 where
    sound : Sound settings batch.network
    grown : Grown network batch.network

  -- Each arrival that the batch accepts is accepted by its site.
  kept_batch : (arrivals : List Arrival) (batch : Batch)
      → Kept batch
      → Kept (batch_from settings room batch arrivals)
  kept_batch [] batch kept = kept
  kept_batch (arrival ∷ arrivals) batch kept =
      by_refusal (is_zero refusal) refl (kept_batch arrivals)
    where
      refusal : ℕ
      refusal =
          batch_refusal settings batch.network (room - length batch.messages) arrival

      -- A touch leaves the network as it was.
      kept_line : refusal ≡ no_refusal → (drawn : Bool) → is_draw arrival ≡ drawn
          → (next : Batch)
          → next.network ≡ (after_line settings batch.network arrival).network
          → Kept next
      kept_line none true is_draw_lem next next-is =
          let taken = (batch_takes settings batch.network arrival _ is_draw_lem none).accepted in
          let is : next.network ≡ (after_arrival settings batch.network arrival).network =
          next-is ∙ rw is_draw_lem in
          record {
            sound = rw is (sound_claims.arrival_sound settings batch.network arrival
                no-refusal kept.sound taken);
            grown = rw is (grown_more kept.grown
                (arrival_grows settings batch.network arrival no-refusal kept.sound taken));
          }
      kept_line none false no_draw next next-is =
          let is : next.network ≡ batch.network = next-is ∙ rw no_draw in
          record { sound = rw is kept.sound; grown = rw is kept.grown }

      by_refusal : (none : Bool) → is_zero refusal ≡ none
          → ((next : Batch) → Kept next → Kept (batch_from settings room next arrivals))
          → Kept (batch_from settings room batch (arrival ∷ arrivals))
      by_refusal true none later =
          rw (none, batch_from)
          (later _ (kept_line (eqb-true refusal 0 none) (is_draw arrival) refl _ refl))
      by_refusal false some later =
          rw (some, batch_from) (record { sound = kept.sound; grown = kept.grown })

  batch_numbers : (arrivals : List Arrival)
      → Sound settings network
      → BatchNumbers settings network (batch_of settings room network arrivals)
  batch_numbers arrivals sound =
      let fit : Settled settings = settled settings no-refusal in
      let kept : Kept (batch_of settings room network arrivals) =
      kept_batch arrivals _ (record { sound = sound; grown = grown_self network }) in
      record {
        sound = kept.sound;
        grown = kept.grown;
        estimates_small = λ within item.
            estimates_few fit kept.sound
            (bounded_grown kept.grown (bounded_start fit sound within)) item;
        values_small = λ within value.
            values_few fit kept.sound
            (bounded_grown kept.grown (bounded_start fit sound within)) value;
        total_small =
            omega (arith, kept.sound.all_counted, arrivals_few fit kept.sound);
      }

-- The claims on the coordinator's numbers, all proved.
pub number_claims : NumberClaims
number_claims = record {
  arrival_grows = arrival_grows;
  arrival_counted = arrival_counted;
  batch_numbers = λ settings room network arrivals no-refusal sound.
      batch_numbers settings room network no-refusal arrivals sound;
}
