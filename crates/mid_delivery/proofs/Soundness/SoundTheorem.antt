-- Every sound network stays sound, and its deliveries may be done by any caller: the claims of
-- specs/SoundClaims.antt. Each step of a delivery keeps a stage from which it finishes as the
-- model's does; where it ends, the network is sound again. PROOF.md section 8.
use mathlib.Core.Path.{◌≡◌, refl, sym, ap, ◌∙◌, subst}
use mathlib.Core.Bool.{Bool, true, false}
use mathlib.Core.List.{List, [], ◌∷◌}
use Prim.Native.Nat.{ℕ, zero, suc, ◌+◌, ◌-◌, ◌/◌, ◌≤◌}
use native.Mathlib.Omega.{arith}
use lib.ListN.{replicate, length-replicate, get_or-replicate}
use Rattle.model.specs.declared.Settings.{Settings}
use Rattle.model.specs.declared.Arrival.{Arrival}
use Rattle.model.specs.declared.Message.{Message}
use Rattle.model.specs.declared.Phase.TheVariants.{Idle}
use Rattle.model.specs.Refusals.{no_refusal}
use Rattle.model.specs.Limits.{site_limit, most_steps}
use Rattle.model.specs.Settings.{settings_refusal}
use Rattle.model.specs.Site.{Site, fresh_site}
use Rattle.model.specs.Coordinator.{is_announcing}
use Rattle.model.specs.Network.{Network, Delivered, fresh_network, site_at, delivery_fuel, after_arrival}
use Rattle.model.specs.NetworkMemory.{all_pending, all_arrivals}
use Rattle.model.specs.SoundNetwork.{Sound}
use Rattle.model.specs.DeliveryClaims.{Delivery, delivery, delivery_step, delivery_steps, outcome, delivery_of, message_refusal}
use Rattle.mid_delivery.specs.SoundClaims.{Reached, begun, handed, asked, InMidDelivery, SoundClaims}
use Rattle.model.proofs.Thresholds.SettingsLaws.{Settled, settled}
use Rattle.model.proofs.Deliveries.DeliverySteps.{steps_at_rest}
use Rattle.model.proofs.Deliveries.ArrivalParts.{ArrivalCase, arrival_case}
use Rattle.model.proofs.Deliveries.AfterArrival.{delivers_after, after_arrival_lem}
use Rattle.model.proofs.Deliveries.DeliveryTheorem.{delivery_claims}
use Rattle.model.proofs.Soundness.SoundSites.{ArrivalTaken, taken_of_no_refusal, sound_fresh}
use Rattle.mid_delivery.proofs.Soundness.CoordinatorSound.{numbers_fresh}
use Rattle.mid_delivery.proofs.Soundness.Together.{threshold_bounded}
use Rattle.mid_delivery.proofs.Stages.Stages.{Stage}
use Rattle.mid_delivery.proofs.Stages.MidDelivery.{hand_on, ask_on, Finishes, MidDelivery, mid_handed, mid_asked}
use Rattle.mid_delivery.proofs.Stages.SoundStages.{together_of_sound, start_stage, sound_at_rest}
use Rattle.mid_delivery.proofs.Stages.StageFacts.{stage_sites, stage_coordinator, stage_total, stage_sum}
use Rattle.mid_delivery.proofs.Stages.StageNames.{stage_names, joined_names}
use Rattle.model.proofs.MessageCount.CountLaws.{NamesBelow, names_append}
use Rattle.model.proofs.Soundness.NeverFalls.{NoLess, steps_no_less}

-- ---- Started fresh

nothing_pending : (n : ℕ) → all_pending (replicate n fresh_site) ≡ 0
nothing_pending zero = refl
nothing_pending (suc n) = omega (arith, nothing_pending n)

nothing_arrived : (n : ℕ) → all_arrivals (replicate n fresh_site) ≡ 0
nothing_arrived zero = refl
nothing_arrived (suc n) = omega (arith, nothing_arrived n)

fresh_sound : (settings : Settings)
    → settings_refusal settings ≡ no_refusal
    → Sound settings (fresh_network settings)
fresh_sound settings no-refusal =
    let fit : Settled settings = settled settings no-refusal in
    record {
      all_sites = length-replicate settings.sites fresh_site;
      sites_sound = λ j j<.
          rw (get_or-replicate settings.sites j fresh_site fresh_site j<) (sound_fresh settings);
      coordinator_sound = record {
        numbers = numbers_fresh settings;
        phase_sound = omega (arith, fit.sites.at_least);
      };
      idle = refl;
      same_threshold = λ j j<.
          ap (λ (site : Site). site.threshold)
          (get_or-replicate settings.sites j fresh_site fresh_site j<);
      all_counted =
          omega (arith, nothing_pending settings.sites, nothing_arrived settings.sites);
    }

-- ---- The steps of a delivery

module _ (settings : Settings) (final : Network) (all : List Message) (fit : Settled settings) where
  -- A delivery in mid-way, with some steps left; all that went out names sites of the network.
  record Somewhere (d : Delivery) : Type 0 where
    left : ℕ
    mid : MidDelivery settings final all left d
    named : NamesBelow settings.sites d.log

  somewhere_step : (d : Delivery) → Somewhere d → Somewhere (delivery_step settings d)
  somewhere_step d there =
      by_queue d.network d.waiting d.log there
    where
      by_queue : (network : Network) (waiting log : List Message)
          → Somewhere (delivery network waiting log)
          → Somewhere (delivery_step settings (delivery network waiting log))
      by_queue network [] log there' = by_phase (is_announcing network.coordinator.phase) refl
        where
          by_phase : (announces : Bool) → is_announcing network.coordinator.phase ≡ announces
              → Somewhere (delivery_step settings (delivery network [] log))
          by_phase true announces =
              let asked-on = mid_asked there'.mid announces in
              rw announces (record {
                left = there'.left - 1;
                mid = asked-on;
                named = names_append there'.named (joined_names [] asked-on.stage);
              })
          by_phase false silent = rw silent there'
      by_queue network (m ∷ waiting) log there' =
          let handed_on = mid_handed fit there'.mid in
          record {
            left = there'.left - 1;
            mid = handed_on;
            named = names_append there'.named (joined_names waiting handed_on.stage);
          }

  somewhere_steps : (fuel : ℕ) (d : Delivery)
      → Somewhere d
      → Somewhere (delivery_steps fuel settings d)
  somewhere_steps zero d there = there
  somewhere_steps (suc fuel) d there =
      somewhere_steps fuel (delivery_step settings d) (somewhere_step d there)

-- ---- After an arrival

module _ (settings : Settings) (network : Network) (arrival : Arrival)
    (fit : Settled settings) (sound : Sound settings network)
    (taken : ArrivalTaken settings (site_at network arrival.site) arrival) where
  abbrev final : Network
  final = (after_arrival settings network arrival).network

  abbrev all : List Message
  all = (after_arrival settings network arrival).messages

  abbrev start : Delivery
  start = delivery_of settings network arrival

  -- The delivery that an arrival sets off ends where the model's does.
  start_finishes : Finishes settings final all (most_steps settings) start
  start_finishes =
      let which : ArrivalCase settings network arrival = arrival_case settings network arrival in
      record {
        ends = λ fuel enough.
            (delivers_after settings network arrival sound.idle which).ends fuel [] enough
            ∙ ap (λ (after : Delivered). delivery after.network [] after.messages)
            (sym (after_arrival_lem settings network arrival sound.idle which));
      }

  mid_start : MidDelivery settings final all (most_steps settings) start
  mid_start = record { stage = start_stage fit sound taken; finishes = start_finishes }

  -- The model's delivery, at its end.
  at_the_end : Somewhere settings final all fit
      (delivery_steps (delivery_fuel settings) settings start)
  at_the_end =
      somewhere_steps settings final all fit (delivery_fuel settings) start
      (record {
        left = most_steps settings;
        mid = mid_start;
        named = stage_names mid_start.stage;
      })

  ended : delivery_steps (delivery_fuel settings) settings start ≡ delivery final [] all
  ended = start_finishes.ends (delivery_fuel settings) (omega arith)

  -- All its messages name sites of the network.
  pub names_after : NamesBelow settings.sites all
  names_after =
      subst (λ (d : Delivery). NamesBelow settings.sites d.log) ended at_the_end.named

  -- The network that the model's delivery comes to is sound.
  sound_after : Sound settings final
  sound_after =
      let there = at_the_end in
      let stage : Stage settings final [] there.left = rw ended at there.mid.stage in
      let idle : final.coordinator.phase ≡ Idle =
      rw ended at (delivery_claims.comes_to_rest settings network arrival sound.idle).idle in
      sound_at_rest fit stage (rw idle)

  -- A delivery that was reached, with the steps that are left.
  pub record StillLeft (n : ℕ) (d : Delivery) : Type 0 where
    pub left : ℕ
    pub in_all : n + left ≡ most_steps settings
    pub mid : MidDelivery settings final all left d

  pub reached_left : (n : ℕ) (d : Delivery) → Reached settings start n d → StillLeft n d
  reached_left n d begun =
      record { left = most_steps settings; in_all = omega arith; mid = mid_start }
  reached_left n d (handed before now m waiting log earlier) =
      let there = reached_left before (delivery now (m ∷ waiting) log) earlier in
      let some : 1 ≤ there.left = (hand_on fit there.mid.stage).some_left in
      record {
        left = there.left - 1;
        in_all = omega (arith, there.in_all);
        mid = mid_handed fit there.mid;
      }
  reached_left n d (asked before now waiting log earlier announces) =
      let there = reached_left before (delivery now waiting log) earlier in
      let some : 1 ≤ there.left = (ask_on there.mid.stage announces).some_left in
      record {
        left = there.left - 1;
        in_all = omega (arith, there.in_all);
        mid = mid_asked there.mid announces;
      }

  -- All that went out of a delivery that was reached names sites of the network.
  pub reached_names : (n : ℕ) (d : Delivery)
      → Reached settings start n d
      → NamesBelow settings.sites d.log
  reached_names n d begun = stage_names mid_start.stage
  reached_names n d (handed before now m waiting log earlier) =
      let there = reached_left before (delivery now (m ∷ waiting) log) earlier in
      names_append (reached_names before (delivery now (m ∷ waiting) log) earlier)
      (joined_names waiting (mid_handed fit there.mid).stage)
  reached_names n d (asked before now waiting log earlier announces) =
      let there = reached_left before (delivery now waiting log) earlier in
      names_append (reached_names before (delivery now waiting log) earlier)
      (joined_names waiting (mid_asked there.mid announces).stage)

  -- Where nothing waits and nothing is to be asked for, more steps change nothing.
  ends_there : (left : ℕ) (d : Delivery)
      → MidDelivery settings final all left d
      → d.waiting ≡ []
      → is_announcing d.network.coordinator.phase ≡ false
      → outcome d ≡ after_arrival settings network arrival
  ends_there left d mid none silent =
      let stays : delivery_steps left settings (delivery d.network [] d.log)
      ≡ delivery d.network [] d.log =
      steps_at_rest left settings d.network d.log silent in
      let same : d ≡ delivery d.network [] d.log =
      ap (λ (waiting : List Message). delivery d.network waiting d.log) none in
      ap outcome
      (same ∙ sym stays ∙ ap (delivery_steps left settings) (sym same)
      ∙ mid.finishes.ends left (omega arith))

  head_of : (left : ℕ) (d : Delivery) (m : Message) (waiting : List Message)
      → Stage settings d.network d.waiting left
      → d.waiting ≡ m ∷ waiting
      → message_refusal settings d.network m ≡ no_refusal
  head_of left d m waiting stage waits =
      (hand_on {m = m} {waiting = waiting} fit (rw waits at stage)).head_accepted

  -- Finishing from here lowers no number.
  no_less_here : (left : ℕ) (d : Delivery)
      → MidDelivery settings final all left d
      → NoLess d.network.coordinator final.coordinator
  no_less_here left d mid =
      subst (λ (after : Delivery). NoLess d.network.coordinator after.network.coordinator)
      (mid.finishes.ends left (omega arith)) (steps_no_less left settings d)

  in_mid_delivery : (n : ℕ) (d : Delivery)
      → Reached settings start n d
      → InMidDelivery settings network arrival n d
  in_mid_delivery n d reached =
      let there = reached_left n d reached in
      record {
        head_accepted = λ m waiting waits.
            head_of there.left d m waiting there.mid.stage waits;
        sites_sound = stage_sites there.mid.stage;
        coordinator_sound = stage_coordinator fit there.mid.stage;
        total_within = stage_total fit there.mid.stage;
        sum_within = stage_sum fit there.mid.stage;
        estimates_below = (no_less_here there.left d there.mid).estimates;
        values_below = (no_less_here there.left d there.mid).values;
        few_steps = omega (arith, there.in_all);
        firm_steps = omega (arith, there.in_all);
        finishes = ap outcome
            (there.mid.finishes.ends (delivery_fuel settings) (omega (arith, there.in_all)));
        ends = ends_there there.left d there.mid;
      }

-- ---- The claims

threshold_small : (settings : Settings) (network : Network)
    → settings_refusal settings ≡ no_refusal
    → Sound settings network
    → network.coordinator.threshold ≤ site_limit / 3
threshold_small settings network no-refusal sound =
    omega (arith, threshold_bounded (together_of_sound sound) (settled settings no-refusal))

-- The claims on sound networks, all proved.
pub sound_claims : SoundClaims
sound_claims = record {
  fresh_sound = fresh_sound;
  arrival_sound = λ settings network arrival no-refusal sound taken.
      sound_after settings network arrival (settled settings no-refusal) sound
      (taken_of_no_refusal settings (site_at network arrival.site) arrival taken);
  threshold_small = threshold_small;
  in_mid_delivery = λ settings network arrival n d no-refusal sound taken reached.
      in_mid_delivery settings network arrival (settled settings no-refusal) sound
      (taken_of_no_refusal settings (site_at network arrival.site) arrival taken) n d reached;
}
