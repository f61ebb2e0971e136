-- What is claimed of every sound network, arisen or not: it stays sound, and a delivery may be
-- done by any caller: each message is due and carries the right amount, and asking for kind 7
-- early comes to the same. (Document 01, "Full delivery", "Refused" rows 5, 6, 7, 9, 10 and 11.)
--
--   Reached settings start n d      a delivery after n steps: hand-overs of the head of the queue,
--                                   and kinds 7 asked for at any time
--   InMidDelivery ..                what holds of a delivery that was reached
--   SoundClaims                     all of it
use Rattle.std.specs.Prelude.{◌≡◌, true, false, List, [], ◌∷◌, ℕ, suc, ◌/◌, ◌≤◌, ◌<◌}
use Rattle.model.specs.declared.Settings.{Settings}
use Rattle.model.specs.declared.Arrival.{Arrival}
use Rattle.model.specs.declared.Message.{Message}
use Rattle.model.specs.Refusals.{no_refusal}
use Rattle.model.specs.Limits.{site_limit, coordinator_limit, most_steps}
use Rattle.model.specs.Settings.{settings_refusal}
use Rattle.model.specs.Coordinator.{is_announcing}
use Rattle.model.specs.Network.{Network, fresh_network, site_at, hand_over, ask_announcement, delivery_fuel, after_arrival}
use Rattle.model.specs.Runs.{refusal_in}
use Rattle.model.specs.SoundNetwork.{SoundSite, SoundCoordinator, sum_of_phase, estimate_of, count_of_value, Sound}
use Rattle.model.specs.DeliveryClaims.{Delivery, delivery, joining, delivery_steps, outcome, delivery_of, message_refusal}

-- ---- Deliveries that any caller may do

-- The deliveries that come of any order of steps that a caller may take.
pub data Reached (settings : Settings) (start : Delivery) : ℕ → Delivery → Type 0 where
  begun : Reached settings start 0 start
  -- the head of the queue is handed to whom it is for; the answer joins the queue
  handed : (n : ℕ) (network : Network) (m : Message) (waiting log : List Message)
      → Reached settings start n (delivery network (m ∷ waiting) log)
      → Reached settings start (suc n) (joining (hand_over settings network m) waiting log)
  -- the next kind 7 is asked of a coordinator that announces, whatever waits
  asked : (n : ℕ) (network : Network) (waiting log : List Message)
      → Reached settings start n (delivery network waiting log)
      → is_announcing network.coordinator.phase ≡ true
      → Reached settings start (suc n) (joining (ask_announcement settings network) waiting log)

-- ---- What holds of them

-- Of a delivery d, n steps after an arrival at a sound network.
pub record InMidDelivery (settings : Settings) (network : Network) (arrival : Arrival) (n : ℕ)
    (d : Delivery) : Type 0 where
  -- the head of the queue is accepted by whom it is for: never 5, 6, 7, 9 or 10
  pub head_accepted : (m : Message) (waiting : List Message)
      → d.waiting ≡ m ∷ waiting
      → message_refusal settings d.network m ≡ no_refusal
  -- each site and the coordinator are sound by themselves: never 11, but for the limit
  pub sites_sound : (j : ℕ) → j < settings.sites → SoundSite settings (site_at d.network j)
  pub coordinator_sound : SoundCoordinator settings d.network.coordinator
  -- and of the limit: what is counted, and the sum of a halving, stay below it for every sound
  -- network; no estimate or value count is above what it comes to
  pub total_within : d.network.coordinator.total ≤ coordinator_limit
  pub sum_within : sum_of_phase d.network.coordinator.phase ≤ coordinator_limit
  pub estimates_below : (item : ℕ)
      → estimate_of d.network item
      ≤ estimate_of (after_arrival settings network arrival).network item
  pub values_below : (value : ℕ)
      → count_of_value d.network value
      ≤ count_of_value (after_arrival settings network arrival).network value
  -- every delivery comes to its end: no order of steps has more than these
  pub few_steps : n ≤ delivery_fuel settings
  -- nor than these, which are fewer still
  pub firm_steps : n ≤ most_steps settings
  -- finished in the model's order, it comes to the model's network and messages
  pub finishes : outcome (delivery_steps (delivery_fuel settings) settings d)
      ≡ after_arrival settings network arrival
  -- where nothing waits and no kind 7 is to come, it has come there
  pub ends : d.waiting ≡ []
      → is_announcing d.network.coordinator.phase ≡ false
      → outcome d ≡ after_arrival settings network arrival

-- For settings that pass their test and every sound network.
pub record SoundClaims : Type 0 where
  -- "Started fresh"
  pub fresh_sound : (settings : Settings)
      → settings_refusal settings ≡ no_refusal
      → Sound settings (fresh_network settings)
  -- an accepted arrival with full delivery
  pub arrival_sound : (settings : Settings) (network : Network) (arrival : Arrival)
      → settings_refusal settings ≡ no_refusal
      → Sound settings network
      → refusal_in settings network arrival ≡ no_refusal
      → Sound settings (after_arrival settings network arrival).network
  -- no threshold is above a third of a site's limit
  pub threshold_small : (settings : Settings) (network : Network)
      → settings_refusal settings ≡ no_refusal
      → Sound settings network
      → network.coordinator.threshold ≤ site_limit / 3
  -- in mid-delivery, after any steps
  pub in_mid_delivery : (settings : Settings) (network : Network) (arrival : Arrival) (n : ℕ)
      (d : Delivery)
      → settings_refusal settings ≡ no_refusal
      → Sound settings network
      → refusal_in settings network arrival ≡ no_refusal
      → Reached settings (delivery_of settings network arrival) n d
      → InMidDelivery settings network arrival n d
