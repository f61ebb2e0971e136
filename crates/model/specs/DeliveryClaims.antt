-- What is claimed of full delivery (document 01, "Full delivery" and "At most 23 × k + 2 messages
-- follow one draw"). A delivery is a network with the messages that wait and all that went out so
-- far; one step of it hands over the head of the queue, or asks for the next kind 7, or, with
-- nothing to do, changes nothing.
--
--   delivery_step settings delivery         the next step; a delivery at rest stays as it is
--   delivery_steps n settings delivery      n steps of it
--   delivery_of settings network arrival    the delivery that an arrival sets off, at its start
--   delivered_with fuel settings network arrival  `after_arrival` with other fuel
--   message_refusal settings network m      why it is refused by whom it is for, or accepted
--   Resting delivery                        nothing waits, and the coordinator is idle
--   DeliveryClaims                          few messages, and a complete delivery
use Rattle.std.specs.Prelude.{◌≡◌, List, [], ◌∷◌, ◌++◌, ℕ, zero, suc, ◌+◌, ◌≤◌, length, if◌then◌else◌}
use Rattle.model.specs.declared.Settings.{Settings}
use Rattle.model.specs.declared.Arrival.{Arrival}
use Rattle.model.specs.declared.Message.{Message}
use Rattle.model.specs.declared.Phase.TheVariants.{Idle}
use Rattle.model.specs.Limits.{most_messages}
use Rattle.model.specs.Messages.{to_coordinator}
use Rattle.model.specs.Site.{observed, site_message_refusal}
use Rattle.model.specs.Coordinator.{is_announcing, coordinator_refusal}
use Rattle.model.specs.Network.{Network, site_at, with_site, Delivered, hand_over, ask_announcement, delivered, delivery_fuel, after_arrival}

-- ---- A delivery that goes on

-- The network now, the messages that wait, the oldest first, and all that went out so far.
pub record Delivery : Type 0 where
  pub network : Network
  pub waiting : List Message
  pub log : List Message

-- A delivery, in this order.
abbrev pub delivery : Network → List Message → List Message → Delivery
delivery network waiting log = record { network = network; waiting = waiting; log = log }

-- What a call left joins a delivery: its messages wait last, and are logged.
abbrev pub joining : Delivered → List Message → List Message → Delivery
joining after waiting log =
    delivery after.network (waiting ++ after.messages) (log ++ after.messages)

-- The head of the queue goes first; a kind 7 is asked for only while nothing waits.
abbrev pub step_with : Settings → Network → List Message → List Message → Delivery
step_with settings network [] log =
    if is_announcing network.coordinator.phase
    then joining (ask_announcement settings network) [] log
    else delivery network [] log
step_with settings network (m ∷ waiting) log = joining (hand_over settings network m) waiting log

-- One step of the model's delivery.
abbrev pub delivery_step : Settings → Delivery → Delivery
delivery_step settings d = step_with settings d.network d.waiting d.log

-- So many steps of it.
abbrev pub delivery_steps : ℕ → Settings → Delivery → Delivery
delivery_steps zero settings d = d
delivery_steps (suc more) settings d = delivery_steps more settings (delivery_step settings d)

-- What a delivery comes to: its network, and all that went out.
abbrev pub outcome : Delivery → Delivered
outcome d = record { network = d.network; messages = d.log }

-- The arrival is observed, and its own messages wait.
abbrev pub delivery_of : Settings → Network → Arrival → Delivery
delivery_of settings network arrival =
    let after = observed settings (site_at network arrival.site) arrival in
    delivery (with_site network arrival.site after.site) after.messages after.messages

-- Whom a message is for, and why it is refused there: by the coordinator, or by the site it names.
abbrev pub message_refusal : Settings → Network → Message → ℕ
message_refusal settings network m =
    if to_coordinator m
    then coordinator_refusal settings network.coordinator m
    else site_message_refusal settings (site_at network m.site) m.site m

-- ---- The claims

-- The model's delivery after an arrival, with other fuel.
abbrev pub delivered_with : ℕ → Settings → Network → Arrival → Delivered
delivered_with fuel settings network arrival =
    let start = delivery_of settings network arrival in
    delivered fuel settings start.network start.waiting start.log

-- Every message has been handed over, and no kind 7 is to come.
pub record Resting (d : Delivery) : Type 0 where
  pub nothing_waits : d.waiting ≡ []
  pub idle : d.network.coordinator.phase ≡ Idle

-- For every network whose coordinator is idle, whether it arose or not, whatever its numbers and
-- however many sites its list holds, and every arrival, to whatever site.
pub record DeliveryClaims : Type 0 where
  -- "At most 23 × k + 2 messages follow one draw."
  pub few_messages : (settings : Settings) (network : Network) (arrival : Arrival)
      → network.coordinator.phase ≡ Idle
      → length (after_arrival settings network arrival).messages ≤ most_messages settings
  -- The model's delivery takes so many of these steps; `Resting` says what it leaves waiting.
  pub is_steps : (fuel : ℕ) (settings : Settings) (network : Network) (waiting log : List Message)
      → delivered fuel settings network waiting log
      ≡ outcome (delivery_steps fuel settings (delivery network waiting log))
  -- With the model's fuel every message has been handed over, and the coordinator is idle.
  pub comes_to_rest : (settings : Settings) (network : Network) (arrival : Arrival)
      → network.coordinator.phase ≡ Idle
      → Resting
      (delivery_steps (delivery_fuel settings) settings (delivery_of settings network arrival))
  -- More fuel changes nothing.
  pub more_fuel : (settings : Settings) (network : Network) (arrival : Arrival) (more : ℕ)
      → network.coordinator.phase ≡ Idle
      → delivered_with (delivery_fuel settings + more) settings network arrival
      ≡ after_arrival settings network arrival
