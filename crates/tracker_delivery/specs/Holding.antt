-- What a delivery requires and promises: records, lent memory and log hold the model's delivery,
-- written over what was given before the first arrival; and where that delivery came from.
--
--   WithLog                what is held, and a log: before the first arrival, what was given
--   Carrying               a delivery under way with all that it is carried out on
--   carrying, underway_in  the same from what code has under way, and back
--   with_messages          with other messages, counts and another log
--   answered               the same when the answer of a step has gone out
--   Holds                  it is the model's delivery, written over what was given
--   Fits                   what was given has room for the settings' network
--   Going                  a delivery that was reached from an accepted arrival at a sound network
--   Delivering             some delivery goes on: what a step of it requires
--   StepSays               what a step of it comes to
--   EndSays                all of it
use Rattle.std.specs.Prelude.{◌≡◌, Bool, not, ◌||◌, List, [], ◌++◌, ℕ, ◌+◌, ◌≤◌, ◌<◌, length}
use Rattle.model.specs.declared.Settings.{Settings}
use Rattle.model.specs.declared.Arrival.{Arrival}
use Rattle.model.specs.declared.Message.{Message}
use Rattle.model.specs.declared.CoordinatorRecord.{CoordinatorRecord}
use Rattle.model.specs.Choice.{is_zero}
use Rattle.model.specs.Refusals.{no_refusal}
use Rattle.model.specs.Limits.{most_messages, message_limit}
use Rattle.model.specs.Settings.{settings_refusal}
use Rattle.model.specs.SiteMemory.{overwrite}
use Rattle.model.specs.Coordinator.{is_announcing}
use Rattle.model.specs.CoordinatorMemory.{coordinator_record, coordinator_memory, coordinator_words}
use Rattle.model.specs.Network.{Network, Delivered, after_arrival}
use Rattle.model.specs.MessageCounts.{count_at, counted_up}
use Rattle.model.specs.NetworkMemory.{site_records, sites_memory, sites_words}
use Rattle.model.specs.Held.{Held, held_by}
use Rattle.model.specs.Runs.{refusal_in}
use Rattle.model.specs.SoundNetwork.{Sound}
use Rattle.model.specs.NumberClaims.{Bounded}
use Rattle.model.specs.DeliveryClaims.{Delivery, delivery, delivery_step, delivery_of}
use Rattle.mid_delivery.specs.SoundClaims.{Reached}
use Rattle.tracker_queue.specs.declared.Queue.{Queue}
use Rattle.tracker_queue.specs.declared.Traffic.{Traffic}
use Rattle.tracker_queue.specs.Log.{log_room, message_numbers}
use Rattle.tracker_queue.specs.Sending.{queue_of, sent_if, logged_if, counted_if}
use Rattle.tracker_delivery.specs.UnderwayParts.{Underway, traffic_of, with_traffic}

-- ---- What is held

-- What a call over arrivals is given: "with a run and a log of its own".
pub record WithLog : Type 0 where
  pub held : Held
  pub log : List ℕ

pub record Carrying : Type 0 where
  pub held : Held
  pub log : List ℕ
  -- the messages written to the log so far, and those that wait
  pub written : ℕ
  pub waiting : Queue

abbrev pub carrying : Underway → List ℕ → List ℕ → List ℕ → Carrying
carrying underway site_memory coordinator_memory log = record {
  held = held_by underway.sites underway.coordinator site_memory coordinator_memory;
  log = log;
  written = underway.written;
  waiting = underway.waiting;
}

-- The same without lent memory and log, as code has it.
abbrev pub underway_in : Carrying → Underway
underway_in carry = record {
  sites = carry.held.sites;
  coordinator = carry.held.coordinator;
  written = carry.written;
  waiting = carry.waiting;
}

-- The messages, their counts and the log as they are then.
abbrev pub with_messages : Carrying → Traffic → List ℕ → List ℕ → Carrying
with_messages carry traffic counts =
    carrying (with_traffic (underway_in carry) counts traffic) carry.held.site_memory
    carry.held.coordinator_memory

-- The answer of a step has gone out, if there is one.
abbrev pub answered : ℕ → Message → Carrying → Carrying
answered count m carry =
    with_messages carry (sent_if count (traffic_of (underway_in carry)) m)
    (counted_if count carry.held.sites.messages m)
    (logged_if count carry.log carry.written m)

-- The messages since the call began: those of earlier arrivals, then the delivery's own.
pub record Holds
    (settings : Settings)
    (given : WithLog)
    (earlier : List Message)
    (d : Delivery)
    (carry : Carrying) : Type 0 where
  pub records : carry.held.sites.records
      ≡ site_records d.network.sites given.held.sites.records
  pub counted : carry.held.sites.messages
      ≡ counted_up given.held.sites.messages (earlier ++ d.log)
  pub coordinator : carry.held.coordinator ≡ coordinator_record d.network.coordinator
  pub written : carry.written ≡ length (earlier ++ d.log)
  pub waiting : carry.waiting ≡ queue_of d.waiting
  pub site_memory : carry.held.site_memory
      ≡ sites_memory settings d.network.sites given.held.site_memory
  pub coordinator_memory : carry.held.coordinator_memory
      ≡ coordinator_memory d.network.coordinator given.held.coordinator_memory
  pub log : carry.log ≡ overwrite (message_numbers (earlier ++ d.log)) given.log

-- ---- What a delivery requires

pub record Fits (settings : Settings) (given : WithLog) : Type 0 where
  pub settings_accepted : settings_refusal settings ≡ no_refusal
  pub all_records : settings.sites ≤ length given.held.sites.records
  pub site_memory_long : sites_words settings ≤ length given.held.site_memory
  pub coordinator_memory_long : coordinator_words settings ≤ length given.held.coordinator_memory
  pub few_counted : (j : ℕ) → j < settings.sites
      → count_at given.held.sites.messages j ≤ message_limit

-- An arrival that a network at rest accepts, with a log that has place for all its messages.
pub record Accepting
    (settings : Settings)
    (given : WithLog)
    (earlier : List Message)
    (network : Network)
    (arrival : Arrival) : Type 0 where
  pub fits : Fits settings given
  pub room : length earlier + most_messages settings ≤ log_room given.log
  pub sound : Sound settings network
  pub bounded : Bounded network
  pub taken : refusal_in settings network arrival ≡ no_refusal

-- A delivery that the arrival set off, after so many steps.
pub record Going
    (settings : Settings)
    (given : WithLog)
    (earlier : List Message)
    (network : Network)
    (arrival : Arrival)
    (steps : ℕ)
    (d : Delivery) : Type 0 where
  pub accepting : Accepting settings given earlier network arrival
  pub reached : Reached settings (delivery_of settings network arrival) steps d
  pub few_waiting : length d.waiting ≤ 2

pub record Delivering (settings : Settings) (carry : Carrying) : Type 0 where
  pub given : WithLog
  pub earlier : List Message
  pub network : Network
  pub arrival : Arrival
  pub steps : ℕ
  pub now : Delivery
  pub going : Going settings given earlier network arrival steps now
  pub holds : Holds settings given earlier now carry

-- ---- What it promises

-- A message waits, or the next kind 7 is to be asked for.
abbrev pub goes_on : CoordinatorRecord → Queue → Bool
goes_on coordinator waiting = not (is_zero waiting.count) || is_announcing coordinator.phase

-- What a step of a delivery comes to, whatever delivery the state holds.
pub record StepSays (settings : Settings) (before after : Carrying) : Type 0 where
  pub next : (u : Delivering settings before)
      → Holds settings u.given u.earlier (delivery_step settings u.now) after

-- A delivery that came to rest.
abbrev pub rested : Delivered → Delivery
rested after = delivery after.network [] after.messages

pub record EndSays (settings : Settings) (before after : Carrying) : Type 0 where
  pub ends : (u : Delivering settings before)
      → Holds settings u.given u.earlier
      (rested (after_arrival settings u.network u.arrival)) after
