-- The contract of the batch call, document 01's call over many draws: by the model's `batch_of`,
-- what number, records and every place of lent memory and log equal, refused or not.
--
--   BatchSays ..                  the promise
-- Passed on: log_room, message_numbers and messages_in, the log as crate `tracker_delivery` has it,
-- and BatchHeld of crate `tracker_steps`.
use Rattle.std.specs.Prelude.{◌≡◌, List, ℕ, length, if◌then◌else◌}
use Rattle.model.specs.declared.Settings.{Settings}
use Rattle.model.specs.declared.Arrival.{Arrival}
use Rattle.model.specs.declared.Sites.{Sites}
use Rattle.model.specs.Choice.{is_zero}
use Rattle.model.specs.SiteMemory.{overwrite}
use Rattle.model.specs.CoordinatorMemory.{coordinator_record, coordinator_memory}
use Rattle.model.specs.MessageCounts.{counted_up}
use Rattle.model.specs.NetworkMemory.{site_records, sites_memory}
use Rattle.model.specs.Held.{Held, network_of, held_refusal}
use Rattle.model.specs.Runs.{Batch, batch_of}
pub use Rattle.tracker_queue.specs.Log.{log_room, message_numbers, messages_in}
pub use Rattle.tracker_steps.specs.Steps.{BatchHeld, batch_held}

-- ---- The call

-- All that the call is given.
pub record BatchCall : Type 0 where
  pub settings : Settings
  pub held : Held
  pub arrivals : List Arrival
  pub log : List ℕ

-- "4 and 11 are tested once, when a call starts."
abbrev pub start_refusal : BatchCall → ℕ
start_refusal call = held_refusal call.settings call.held

-- The model's batch on the network that records and memory hold.
abbrev pub batch_in : BatchCall → Batch
batch_in call =
    batch_of call.settings (log_room call.log) (network_of call.settings call.held)
    call.arrivals

-- What a call hands back or leaves: something of the batch, or what it was given if it is refused
-- when it starts.
abbrev pub unless_refused : {A : Type 0} → BatchCall → A → A → A
unless_refused call done given = if is_zero (start_refusal call) then done else given

-- The `Sites` value then: "the bench's count .. to which the many-draw call alone adds what it
-- writes", of each deck by itself (request N5): each message for the site that it names.
abbrev pub sites_after : BatchCall → Sites
sites_after call = record {
  records = site_records (batch_in call).network.sites call.held.sites.records;
  messages = counted_up call.held.sites.messages (batch_in call).messages;
}

pub record BatchSays (call : BatchCall) (left : BatchHeld) : Type 0 where
  -- 1, 2, 3, 4, 11 at the start; then 5, 6, 7, 8, 14 before an arrival
  pub refusal : left.refusal ≡ unless_refused call (batch_in call).refusal (start_refusal call)
  pub accepted : left.accepted ≡ unless_refused call (batch_in call).accepted 0
  pub written : left.written ≡ unless_refused call (length (batch_in call).messages) 0
  pub sites : left.held.sites ≡ unless_refused call (sites_after call) call.held.sites
  pub coordinator : left.held.coordinator
      ≡ unless_refused call (coordinator_record (batch_in call).network.coordinator)
      call.held.coordinator
  pub site_memory : left.held.site_memory
      ≡ unless_refused call
      (sites_memory call.settings (batch_in call).network.sites call.held.site_memory)
      call.held.site_memory
  pub coordinator_memory : left.held.coordinator_memory
      ≡ unless_refused call
      (coordinator_memory (batch_in call).network.coordinator call.held.coordinator_memory)
      call.held.coordinator_memory
  -- "Places of a list or log after the last one written keep what they held."
  pub log : left.log
      ≡ unless_refused call (overwrite (message_numbers (batch_in call).messages) call.log)
      call.log
