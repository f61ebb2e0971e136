-- What the calls that change the desk promise: the promise of the coordinator's call behind each,
-- on the record that the row stands for; and the row and the message where it accepts. A row that
-- is no record is inconsistent memory (crate coordinator_numbers, specs/Claims.antt).
--
--   StartDeskExported       starting the desk
--   DeskMessageExported     a message for the desk
--   AnnouncementExported    the next kind 7
use Rattle.std.specs.Prelude.{◌≡◌, ℕ}
use Rattle.model.specs.Refusals.{no_refusal}
use Rattle.coordinator.specs.Calls.{Reception, CoordinatorStart, StartCoordinatorSays, CoordinatorReceiveSays, AnnounceSays}
use Rattle.record_numbers.specs.Numbers.{settings_from, message_read, message_numbers, coordinator_read, coordinator_numbers}
use Rattle.library_rows.specs.Rows.{Row, Number, handed_out, HandMessageSays}

pub record StartDeskExported (settings desk memory : Row) (answer : ℕ) : Type 0 where
  pub started : CoordinatorStart
  pub says : StartCoordinatorSays (settings_from settings.before) memory.before
      memory.after started
  pub refusal : answer ≡ started.refusal
  pub desk_is : desk.after
      ≡ handed_out started.refusal (coordinator_numbers started.coordinator) desk.before

pub record DeskMessageExported (settings desk memory message out : Row) (count : Number)
    (answer : ℕ) : Type 0 where
  pub received : Reception
  pub says : CoordinatorReceiveSays (settings_from settings.before)
      (coordinator_read desk.before) (message_read message.before) memory.before
      memory.after received
  pub refusal : answer ≡ received.refusal
  pub desk_is : desk.after
      ≡ handed_out received.refusal (coordinator_numbers received.coordinator) desk.before
  pub out_is : HandMessageSays received.refusal received.count received.out out count

pub record AnnouncementExported (settings desk memory out : Row) (answer : ℕ) : Type 0 where
  pub received : Reception
  pub says : AnnounceSays (settings_from settings.before) (coordinator_read desk.before)
      memory.before received
  pub refusal : answer ≡ received.refusal
  -- accepted, it hands out a message
  pub one : received.refusal ≡ no_refusal → received.count ≡ 1
  pub desk_is : desk.after
      ≡ handed_out received.refusal (coordinator_numbers received.coordinator) desk.before
  pub out_is : out.after
      ≡ handed_out received.refusal (message_numbers received.out) out.before
