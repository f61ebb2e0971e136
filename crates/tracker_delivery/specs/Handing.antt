-- A hand-over in a delivery: the head of the messages that wait goes to whom it is for, or, where
-- none waits, the next kind 7 is asked for.
--
--   site_of_head waiting      the site that the head is for; 0 if it is for none
--   coordinator_change ..     what the coordinator's answer changes
--   with_queue traffic ..     with other messages waiting
--   changed underway by       what is under way with a hand-over's changes
--   HandedStep                    they are a step of the delivery
--   HandAsks, HandSays        what a hand-over requires, and what it comes to
use Rattle.std.specs.Prelude.{◌≡◌, true, List, ℕ, get_or, set, if◌then◌else◌}
use Rattle.model.specs.declared.Settings.{Settings}
use Rattle.model.specs.declared.SiteRecord.{SiteRecord}
use Rattle.model.specs.declared.CoordinatorRecord.{CoordinatorRecord}
use Rattle.model.specs.Choice.{is_zero}
use Rattle.model.specs.Messages.{to_coordinator}
use Rattle.model.specs.DeliveryClaims.{delivery_step}
use Rattle.coordinator_kinds.specs.declared.Answered.{Answered}
use Rattle.model.specs.Held.{no_record}
use Rattle.tracker_queue.specs.declared.Queue.{Queue}
use Rattle.tracker_queue.specs.declared.Traffic.{Traffic}
use Rattle.tracker_delivery.specs.declared.Change.{Change}
use Rattle.tracker_queue.specs.Sending.{SendAsks}
use Rattle.tracker_delivery.specs.UnderwayParts.{Underway, traffic_of, underway_of}
use Rattle.tracker_delivery.specs.Holding.{carrying, answered, Holds, Delivering, goes_on}

abbrev pub site_of_head : Queue → ℕ
site_of_head waiting =
    if is_zero waiting.count then 0
    else (if to_coordinator waiting.first then 0
    else waiting.first.site)

-- No site's record changes: that of site 0 is put back as it is.
abbrev pub coordinator_change : SiteRecord → Queue → Answered → Change
coordinator_change own waiting answer = record {
  site = own;
  coordinator = answer.coordinator;
  waiting = waiting;
  count = answer.count;
  out = answer.out;
}

abbrev pub with_queue : Traffic → Queue → Traffic
with_queue traffic waiting = record {
  written = traffic.written;
  waiting = waiting;
}

abbrev pub changed : Underway → Change → Underway
changed underway by =
    underway_of
    (set underway.sites.records (site_of_head underway.waiting) by.site)
    underway.sites.messages
    by.coordinator
    (with_queue (traffic_of underway) by.waiting)

-- With the answer going out, if there is one, the change is a step of the delivery.
pub record HandedStep
    (settings : Settings)
    (underway : Underway)
    (site_memory coordinatorBefore coordinator_after : List ℕ)
    (by : Change) : Type 0 where
  pub sends : (log : List ℕ)
      → Delivering settings (carrying underway site_memory coordinatorBefore log)
      → (by.count ≡ 0 → ⊥)
      → SendAsks (traffic_of (changed underway by)) by.out underway.sites.messages log
  pub next : (log : List ℕ)
      (u : Delivering settings (carrying underway site_memory coordinatorBefore log))
      → Holds settings u.given u.earlier (delivery_step settings u.now)
      (answered by.count by.out
      (carrying (changed underway by) site_memory coordinator_after log))

-- Some delivery goes on. The log is not looked at while a message is handed over, nor are the
-- records of other sites than the one that the head is for.
pub record HandAsks
    (settings : Settings)
    (own : SiteRecord)
    (coordinator : CoordinatorRecord)
    (waiting : Queue)
    (site_memory coordinator_memory : List ℕ) : Type 0 where
  pub records : List SiteRecord
  pub counts : List ℕ
  pub traffic : Traffic
  pub log : List ℕ
  pub own_is : own ≡ get_or records (site_of_head waiting) no_record
  pub delivering : Delivering settings
      (carrying (underway_of records counts coordinator (with_queue traffic waiting)) site_memory
      coordinator_memory log)
  pub goes_on : goes_on coordinator waiting ≡ true

-- The step of the delivery, whatever delivery it was.
pub record HandSays
    (settings : Settings)
    (own : SiteRecord)
    (coordinator : CoordinatorRecord)
    (waiting : Queue)
    (site_memory coordinatorBefore coordinator_after : List ℕ)
    (by : Change) : Type 0 where
  pub handed : (records : List SiteRecord) (counts : List ℕ) (traffic : Traffic)
      → own ≡ get_or records (site_of_head waiting) no_record
      → HandedStep settings (underway_of records counts coordinator (with_queue traffic waiting))
      site_memory coordinatorBefore coordinator_after by
