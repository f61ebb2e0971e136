-- The parts of the batch call: its start, and one arrival of it.
--
--   BatchOutcome, batch_outcome        the answer with the number of what stopped it
--   BatchHeld                          an answer with what is held and the log
--   batch_held, batch_answer           the same from the answer and lent memory; the answer of it
--   opened refusal sites coordinator   the answer before the first arrival
--   OpenBatchSays                           the start's promise
--   places_refusal ..                  5, 6, 7, 8, 14 from a record and the log's length
--   with_delivered, with_one           a batch with one arrival more
--   batch_one settings room batch a    one arrival of the model's batch
--   run_limit                          what a count of arrivals stays below
--   resting_on .., resting_in now      a delivery at rest; what is held as such
--   BatchHolds                         a batch is held
--   BatchReady                         a batch that may take another arrival
--   OneAsks, OneSays                   one arrival of the call
use Rattle.std.specs.Prelude.{◌≡◌, List, [], ◌++◌, ℕ, ◌+◌, ◌-◌, ◌/◌, ◌^◌, ◌≤◌, ◌<◌, length, if◌then◌else◌}
use Rattle.model.specs.declared.Settings.{Settings}
use Rattle.model.specs.declared.Arrival.{Arrival}
use Rattle.model.specs.declared.SiteRecord.{SiteRecord}
use Rattle.model.specs.declared.Sites.{Sites}
use Rattle.model.specs.declared.CoordinatorRecord.{CoordinatorRecord}
use Rattle.model.specs.Choice.{is_zero}
use Rattle.model.specs.Refusals.{◌or_else◌, no_refusal}
use Rattle.model.specs.Limits.{most_sites}
use Rattle.model.specs.Messages.{message_width}
use Rattle.model.specs.Draws.{is_draw}
use Rattle.model.specs.Site.{line_refusal}
use Rattle.model.specs.Network.{Delivered, after_line}
use Rattle.model.specs.NetworkMemory.{network_refusal}
use Rattle.model.specs.Held.{Held, held_by}
use Rattle.model.specs.Runs.{Batch, log_refusal, batch_refusal}
use Rattle.model.specs.SoundNetwork.{Sound}
use Rattle.model.specs.NumberClaims.{Bounded}
use Rattle.model.specs.DeliveryClaims.{delivery}
use Rattle.site_refusals.specs.Bare.{bare_site}
use Rattle.tracker_queue.specs.Log.{log_room}
use Rattle.tracker_queue.specs.Sending.{nothing_waits}
use Rattle.tracker_delivery.specs.Stops.{stop_number}
use Rattle.tracker_delivery.specs.Holding.{Holds, Fits, WithLog, Carrying}
use Rattle.tracker_steps.specs.declared.BatchAnswer.{BatchAnswer}

-- ---- What a batch call answers

-- The refusal that stopped it or 0, the arrivals accepted, touches among them, the messages written
-- to the log, and both records as they are then.
pub record BatchOutcome : Type 0 where
  pub refusal : ℕ
  pub accepted : ℕ
  pub written : ℕ
  pub sites : Sites
  pub coordinator : CoordinatorRecord

-- What the answer says, with the number of what stopped it.
abbrev pub batch_outcome : BatchAnswer → BatchOutcome
batch_outcome answer = record {
  refusal = stop_number answer.refusal;
  accepted = answer.accepted;
  written = answer.written;
  sites = answer.sites;
  coordinator = answer.coordinator;
}

-- ---- What a batch call holds

-- The answer's numbers, what is held, and the log: when the call starts, between two arrivals, and
-- as it leaves them.
pub record BatchHeld : Type 0 where
  pub refusal : ℕ
  pub accepted : ℕ
  pub written : ℕ
  pub held : Held
  pub log : List ℕ

-- The records are the answer's.
abbrev pub batch_held : BatchOutcome → List ℕ → List ℕ → List ℕ → BatchHeld
batch_held answer site_memory coordinator_memory log = record {
  refusal = answer.refusal;
  accepted = answer.accepted;
  written = answer.written;
  held = held_by answer.sites answer.coordinator site_memory coordinator_memory;
  log = log;
}

abbrev pub batch_answer : BatchHeld → BatchOutcome
batch_answer now = record {
  refusal = now.refusal;
  accepted = now.accepted;
  written = now.written;
  sites = now.held.sites;
  coordinator = now.held.coordinator;
}

-- ---- The start

-- Nothing is accepted and nothing written yet.
abbrev pub opened : ℕ → Sites → CoordinatorRecord → BatchOutcome
opened refusal sites coordinator = record {
  refusal = refusal;
  accepted = 0;
  written = 0;
  sites = sites;
  coordinator = coordinator;
}

-- What the start answers; the memory is only read.
pub record OpenBatchSays
    (settings : Settings)
    (sites : Sites)
    (coordinator : CoordinatorRecord)
    (site_before coordinatorBefore : List ℕ)
    (answer : BatchOutcome)
    (site_after coordinator_after : List ℕ) : Type 0 where
  pub answered : answer
      ≡ opened (network_refusal settings sites coordinator site_before coordinatorBefore) sites
      coordinator
  pub site_memory_kept : site_after ≡ site_before
  pub coordinator_memory_kept : coordinator_after ≡ coordinatorBefore

-- ---- One arrival

-- "for a draw 5, 6, 7, 8, 14", from its site's record and so many numbers of log; a touch is not
-- tested for 8 and 14.
abbrev pub places_refusal : Settings → SiteRecord → Arrival → ℕ → ℕ → ℕ
places_refusal settings own arrival numbers written =
    line_refusal settings (bare_site own) arrival
    or_else (if is_draw arrival
    then log_refusal settings (numbers / message_width - written)
    else no_refusal)

-- The records written fit the log, and the network has no more sites than records.
pub record PlacesAsk (settings : Settings) (written numbers : ℕ) : Type 0 where
  pub few_sites : settings.sites ≤ most_sites
  pub written_within : written ≤ numbers / message_width

-- The batch with one arrival more, which came to this.
abbrev pub with_delivered : Batch → Delivered → Batch
with_delivered batch after = record {
  network = after.network;
  accepted = batch.accepted + 1;
  messages = batch.messages ++ after.messages;
  refusal = no_refusal;
}

-- The batch with one arrival more: a draw is taken with full delivery, a touch changes nothing.
abbrev pub with_one : Settings → Batch → Arrival → Batch
with_one settings batch arrival =
    with_delivered batch (after_line settings batch.network arrival)

-- The batch as it was, stopped by a refusal.
abbrev pub stopped_by : Batch → ℕ → Batch
stopped_by batch refusal = record {
  network = batch.network;
  accepted = batch.accepted;
  messages = batch.messages;
  refusal = refusal;
}

-- Why the next arrival is refused: 14 by the places of the log that the messages so far leave.
abbrev pub one_refusal : Settings → ℕ → Batch → Arrival → ℕ
one_refusal settings room batch arrival =
    batch_refusal settings batch.network (room - length batch.messages) arrival

-- What the next arrival comes to.
abbrev pub batch_one : Settings → ℕ → Batch → Arrival → Batch
batch_one settings room batch arrival =
    if is_zero (one_refusal settings room batch arrival)
    then with_one settings batch arrival
    else stopped_by batch (one_refusal settings room batch arrival)

-- ---- A batch that is held

-- A delivery that is carried out: nothing waits.
abbrev pub resting_on : Held → List ℕ → ℕ → Carrying
resting_on held log written = record {
  held = held;
  log = log;
  written = written;
  waiting = nothing_waits;
}

abbrev pub resting_in : BatchHeld → Carrying
resting_in now = resting_on now.held now.log now.written

-- The answer's numbers are the batch's; records and lent memory hold the batch's network, and the
-- log its messages.
pub record BatchHolds (settings : Settings) (given : WithLog) (batch : Batch) (now : BatchHeld)
    : Type 0 where
  pub refusal : now.refusal ≡ batch.refusal
  pub accepted : now.accepted ≡ batch.accepted
  pub holds : Holds settings given batch.messages (delivery batch.network [] [])
      (resting_in now)

-- The arrivals of a lent run are fewer than these, so a count of them is a machine number.
abbrev pub run_limit : ℕ
run_limit = 2 ^ 64

-- The network is sound and within the bounds, and the log holds what was sent.
pub record BatchReady (settings : Settings) (given : WithLog) (batch : Batch) : Type 0 where
  pub fits : Fits settings given
  pub sound : Sound settings batch.network
  pub bounded : Bounded batch.network
  pub messages_within : length batch.messages ≤ log_room given.log

-- Some batch is held that may take another arrival.
pub record OneAsks (settings : Settings) (now : BatchHeld) : Type 0 where
  pub given : WithLog
  pub batch : Batch
  pub ready : BatchReady settings given batch
  -- touches are accepted beyond all limits but that of the run
  pub accepted_within : batch.accepted + 1 < run_limit
  pub holds : BatchHolds settings given batch now

-- One arrival of the model's batch, whatever batch is held.
pub record OneSays (settings : Settings) (arrival : Arrival) (before after : BatchHeld) : Type 0
  where
    pub next : (u : OneAsks settings before)
        → BatchHolds settings u.given
        (batch_one settings (log_room u.given.log) u.batch arrival) after
