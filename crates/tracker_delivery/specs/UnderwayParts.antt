-- What is under way in a delivery: the records, the counts of messages, how many messages stand in
-- the log, and those that wait.
--
--   Underway                      what is under way
--   resting ..                    a network at rest: nothing waits
--   ended_of ended counts          the same, of a delivery that has come to its end
--   traffic_of underway           the messages of what is under way, but for their counts
--   underway_of, with_traffic     what is under way, put together from its parts
use Rattle.std.specs.Prelude.{List, ℕ}
use Rattle.model.specs.declared.SiteRecord.{SiteRecord}
use Rattle.model.specs.declared.Sites.{Sites}
use Rattle.model.specs.declared.CoordinatorRecord.{CoordinatorRecord}
use Rattle.tracker_queue.specs.declared.Queue.{Queue}
use Rattle.tracker_queue.specs.declared.Traffic.{Traffic}
use Rattle.tracker_queue.specs.Sending.{nothing_waits}
use Rattle.tracker_delivery.specs.declared.Ended.{Ended}

pub record Underway : Type 0 where
  pub sites : Sites
  pub coordinator : CoordinatorRecord
  -- the messages written to the log so far, and those that wait
  pub written : ℕ
  pub waiting : Queue

abbrev pub underway_of : List SiteRecord → List ℕ → CoordinatorRecord → Traffic → Underway
underway_of records counts coordinator traffic = record {
  sites = record { records = records; messages = counts };
  coordinator = coordinator;
  written = traffic.written;
  waiting = traffic.waiting;
}

abbrev pub resting : List SiteRecord → List ℕ → CoordinatorRecord → ℕ → Underway
resting records counts coordinator written =
    underway_of records counts coordinator (record { written = written; waiting = nothing_waits })

abbrev pub ended_of : Ended → List ℕ → Underway
ended_of ended counts = resting ended.records counts ended.coordinator ended.written

abbrev pub traffic_of : Underway → Traffic
traffic_of underway = record {
  written = underway.written;
  waiting = underway.waiting;
}

abbrev pub with_traffic : Underway → List ℕ → Traffic → Underway
with_traffic underway counts =
    underway_of underway.sites.records counts underway.coordinator
