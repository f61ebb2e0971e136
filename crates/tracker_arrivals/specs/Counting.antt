-- One arrival of the batch call after its turn: the answer that counts it, and its messages.
--
--   counted answer which turn          the answer with a turn in it
--   CountTurnAsks                      a turn that can be counted
--   SentSays                           the messages of a turn, part by part of the answer
--   DeliverTurnAsks, DeliverTurnSays   the same of the whole answer
use Rattle.std.specs.Prelude.{◌≡◌, true, ℕ, ◌+◌, ◌≤◌, ◌<◌}
use Rattle.model.specs.declared.Settings.{Settings}
use Rattle.model.specs.declared.Arrival.{Arrival}
use Rattle.model.specs.Limits.{most_sites}
use Rattle.model.specs.Draws.{is_draw}
use Rattle.model.specs.Runs.{Batch}
use Rattle.model.specs.Held.{with_record}
use Rattle.tracker_queue.specs.declared.Queue.{Queue}
use Rattle.tracker_delivery.specs.Holding.{WithLog, Carrying}
use Rattle.tracker_delivery.specs.Arriving.{Taken, MessagesSay}
use Rattle.tracker_steps.specs.Steps.{BatchOutcome, BatchHeld, run_limit, with_one, resting_in, BatchHolds}
use Rattle.tracker_steps.specs.Turns.{TurnOutcome}

-- ---- The answer with a turn in it

-- The refusal, the arrivals accepted, and the record of the site at this place. The turn of a touch
-- or of a refused arrival brings the record that stands there.
abbrev pub counted : BatchOutcome → ℕ → TurnOutcome → BatchOutcome
counted answer which turn = record {
  refusal = turn.refusal;
  accepted = answer.accepted + turn.taken;
  written = answer.written;
  sites = with_record answer.sites which turn.site;
  coordinator = answer.coordinator;
}

pub record CountTurnAsks (answer : BatchOutcome) (which : ℕ) (turn : TurnOutcome) : Type 0 where
  pub which_within : which < most_sites
  pub accepted_within : answer.accepted + 1 < run_limit
  pub taken_within : turn.taken ≤ 1

-- ---- The messages of a turn

-- The sites' memory is only read.
pub record SentSays (settings : Settings) (out : Queue) (before after : Carrying) : Type 0 where
  pub says : MessagesSay settings out before after
  pub memory_kept : after.held.site_memory ≡ before.held.site_memory

pub record DeliverTurnAsks (settings : Settings) (out : Queue) (now : BatchHeld) : Type 0 where
  pub given : WithLog
  pub batch : Batch
  pub arrival : Arrival
  pub is_draw_lem : is_draw arrival ≡ true
  pub accepted_more : now.accepted ≡ batch.accepted + 1
  pub taken : Taken settings given batch.messages batch.network arrival out
      (resting_in now)

pub record DeliverTurnSays (settings : Settings) (out : Queue) (before after : BatchHeld) : Type 0
  where
    pub next : (u : DeliverTurnAsks settings out before)
        → BatchHolds settings u.given (with_one settings u.batch u.arrival) after
