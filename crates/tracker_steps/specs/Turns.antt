-- The turn of an arrival of the batch call at its site, the first of its three parts; the answer
-- that counts it and its messages with full delivery are in crate tracker_arrivals.
--
--   place_of arrival            the place of its site among the records
--   own_of sites arrival        the record that stands there
--   TurnOutcome, turn_outcome   what a turn comes to, refused or not
--   left_turn number taken own  the turn of an arrival that leaves its site as it was
--   taken_in now ..            what is held when the arrival's site has taken it
--   TurnAsks, TurnSays         an arrival is refused, or a touch, or its site takes it
use Rattle.std.specs.Prelude.{◌≡◌, true, false, List, ℕ, ltb, length, if◌then◌else◌, Result, Ok, Err}
use Rattle.model.specs.declared.Settings.{Settings}
use Rattle.model.specs.declared.Arrival.{Arrival}
use Rattle.model.specs.declared.SiteRecord.{SiteRecord}
use Rattle.model.specs.declared.Sites.{Sites}
use Rattle.model.specs.declared.Refusal.{Refusal}
use Rattle.model.specs.Refusals.{no_refusal, number_of}
use Rattle.model.specs.Limits.{most_sites}
use Rattle.model.specs.Draws.{is_draw}
use Rattle.model.specs.Runs.{Batch}
use Rattle.model.specs.Held.{record_in, after_site_call}
use Rattle.tracker_queue.specs.declared.Queue.{Queue}
use Rattle.tracker_queue.specs.Log.{log_room}
use Rattle.tracker_queue.specs.Sending.{nothing_waits}
use Rattle.tracker_delivery.specs.Holding.{WithLog}
use Rattle.tracker_delivery.specs.Arriving.{Taken}
use Rattle.tracker_steps.specs.declared.Turn.{Turn}
use Rattle.tracker_steps.specs.Steps.{BatchHeld, batch_held, batch_answer, one_refusal, resting_in, OneAsks}

-- ---- The turn

-- The place of an arrival's site among the records; 0 stands for a site that has none, since such
-- an arrival is refused whatever record is looked at.
abbrev pub place_of : Arrival → ℕ
place_of arrival = if ltb arrival.site most_sites then arrival.site else 0

-- The record that stands there.
abbrev pub own_of : Sites → Arrival → SiteRecord
own_of sites arrival = record_in sites (place_of arrival)

-- Why an arrival is refused or 0, the arrivals accepted, 1 or none, the record of its site, and the
-- messages that are to go out.
pub record TurnOutcome : Type 0 where
  pub refusal : ℕ
  pub taken : ℕ
  pub site : SiteRecord
  pub out : Queue

-- The turn of an arrival that is accepted.
abbrev pub taken_outcome : Turn → TurnOutcome
taken_outcome turn = record {
  refusal = no_refusal;
  taken = turn.taken;
  site = turn.site;
  out = turn.out;
}

-- A refused arrival leaves its site's record as it was, and so does a touch, which is accepted.
abbrev pub left_turn : ℕ → ℕ → SiteRecord → TurnOutcome
left_turn number taken own = record {
  refusal = number;
  taken = taken;
  site = own;
  out = nothing_waits;
}

-- What a turn comes to at a site that has this record: refused, all is as it was.
abbrev pub turn_outcome : SiteRecord → Result Turn Refusal → TurnOutcome
turn_outcome own (Ok turn) = taken_outcome turn
turn_outcome own (Err refusal) = left_turn (number_of refusal) 0 own

abbrev pub with_site_memory : BatchHeld → List ℕ → BatchHeld
with_site_memory now site_memory =
    batch_held (batch_answer now) site_memory now.held.coordinator_memory now.log

-- The site's record and the sites' memory as they are then.
abbrev pub taken_in : BatchHeld → ℕ → SiteRecord → List ℕ → BatchHeld
taken_in now which own site_memory = record {
  refusal = now.refusal;
  accepted = now.accepted;
  written = now.written;
  held = after_site_call now.held which own site_memory;
  log = now.log;
}

-- The answer is not handed over, only what is looked at: the site's record and the messages
-- written. Of lent memory only that of the sites is looked at, and of the log its length.
pub record TurnAsks
    (settings : Settings)
    (own : SiteRecord)
    (written : ℕ)
    (arrival : Arrival)
    (numbers : ℕ)
    (site_memory : List ℕ) : Type 0 where
  pub now : BatchHeld
  pub own_is : own ≡ own_of now.held.sites arrival
  pub written_is : written ≡ now.written
  pub numbers_are : numbers ≡ length now.log
  pub asks : OneAsks settings (with_site_memory now site_memory)

-- "left as it was: all but earlier draws' work"
pub record RefusedTurn
    (settings : Settings)
    (given : WithLog)
    (batch : Batch)
    (arrival : Arrival)
    (now : BatchHeld)
    (turn : TurnOutcome)
    (site_before site_after : List ℕ) : Type 0 where
  pub due : one_refusal settings (log_room given.log) batch arrival ≡ no_refusal → ⊥
  pub turn_is : turn
      ≡ left_turn (one_refusal settings (log_room given.log) batch arrival) 0
      (own_of now.held.sites arrival)
  pub memory_kept : site_after ≡ site_before

-- Request N2: "accepted with no change and no message", and "the many-draw call still counts such a
-- line among the draws accepted".
pub record TouchTurn
    (settings : Settings)
    (given : WithLog)
    (batch : Batch)
    (arrival : Arrival)
    (now : BatchHeld)
    (turn : TurnOutcome)
    (site_before site_after : List ℕ) : Type 0 where
  pub no_draw : is_draw arrival ≡ false
  pub none_due : one_refusal settings (log_room given.log) batch arrival ≡ no_refusal
  pub turn_is : turn ≡ left_turn no_refusal 1 (own_of now.held.sites arrival)
  pub memory_kept : site_after ≡ site_before

-- The draw's site has taken it, and that site's record and memory hold so.
pub record TakenTurn
    (settings : Settings)
    (given : WithLog)
    (batch : Batch)
    (arrival : Arrival)
    (now : BatchHeld)
    (turn : TurnOutcome)
    (site_after : List ℕ) : Type 0 where
  pub is_draw_lem : is_draw arrival ≡ true
  pub none_due : one_refusal settings (log_room given.log) batch arrival ≡ no_refusal
  pub refusal_none : turn.refusal ≡ no_refusal
  pub taken_one : turn.taken ≡ 1
  pub place_is : place_of arrival ≡ arrival.site
  pub taken : Taken settings given batch.messages batch.network arrival turn.out
      (resting_in (taken_in now arrival.site turn.site site_after))

pub data TurnTold
    (settings : Settings)
    (given : WithLog)
    (batch : Batch)
    (arrival : Arrival)
    (now : BatchHeld)
    (turn : TurnOutcome)
    (site_before site_after : List ℕ) : Type 0 where
  refused : RefusedTurn settings given batch arrival now turn site_before site_after
      → TurnTold settings given batch arrival now turn site_before site_after
  touched : TouchTurn settings given batch arrival now turn site_before site_after
      → TurnTold settings given batch arrival now turn site_before site_after
  taken : TakenTurn settings given batch arrival now turn site_after
      → TurnTold settings given batch arrival now turn site_before site_after

-- The turn, whatever answer has that record, and whatever batch it holds.
pub record TurnSays
    (settings : Settings)
    (own : SiteRecord)
    (written : ℕ)
    (arrival : Arrival)
    (numbers : ℕ)
    (before : List ℕ)
    (turn : TurnOutcome)
    (after : List ℕ) : Type 0 where
  pub told : (now : BatchHeld)
      → own ≡ own_of now.held.sites arrival
      → written ≡ now.written
      → numbers ≡ length now.log
      → (u : OneAsks settings (with_site_memory now before))
      → TurnTold settings u.given u.batch arrival now turn before after
