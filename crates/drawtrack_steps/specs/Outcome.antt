-- What comes of a call of a session: its answer, and what it leaves in every place of lent memory.
-- A session that is refused writes the refusal's line and ends; all that it was lent but for the
-- output is then as it was.
--
--   Buffers, Outcome                 what a call is lent; its answer, and what it leaves
--   held_of session ..                the session's records with both memories
--   ended session refusal written    the session goes on no more
--   refused_of session refusal given  the outcome of a refusal
--   RefuseSays ..                       the promise of the call that makes it
use Rattle.std.specs.Prelude.{◌≡◌, false, List, ℕ, length}
use Rattle.model.specs.Held.{Held, held_by}
use Rattle.model.specs.Transcript.{refused_line}
use Rattle.drawtrack_steps.specs.declared.Session.{Session}
use Rattle.output_lines.specs.Promises.{at_start, line_after}
use Rattle.drawtrack_steps.specs.declared.Moved.{Moved}

-- ---- What a call is lent, and what comes of it

-- Both memories, log, list and output. `begin` is lent no log and no list: these are empty.
pub record Buffers : Type 0 where
  pub site_memory : List ℕ
  pub coordinator_memory : List ℕ
  pub log : List ℕ
  pub list : List ℕ
  pub out : List ℕ

abbrev pub buffers : List ℕ → List ℕ → List ℕ → List ℕ → List ℕ → Buffers
buffers site_memory coordinator_memory log list out = record {
  site_memory = site_memory;
  coordinator_memory = coordinator_memory;
  log = log;
  list = list;
  out = out;
}

-- What is held: the session's records, with both memories.
abbrev pub held_of : Session → List ℕ → List ℕ → Held
held_of session = held_by session.sites session.coordinator

abbrev pub with_out : Buffers → List ℕ → Buffers
with_out given out =
    buffers given.site_memory given.coordinator_memory given.log given.list out

abbrev pub with_list : Buffers → List ℕ → Buffers
with_list given list =
    buffers given.site_memory given.coordinator_memory given.log list given.out

pub record Outcome : Type 0 where
  pub moved : Moved
  pub left : Buffers

abbrev pub outcome : Moved → Buffers → Outcome
outcome moved left = record { moved = moved; left = left }

-- A slice keeps its length.
pub record SameLengths (given left : Buffers) : Type 0 where
  pub site_memory : length left.site_memory ≡ length given.site_memory
  pub coordinator_memory : length left.coordinator_memory ≡ length given.coordinator_memory
  pub log : length left.log ≡ length given.log
  pub list : length left.list ≡ length given.list
  pub out : length left.out ≡ length given.out

-- ---- A refusal

-- The session as it was, but it goes on no more, by a refusal or by 0.
abbrev pub stopped : Session → ℕ → Session
stopped session refusal = record {
  going = false;
  refusal = refusal;
  settings = session.settings;
  sites = session.sites;
  coordinator = session.coordinator;
  at = session.at;
  line = session.line;
}

abbrev pub ended : Session → ℕ → ℕ → Moved
ended session refusal written = record { session = stopped session refusal; written = written }

-- "On a refusal it writes `refused` and the number .., and stops."
abbrev pub refused_of : Session → ℕ → Buffers → Outcome
refused_of session refusal given =
    let written = line_after (at_start given.out) (refused_line refusal) in
    outcome (ended session refusal written.place) (with_out given written.out)

-- For whatever the call is not lent.
pub record RefuseSays (session : Session) (refusal : ℕ) (before after : List ℕ) (answer : Moved)
    : Type 0 where
  pub is : (given : Buffers)
      → outcome answer (with_out given after) ≡ refused_of session refusal (with_out given before)
