-- What holds of the calls of a session, one by one and all together. The theorem `session-claims`
-- of proofs/Theorem.antt proves it.
use Rattle.std.specs.Prelude.{◌≡◌, true, false, List, ℕ, ◌*◌, ◌≤◌, length, take, drop}
use Rattle.model.specs.declared.Arrival.{Arrival}
use Rattle.model.specs.Lines.{read_fields}
use Rattle.model.specs.Transcript.{transcript}
use Rattle.worklist_reader.specs.Walk.{last_line, step_at}
use Rattle.drawtrack_steps.specs.declared.Session.{Session}
use Rattle.drawtrack_steps.specs.declared.Moved.{Moved}
use Rattle.drawtrack_steps.specs.Outcome.{Buffers, stopped}
use Rattle.drawtrack_start.specs.Limits.{site_room, coordinator_room}
use Rattle.drawtrack_course.specs.Rooms.{out_room, input_room}
use Rattle.drawtrack_session.specs.Begin.{first_session, BeginSays}
use Rattle.drawtrack_session.specs.Advance.{AdvanceSays}
use Rattle.drawtrack_course.specs.Course.{Represents, Room, BeginRight, LineRight, Course}
use Rattle.drawtrack_course.specs.Ending.{Front, EndsAs, ending_at, ending_line, ending}

-- The last call of a session, refused or not: the session stands where it stood, with its records,
-- and knows why it ended; both memories and the log are as they were.
pub record LastKept (session : Session) (given left : Buffers) (answer : Moved) : Type 0 where
  pub session_stopped : answer.session ≡ stopped session answer.session.refusal
  pub site_memory : left.site_memory ≡ given.site_memory
  pub coordinator_memory : left.coordinator_memory ≡ given.coordinator_memory
  pub log : left.log ≡ given.log

-- What a call keeps. It writes the first bytes of the output; those after them are as they were.
pub record Keeps (session : Session) (given left : Buffers) (answer : Moved) : Type 0 where
  pub within : answer.written ≤ length left.out
  pub out_rest : drop answer.written left.out ≡ drop answer.written given.out
  pub last : answer.session.going ≡ false → LastKept session given left answer

pub record SessionClaims : Type 0 where
  -- ---- One call

  pub begin_keeps : (input : List ℕ) (given left : Buffers) (answer : Moved)
      → BeginSays input given left answer
      → Keeps (first_session input (read_fields 6 input)) given left answer
  pub advance_keeps : (input : List ℕ) (session : Session) (given left : Buffers) (answer : Moved)
      → AdvanceSays input session given left answer
      → Keeps session given left answer
  -- With memory for the program's limits: the piece before the first line.
  pub begins : (input : List ℕ) (given left : Buffers) (answer : Moved)
      → site_room ≤ length given.site_memory
      → coordinator_room ≤ length given.coordinator_memory
      → out_room ≤ length given.out
      → BeginSays input given left answer
      → BeginRight input left answer
  -- On a session that stands for a run: the piece of the next line.
  pub advances : (input : List ℕ) (session : Session) (given left : Buffers) (answer : Moved)
      (arrivals : List Arrival)
      → Represents session given.site_memory given.coordinator_memory arrivals
      → Room given
      → AdvanceSays input session given left answer
      → LineRight session (step_at input session.at session.line) left arrivals answer
  -- ---- All calls

  -- The bytes written so far, call after call, are the first ones of the program's transcript.
  pub begins_transcript : (input : List ℕ) (n : ℕ) (session : Session)
      (site_memory coordinator_memory bytes : List ℕ)
      → length input ≤ last_line
      → Course input n session site_memory coordinator_memory bytes
      → Front bytes (transcript input)
  -- Once the session has ended, they are all of it.
  pub writes_transcript : (input : List ℕ) (n : ℕ) (session : Session)
      (site_memory coordinator_memory bytes : List ℕ)
      → length input ≤ last_line
      → Course input n session site_memory coordinator_memory bytes
      → session.going ≡ false
      → bytes ≡ transcript input
  -- It is enough to read the first 8241 bytes: what is written then is the transcript of the whole.
  pub reads_enough : (most : ℕ) (whole : List ℕ) (n : ℕ) (session : Session)
      (site_memory coordinator_memory bytes : List ℕ)
      → input_room ≤ most
      → most ≤ last_line
      → Course (take most whole) n session site_memory coordinator_memory bytes
      → session.going ≡ false
      → bytes ≡ transcript whole
  -- While it goes on, each call took six bytes or more: it ends after length / 6 + 1 calls.
  pub ends : (input : List ℕ) (n : ℕ) (session : Session)
      (site_memory coordinator_memory bytes : List ℕ)
      → length input ≤ last_line
      → Course input n session site_memory coordinator_memory bytes
      → session.going ≡ true
      → 6 * n ≤ length input
  -- ---- How it ends

  -- Once the session has ended, its refusal and its line are those of the input.
  pub ends_so : (input : List ℕ) (n : ℕ) (session : Session)
      (site_memory coordinator_memory bytes : List ℕ)
      → length input ≤ last_line
      → Course input n session site_memory coordinator_memory bytes
      → session.going ≡ false
      → ending input
      ≡ ending_at session.refusal (ending_line session.settings session.refusal n)
  -- The first 8241 bytes decide that too.
  pub ending_enough : (most : ℕ) (whole : List ℕ)
      → input_room ≤ most
      → ending (take most whole) ≡ ending whole
  -- The transcript of every input ends with `refused` and that number, or with results.
  pub transcript_ends : (input : List ℕ) → EndsAs (ending input).refusal (transcript input)
