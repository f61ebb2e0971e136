-- What a session stands for, and all its calls one after the other.
--
--   Represents session site_memory coordinator_memory arrivals
--                                    the session stands after these draws
--   Room given                       log, list and output are long enough for the program's limits
--   line_piece settings run step     the bytes that a line of the worklist brings
--   end_refusal settings run step    why the line ends the session, or 0
--   begin_piece input found          the bytes before the first line: none, or a refusal
--   Course input n session site_memory coordinator_memory bytes
--                                    after `begin` and n calls of `advance`, with the session and
--                                    the memory as they left them and the bytes written so far
use Rattle.std.specs.Prelude.{◌≡◌, Bool, true, ◌&&◌, List, [], ◌∷◌, ◌++◌, ℕ, suc, ◌≤◌, length, take, drop, if◌then◌else◌}
use Rattle.model.specs.declared.Settings.{Settings}
use Rattle.model.specs.declared.Arrival.{Arrival}
use Rattle.model.specs.Choice.{is_zero}
use Rattle.model.specs.Refusals.{◌or_else◌, no_refusal}
use Rattle.model.specs.Limits.{most_sites}
use Rattle.model.specs.Settings.{settings_refusal}
use Rattle.model.specs.CoordinatorMemory.{coordinator_words}
use Rattle.model.specs.Draws.{draws_of}
use Rattle.model.specs.Network.{after_line}
use Rattle.model.specs.NetworkMemory.{sites_words}
use Rattle.model.specs.Held.{network_of}
use Rattle.model.specs.MessageCounts.{none_counted, counted_up}
use Rattle.model.specs.Lines.{Fields, read_fields}
use Rattle.model.specs.Runs.{Run, run_of, line_refusal_in}
use Rattle.model.specs.Transcript.{message_lines, refused_line, result_lines, program_refusal}
use Rattle.worklist_reader.specs.Walk.{Step}
use Rattle.worklist_reader.specs.Promises.{line_refusal, settings_in, bytes_after}
use Rattle.drawtrack_steps.specs.declared.Session.{Session}
use Rattle.drawtrack_steps.specs.declared.Moved.{Moved}
use Rattle.drawtrack_steps.specs.Outcome.{Buffers, held_of}
use Rattle.drawtrack_start.specs.Limits.{program_sites, program_universe, site_room, coordinator_room}
use Rattle.drawtrack_course.specs.Rooms.{log_room, list_room, out_room}
use Rattle.drawtrack_session.specs.Begin.{BeginSays}
use Rattle.drawtrack_session.specs.Advance.{AdvanceSays}

-- ---- What a session stands for

-- The session stands after these draws, all of them accepted: records and memory hold the network
-- of the model's run over them, and each of its messages is counted at the site that it names.
pub record Represents (session : Session) (site_memory coordinator_memory : List ℕ)
    (arrivals : List Arrival) : Type 0 where
  pub settings_accepted : settings_refusal session.settings ≡ no_refusal
  pub few_sites : session.settings.sites ≤ program_sites
  pub few_items : session.settings.universe ≤ program_universe
  pub all_records : length session.sites.records ≡ most_sites
  pub sites_long : sites_words session.settings ≤ length site_memory
  pub coordinator_long : coordinator_words session.settings ≤ length coordinator_memory
  pub network_is :
      network_of session.settings (held_of session site_memory coordinator_memory)
      ≡ (run_of session.settings arrivals).network
  pub accepted_are : (run_of session.settings arrivals).accepted ≡ arrivals
  pub counts_are : session.sites.messages
      ≡ counted_up none_counted (run_of session.settings arrivals).messages

-- Room for the messages of one draw in the log, for a list of all items, and for the lines of
-- either.
pub record Room (given : Buffers) : Type 0 where
  pub log_long : log_room ≤ length given.log
  pub list_long : list_room ≤ length given.list
  pub out_long : out_room ≤ length given.out

-- ---- Beginning

-- Why the program does not start, by its settings line.
abbrev pub begin_refusal : List ℕ → Fields → ℕ
begin_refusal input found =
    line_refusal found or_else program_refusal (settings_in found) (bytes_after input found)

-- What is written before the first line of the worklist.
abbrev pub begin_piece : List ℕ → Fields → List ℕ
begin_piece input found =
    if is_zero (begin_refusal input found) then [] else refused_line (begin_refusal input found)

-- A session that goes on stands before the first line of the worklist, after no arrival.
pub record Begun (input site_memory coordinator_memory : List ℕ) (session : Session) : Type 0 where
  pub settings_are : session.settings ≡ settings_in (read_fields 6 input)
  pub represents : Represents session site_memory coordinator_memory []
  pub worklist : drop session.at input ≡ bytes_after input (read_fields 6 input)
  pub first_line : session.line ≡ 0

-- The piece before the first line, and where the session stands.
pub record BeginRight (input : List ℕ) (left : Buffers) (answer : Moved) : Type 0 where
  pub bytes : take answer.written left.out ≡ begin_piece input (read_fields 6 input)
  pub going : answer.session.going ≡ is_zero (begin_refusal input (read_fields 6 input))
  pub refusal : answer.session.refusal ≡ begin_refusal input (read_fields 6 input)
  pub settings : answer.session.settings ≡ settings_in (read_fields 6 input)
  pub begun : is_zero (begin_refusal input (read_fields 6 input)) ≡ true
      → Begun input left.site_memory left.coordinator_memory answer.session

-- ---- A line

-- "It takes each line's draw before it reads the next line." A touch is a good line and writes
-- nothing.
abbrev pub draw_piece : Settings → Run → Arrival → List ℕ
draw_piece settings run arrival =
    let refusal = line_refusal_in settings run.network arrival in
    if is_zero refusal
    then message_lines (after_line settings run.network arrival).messages
    else refused_line refusal

abbrev pub line_piece : Settings → Run → Step → List ℕ
line_piece settings run step =
    if step.found then draw_piece settings run step.arrival
    else (if is_zero step.refusal then result_lines settings run
    else refused_line step.refusal)

-- Why a line ends the session: the refusal of its draw or touch, or 13; 0 at the end.
abbrev pub end_refusal : Settings → Run → Step → ℕ
end_refusal settings run step =
    if step.found then line_refusal_in settings run.network step.arrival else step.refusal

-- A session goes on after an accepted draw or touch alone.
abbrev pub accepts : Settings → Run → Step → Bool
accepts settings run step =
    step.found && is_zero (line_refusal_in settings run.network step.arrival)

-- After an accepted draw the session stands behind its line, after one draw more; after a touch it
-- stands behind its line, after the same draws.
pub record Follows (session : Session) (step : Step) (left : Buffers) (arrivals : List Arrival)
    (after : Session) : Type 0 where
  pub settings_same : after.settings ≡ session.settings
  pub at_after : after.at ≡ step.at
  pub line_after : after.line ≡ step.line
  pub represents : Represents after left.site_memory left.coordinator_memory
      (arrivals ++ draws_of (step.arrival ∷ []))

-- The piece of a line of the worklist, or of its end, and where the session stands.
pub record LineRight (session : Session) (step : Step) (left : Buffers) (arrivals : List Arrival)
    (answer : Moved) : Type 0 where
  pub bytes : take answer.written left.out
      ≡ line_piece session.settings (run_of session.settings arrivals) step
  pub going : answer.session.going
      ≡ accepts session.settings (run_of session.settings arrivals) step
  pub refusal : answer.session.refusal
      ≡ end_refusal session.settings (run_of session.settings arrivals) step
  pub follows : accepts session.settings (run_of session.settings arrivals) step ≡ true
      → Follows session step left arrivals answer.session

-- ---- All calls

-- A call is known by its contract alone. Log, list and output may be others at each call, and hold
-- anything; the two memories are those that the call before left.
pub data Course (input : List ℕ) : ℕ → Session → List ℕ → List ℕ → List ℕ → Type 0 where
  begun : (given left : Buffers) (answer : Moved)
      → site_room ≤ length given.site_memory
      → coordinator_room ≤ length given.coordinator_memory
      → out_room ≤ length given.out
      → BeginSays input given left answer
      → Course input 0 answer.session left.site_memory left.coordinator_memory
      (take answer.written left.out)
  advanced : (n : ℕ) (session : Session) (bytes : List ℕ) (given left : Buffers) (answer : Moved)
      → Course input n session given.site_memory given.coordinator_memory bytes
      → session.going ≡ true
      → Room given
      → AdvanceSays input session given left answer
      → Course input (suc n) answer.session left.site_memory left.coordinator_memory
      (bytes ++ take answer.written left.out)
