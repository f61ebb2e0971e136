-- The call `begin`, for every input: the settings line, the program's limits and a fresh network
-- (document 01's section "Worklist").
--
--   begin_refusal_of ..              why no session begins; 0 if one does
--   first_session input found        where the session stands then
--   begin_of input given             the outcome of `begin`
--   BeginSays                        the promise
use Rattle.std.specs.Prelude.{◌≡◌, true, List, ℕ, ◌-◌, length, if◌then◌else◌}
use Rattle.model.specs.declared.Settings.{Settings}
use Rattle.model.specs.Choice.{is_zero}
use Rattle.model.specs.Refusals.{no_refusal}
use Rattle.model.specs.Coordinator.{fresh_coordinator}
use Rattle.model.specs.CoordinatorMemory.{coordinator_record, coordinator_memory}
use Rattle.model.specs.NetworkMemory.{fresh_sites}
use Rattle.model.specs.Lines.{Fields, read_fields}
use Rattle.worklist_reader.specs.Promises.{line_refusal, settings_in, bytes_after}
use Rattle.site_start.specs.Starts.{cleared}
use Rattle.drawtrack_steps.specs.declared.Session.{Session}
use Rattle.drawtrack_steps.specs.declared.Moved.{Moved}
use Rattle.drawtrack_steps.specs.Outcome.{Buffers, buffers, Outcome, outcome, SameLengths, refused_of}
use Rattle.drawtrack_start.specs.Start.{start_refusal_of}

-- ---- Why a session does not begin

abbrev pub begin_refusal_of : List ℕ → Fields → Buffers → ℕ
begin_refusal_of input found given =
    start_refusal_of (line_refusal found) (settings_in found) (length (bytes_after input found))
    (length given.site_memory) (length given.coordinator_memory)

-- ---- What comes of it

-- Before the first line of the worklist, with fresh records.
abbrev pub fresh_session : Settings → ℕ → Session
fresh_session settings at = record {
  going = true;
  refusal = no_refusal;
  settings = settings;
  sites = fresh_sites;
  coordinator = coordinator_record (fresh_coordinator settings);
  at = at;
  line = 0;
}

-- The session of a settings line: it stands behind the line, or at 0 if that is malformed.
abbrev pub first_session : List ℕ → Fields → Session
first_session input found =
    fresh_session (settings_in found) (length input - length (bytes_after input found))

-- Both memories cleared for the settings; what lies past that is as it was, and so is the output.
abbrev pub started_of : Session → Buffers → Outcome
started_of session given =
    outcome (record { session = session; written = 0 })
    (buffers (cleared session.settings given.site_memory)
    (coordinator_memory (fresh_coordinator session.settings) given.coordinator_memory)
    given.log given.list given.out)

abbrev pub begin_with : List ℕ → Fields → Buffers → Outcome
begin_with input found given =
    let refusal = begin_refusal_of input found given in
    let session = first_session input found in
    if is_zero refusal then started_of session given else refused_of session refusal given

abbrev pub begin_of : List ℕ → Buffers → Outcome
begin_of input given = begin_with input (read_fields 6 input) given

pub record BeginSays (input : List ℕ) (given left : Buffers) (answer : Moved) : Type 0 where
  pub is : outcome answer left ≡ begin_of input given
  pub lengths : SameLengths given left
