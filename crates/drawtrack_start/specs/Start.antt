-- Why a session does not start, and which line of the input is refused then (document 01's section
-- "Worklist").
--
--   shorter_than_limits ..           whether memory is too short for the program's limits
--   start_refusal_of ..              13; 1, 2, 3; 4
--   start_line settings refusal      which line of the input is refused
use Rattle.std.specs.Prelude.{Bool, not, ◌&&◌, ◌||◌, ℕ, eqb, ltb, if◌then◌else◌}
use Rattle.model.specs.declared.Settings.{Settings}
use Rattle.model.specs.Refusals.{when, ◌or_else◌, no_refusal, memory_too_short}
use Rattle.model.specs.Settings.{settings_refusal}
use Rattle.model.specs.Transcript.{beyond_program}
use Rattle.output_reason.specs.Reason.{whole_worklist, settings_line}
use Rattle.drawtrack_start.specs.Limits.{site_room, coordinator_room}

-- ---- Why a session does not start

-- Memory for the program's limits, of the sites and of the coordinator.
abbrev pub shorter_than_limits : ℕ → ℕ → Bool
shorter_than_limits site_numbers coordinator_numbers =
    ltb site_numbers site_room || ltb coordinator_numbers coordinator_room

-- "beyond that it meets refusal 4, before any draw, but after 13 for the settings line and 1 to 3":
-- by the line's refusal, its settings, the bytes after it, and the memory lent.
abbrev pub start_refusal_of : ℕ → Settings → ℕ → ℕ → ℕ → ℕ
start_refusal_of line settings bytes site_numbers coordinator_numbers =
    line
    or_else settings_refusal settings
    or_else when (beyond_program settings bytes) memory_too_short
    or_else when (shorter_than_limits site_numbers coordinator_numbers) memory_too_short
    or_else no_refusal

-- Before any draw the settings line is refused; but where the program serves the settings, 4 is of
-- a worklist that is too long.
abbrev pub start_line : Settings → ℕ → ℕ
start_line settings refusal =
    if eqb refusal memory_too_short && not (beyond_program settings 0)
    then whole_worklist
    else settings_line
