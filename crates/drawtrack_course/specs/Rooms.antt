-- The room that the program's limits ask for beside its memory, each named once: for what a call
-- writes, and for the input.
--
--   log_room, list_room, out_room  376 numbers, 1000 places, 8192 bytes
--   input_room                     8241 bytes, the most that matter of an input
use Rattle.std.specs.Prelude.{ℕ, ◌+◌, ◌*◌}
use Rattle.model.specs.Limits.{most_messages}
use Rattle.model.specs.Settings.{settings_with}
use Rattle.model.specs.Messages.{message_width}
use Rattle.drawtrack_start.specs.Limits.{program_universe, program_bytes, program_settings}

-- The numbers of each message that may follow one draw, and a place for each item.
abbrev pub log_room : ℕ
log_room = message_width * most_messages program_settings

abbrev pub list_room : ℕ
list_room = program_universe

-- The lines of those messages take at most 84 bytes each; the results take fewer than all of them.
abbrev pub out_room : ℕ
out_room = 8192

-- A settings line of six numbers of seven digits, each with the byte that ends it; a worklist; and
-- one byte more, by which a worklist is seen to be too long.
abbrev pub input_room : ℕ
input_room = 6 * (7 + 1) + program_bytes + 1
