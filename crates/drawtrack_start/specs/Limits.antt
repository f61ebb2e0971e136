-- The program's limits, and the memory that they ask for, each named once (document 01's section
-- "Worklist": "Its memory serves k up to 4, c up to 100, u up to 1000 and a worklist up to 8192
-- bytes").
--
--   program_sites, program_capacity, program_universe, program_bytes  4, 100, 1000, 8192
--   program_settings               the largest settings that it serves
--   site_room, coordinator_room    5696 and 2024 numbers of memory
use Rattle.std.specs.Prelude.{ℕ, ◌+◌, ◌*◌}
use Rattle.model.specs.declared.Settings.{Settings}
use Rattle.model.specs.Limits.{top_value}
use Rattle.model.specs.Settings.{settings_with}

abbrev pub program_sites : ℕ
program_sites = 4

abbrev pub program_capacity : ℕ
program_capacity = 100

abbrev pub program_universe : ℕ
program_universe = 1000

abbrev pub program_bytes : ℕ
program_bytes = 8192

-- The settings with these numbers; leeway, list share and rank may be any.
abbrev pub program_settings : Settings
program_settings = settings_with program_sites 1000 1000 1000 program_capacity program_universe

-- For each site four numbers a counter, and its class counts; for the coordinator a number for each
-- item, and its class counts.
abbrev pub site_room : ℕ
site_room = program_sites * (4 * program_capacity + (top_value + 1))

abbrev pub coordinator_room : ℕ
coordinator_room = program_universe + (top_value + 1)
