-- Messages: document 01's table of kinds. Each row has its number, a maker and a test. 0 is no
-- kind.
--
--   kind  maker                            way
--   1     item_report site item amount      to the coordinator
--   2     count_report site amount value    to the coordinator
--   3     poll site                        to a site
--   4     poll_answer site pending          to the coordinator
--   5     probe site value                 to a site
--   6     probe_answer site value count     to the coordinator
--   7     announcement site threshold base to a site
use Rattle.std.specs.Prelude.{Bool, ◌||◌, ℕ, eqb}
use Rattle.model.specs.declared.Message.{Message}

-- "A message is four numbers": so many of the log it takes.
abbrev pub message_width : ℕ
message_width = 4

abbrev pub message : ℕ → ℕ → ℕ → ℕ → Message
message kind site a b = record { kind = kind; site = site; a = a; b = b }

-- Where no message is handed back, the place of one holds zeros.
abbrev pub no_message : Message
no_message = message 0 0 0 0

-- ---- The rows of the table

abbrev pub item_report_kind : ℕ
item_report_kind = 1

abbrev pub item_report : ℕ → ℕ → ℕ → Message
item_report site item amount = message item_report_kind site item amount

abbrev pub count_report_kind : ℕ
count_report_kind = 2

abbrev pub count_report : ℕ → ℕ → ℕ → Message
count_report site amount value = message count_report_kind site amount value

abbrev pub poll_kind : ℕ
poll_kind = 3

abbrev pub poll : ℕ → Message
poll site = message poll_kind site 0 0

abbrev pub poll_answer_kind : ℕ
poll_answer_kind = 4

abbrev pub poll_answer : ℕ → ℕ → Message
poll_answer site pending = message poll_answer_kind site pending 0

abbrev pub probe_kind : ℕ
probe_kind = 5

abbrev pub probe : ℕ → ℕ → Message
probe site value = message probe_kind site value 0

abbrev pub probe_answer_kind : ℕ
probe_answer_kind = 6

abbrev pub probe_answer : ℕ → ℕ → ℕ → Message
probe_answer site value count = message probe_answer_kind site value count

abbrev pub announcement_kind : ℕ
announcement_kind = 7

abbrev pub announcement : ℕ → ℕ → ℕ → Message
announcement site threshold base = message announcement_kind site threshold base

-- ---- The kind of a message, by its row

abbrev pub is_item_report : Message → Bool
is_item_report m = eqb m.kind item_report_kind

abbrev pub is_count_report : Message → Bool
is_count_report m = eqb m.kind count_report_kind

abbrev pub is_poll : Message → Bool
is_poll m = eqb m.kind poll_kind

abbrev pub is_poll_answer : Message → Bool
is_poll_answer m = eqb m.kind poll_answer_kind

abbrev pub is_probe : Message → Bool
is_probe m = eqb m.kind probe_kind

abbrev pub is_probe_answer : Message → Bool
is_probe_answer m = eqb m.kind probe_answer_kind

abbrev pub is_announcement : Message → Bool
is_announcement m = eqb m.kind announcement_kind

-- ---- Whom a message is for

-- "way: to desk", the kinds 1, 2, 4 and 6.
abbrev pub to_coordinator : Message → Bool
to_coordinator m = is_item_report m || is_count_report m || is_poll_answer m || is_probe_answer m
