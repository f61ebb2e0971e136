-- Lines and worklists, and what `drawtrack` writes, byte for byte: `refused` and `none`, the
-- program's limits, the order of its refusals.
use Rattle.std.specs.Prelude.{◌≡◌, true, false, List, [], ◌∷◌, ◌++◌, ℕ, replicate}
use Rattle.model.specs.Settings.{settings_with}
use Rattle.model.specs.Decimal.{number, read_number}
use Rattle.model.specs.Lines.{Line, no_line, settings_of, write_fields, read_line, read_worklist, ended, malformed_at, next}
use Rattle.model.specs.Transcript.{program_refusal, transcript}
use Rattle.model.specs.Instances.{settings_a, arrival_with, draw, input_p2, message_bytes_p2}

-- `0;7;3` and its line feed; the line feed; `0;10;3`, whose code settings A do not have.
abbrev pub line_p2 : List ℕ
line_p2 = 48 ∷ 59 ∷ 55 ∷ 59 ∷ 51 ∷ 10 ∷ []

abbrev pub line_of_ten : List ℕ
line_of_ten = 48 ∷ 59 ∷ 49 ∷ 48 ∷ 59 ∷ 51 ∷ 10 ∷ []

-- A line `0;7;` and one more field, of these bytes.
abbrev pub line_with : List ℕ → List ℕ
line_with field = 48 ∷ 59 ∷ 55 ∷ 59 ∷ (field ++ (10 ∷ []))

abbrev pub line_is : ℕ → ℕ → Line
line_is value used = record { well_formed = true; arrival = arrival_with 0 7 value; used = used }

-- "1 to 7 digits each, no leading zero except 0 itself", "semicolons between, line feed last"
pub record LineEdges : Type 0 where
  pub p2 : read_line line_p2 ≡ line_is 3 6
  pub zero_itself : read_line (line_with (48 ∷ [])) ≡ line_is 0 6
  pub nine : read_line (line_with (57 ∷ [])) ≡ line_is 9 6
  pub four_digits : read_line (line_with (49 ∷ 48 ∷ 50 ∷ 51 ∷ [])) ≡ line_is 1023 9
  pub seven_digits : read_line (line_with (49 ∷ replicate 6 48)) ≡ line_is 1000000 12
  pub eight_digits : read_line (line_with (49 ∷ replicate 7 48)) ≡ no_line
  pub no_digit : read_line (line_with []) ≡ no_line
  pub leading_zero : read_line (line_with (48 ∷ 51 ∷ [])) ≡ no_line
  -- `00;7;3`, and no line feed
  pub leading_zeros : read_line (48 ∷ line_p2) ≡ no_line
  pub no_line_feed : read_line (48 ∷ 59 ∷ 55 ∷ 59 ∷ 51 ∷ []) ≡ no_line
  -- `/` and `:` stand beside `0` and `9`; a space, a carriage return, a fourth field
  pub slash : read_line (line_with (47 ∷ [])) ≡ no_line
  pub colon : read_line (line_with (58 ∷ [])) ≡ no_line
  pub blank : read_line (line_with (32 ∷ 51 ∷ [])) ≡ no_line
  pub carriage_return : read_line (line_with (51 ∷ 13 ∷ [])) ≡ no_line
  pub four_fields : read_line (line_with (51 ∷ 59 ∷ 51 ∷ [])) ≡ no_line
  pub nothing : read_line [] ≡ no_line
  -- a malformed line has no numbers and takes no byte; a number may end the bytes, a line may not
  pub no_line : no_line ≡ record { well_formed = false; arrival = arrival_with 0 0 0; used = 0 }
  pub zero_last : read_number (48 ∷ []) ≡ number 0 []
  -- the settings line's six fields, in its order; zeros for fields that are missing
  pub settings_fields : settings_of (1 ∷ 2 ∷ 3 ∷ 4 ∷ 5 ∷ 6 ∷ []) ≡ settings_with 1 2 3 4 5 6
  pub settings_missing : settings_of [] ≡ settings_with 0 0 0 0 0 0
  -- what follows a line is not its own
  pub followed : read_line (line_p2 ++ (120 ∷ [])) ≡ line_is 3 6
  -- "An empty file is no draws"; "line from 0"
  pub empty_file : read_worklist [] ≡ ended
  pub one_line : read_worklist line_p2 ≡ next draw ended
  pub first_malformed : read_worklist (120 ∷ []) ≡ malformed_at 0
  pub second_malformed : read_worklist (line_p2 ++ (120 ∷ [])) ≡ next draw (malformed_at 1)
  pub empty_line : read_worklist (line_p2 ++ (10 ∷ [])) ≡ next draw (malformed_at 1)

-- ---- What is written

-- "refused", a space and the digits of a number, line feed.
abbrev pub refused_bytes : List ℕ → List ℕ
refused_bytes digits =
    (114 ∷ 101 ∷ 102 ∷ 117 ∷ 115 ∷ 101 ∷ 100 ∷ 32 ∷ []) ++ digits ++ (10 ∷ [])

-- "listed", "class none", "messages 0", a line each.
abbrev pub nothing_bytes : List ℕ
nothing_bytes =
    (108 ∷ 105 ∷ 115 ∷ 116 ∷ 101 ∷ 100 ∷ 10 ∷ [])
    ++ (99 ∷ 108 ∷ 97 ∷ 115 ∷ 115 ∷ 32 ∷ 110 ∷ 111 ∷ 110 ∷ 101 ∷ 10 ∷ [])
    ++ (109 ∷ 101 ∷ 115 ∷ 115 ∷ 97 ∷ 103 ∷ 101 ∷ 115 ∷ 32 ∷ 48 ∷ 10 ∷ [])

-- The settings line of A, but for k and p.
abbrev pub line_a : ℕ → ℕ → List ℕ
line_a k p = write_fields (k ∷ 1000 ∷ p ∷ 500 ∷ 6 ∷ 10 ∷ [])

pub record ProgramEdges : Type 0 where
  -- "Its memory serves k up to 4, c up to 100, u up to 1000 and a worklist up to 8192 bytes"
  pub k_4 : program_refusal (settings_with 4 1000 1000 500 6 10) [] ≡ 0
  pub k_5 : program_refusal (settings_with 5 1000 1000 500 6 10) [] ≡ 4
  pub c_100 : program_refusal (settings_with 1 1000 1000 500 100 10) [] ≡ 0
  pub c_101 : program_refusal (settings_with 1 1000 1000 500 101 10) [] ≡ 4
  pub u_1000 : program_refusal (settings_with 1 1000 1000 500 6 1000) [] ≡ 0
  pub u_1001 : program_refusal (settings_with 1 1000 1000 500 6 1001) [] ≡ 4
  pub bytes_8192 : program_refusal settings_a (replicate 8192 0) ≡ 0
  pub bytes_8193 : program_refusal settings_a (replicate 8193 0) ≡ 4
  -- "refusal 4, before any draw, but after 13 for the settings line and 1 to 3"
  pub three_before_four : program_refusal (settings_with 5 1000 1000 500 5 10) [] ≡ 3
  pub thirteen_first : transcript (48 ∷ line_a 5 1000) ≡ refused_bytes (49 ∷ 51 ∷ [])
  pub one_refused : transcript (line_a 0 1000 ++ line_p2) ≡ refused_bytes (49 ∷ [])
  pub two_before_four : transcript (line_a 5 999 ++ line_p2) ≡ refused_bytes (50 ∷ [])
  pub four_before_draws : transcript (line_a 5 1000 ++ line_p2) ≡ refused_bytes (52 ∷ [])
  pub four_before_lines : transcript (line_a 5 1000 ++ (120 ∷ [])) ≡ refused_bytes (52 ∷ [])
  -- "An empty file is no draws": no code, class `none`, no message
  pub no_draws : transcript (line_a 1 1000) ≡ nothing_bytes
  -- "On a refusal it writes `refused` and the number after the messages so far, and stops."
  pub refused_draw : transcript (input_p2 ++ line_of_ten ++ line_p2)
      ≡ message_bytes_p2 ++ refused_bytes (54 ∷ [])
  pub malformed_line : transcript (input_p2 ++ (120 ∷ []))
      ≡ message_bytes_p2 ++ refused_bytes (49 ∷ 51 ∷ [])
  -- "It takes each line's draw before it reads the next line": 6 comes before 13
  pub draw_first : transcript (input_p2 ++ line_of_ten ++ (120 ∷ []))
      ≡ message_bytes_p2 ++ refused_bytes (54 ∷ [])
