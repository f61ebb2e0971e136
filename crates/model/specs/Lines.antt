-- Lines of decimal fields and worklists, read and written (document 01's section "Worklist").
--
--   read_fields n bytes   the n fields of the first line and the bytes after it, or `malformed`
--   write_fields numbers  a line with these fields
--   read_line bytes       the first line as an arrival; a malformed one is `no_line`
--   read_worklist bytes   the arrivals line by line, to the end or to the first malformed line
use Rattle.std.specs.Prelude.{Bool, true, false, List, [], ◌∷◌, ◌++◌, ℕ, zero, suc, ◌+◌, ◌-◌, eqb, length, get_or, if◌then◌else◌}
use Rattle.model.specs.declared.Arrival.{Arrival}
use Rattle.model.specs.declared.Settings.{Settings}
use Rattle.model.specs.Decimal.{Number, no_number, number, read_number, decimal}

-- `;` and the line feed.
abbrev pub semicolon : ℕ
semicolon = 59

abbrev pub line_feed : ℕ
line_feed = 10

-- What reading the fields of a line gives: the numbers and the bytes after the line.
pub data Fields : Type 0 where
  malformed : Fields
  fields : List ℕ → List ℕ → Fields

-- A number that a mark ends; the bytes after it are those after the mark.
abbrev pub before_mark : ℕ → Number → Number
before_mark mark no_number = no_number
before_mark mark (number value []) = no_number
before_mark mark (number value (byte ∷ rest)) = if eqb byte mark then number value rest else
    no_number

abbrev pub read_field : ℕ → List ℕ → Number
read_field mark bytes = before_mark mark (read_number bytes)

abbrev pub with_field : ℕ → Fields → Fields
with_field value malformed = malformed
with_field value (fields values rest) = fields (value ∷ values) rest

-- So many fields, semicolons between, and a last mark.
abbrev pub read_fields_to : ℕ → ℕ → List ℕ → Fields
read_fields_to last zero bytes = malformed
read_fields_to last (suc zero) bytes =
    elim (read_field last bytes) [
      | no_number ↦ malformed
      | number value rest ↦ fields (value ∷ []) rest
    ]
read_fields_to last (suc (suc more)) bytes =
    elim (read_field semicolon bytes) [
      | no_number ↦ malformed
      | number value rest ↦ with_field value (read_fields_to last (suc more) rest)
    ]

-- "in decimal, semicolons between, line feed last": a line of one field or more.
abbrev pub read_fields : ℕ → List ℕ → Fields
read_fields count bytes = read_fields_to line_feed count bytes

abbrev pub write_fields : List ℕ → List ℕ
write_fields [] = []
write_fields (last ∷ []) = decimal last ++ (line_feed ∷ [])
write_fields (first ∷ (next ∷ others)) =
    decimal first ++ (semicolon ∷ []) ++ write_fields (next ∷ others)

-- "A line is deck, code and class": its three fields as an arrival.
abbrev pub arrival_of : List ℕ → Arrival
arrival_of numbers = record {
  site = get_or numbers 0 0;
  item = get_or numbers 1 0;
  value = get_or numbers 2 0;
}

abbrev pub fields_of : Arrival → List ℕ
fields_of arrival = arrival.site ∷ (arrival.item ∷ (arrival.value ∷ []))

-- The settings line `k;e;p;q;c;u`: its six fields as settings.
abbrev pub settings_of : List ℕ → Settings
settings_of numbers = record {
  sites = get_or numbers 0 0;
  epsilon = get_or numbers 1 0;
  phi = get_or numbers 2 0;
  rank = get_or numbers 3 0;
  capacity = get_or numbers 4 0;
  universe = get_or numbers 5 0;
}

-- The first line of some bytes: whether it is well formed, its arrival, how many bytes it takes.
-- Of a malformed line the arrival is all zeros and no byte is taken.
pub record Line : Type 0 where
  pub well_formed : Bool
  pub arrival : Arrival
  pub used : ℕ

abbrev pub no_line : Line
no_line = record { well_formed = false; arrival = arrival_of []; used = 0 }

abbrev pub line_of : List ℕ → Fields → Line
line_of bytes malformed = no_line
line_of bytes (fields numbers rest) = record {
  well_formed = true;
  arrival = arrival_of numbers;
  used = length bytes - length rest;
}

abbrev pub read_line : List ℕ → Line
read_line bytes = line_of bytes (read_fields 3 bytes)

-- A worklist as it is read, line by line: the next arrival and what follows it, the end of the
-- file, or the number of the malformed line, counted from 0.
pub data Worklist : Type 0 where
  ended : Worklist
  malformed_at : ℕ → Worklist
  next : Arrival → Worklist → Worklist

-- "The reader walks the file's bytes line by line. An empty file is no draws." The first argument
-- bounds the lines: a line takes six bytes or more, so as many as there are bytes are enough.
abbrev pub read_from : ℕ → ℕ → List ℕ → Worklist
read_from zero line [] = ended
read_from zero line (byte ∷ rest) = malformed_at line
read_from (suc more) line [] = ended
read_from (suc more) line (byte ∷ rest) =
    elim (read_fields 3 (byte ∷ rest)) [
      | malformed ↦ malformed_at line
      | fields numbers after ↦ next (arrival_of numbers) (read_from more (line + 1) after)
    ]

abbrev pub read_worklist : List ℕ → Worklist
read_worklist bytes = read_from (length bytes) 0 bytes

abbrev pub write_worklist : List Arrival → List ℕ
write_worklist [] = []
write_worklist (arrival ∷ arrivals) = write_fields (fields_of arrival) ++ write_worklist arrivals
