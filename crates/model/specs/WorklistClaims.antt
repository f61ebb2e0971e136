-- What holds of reading every worklist (document 01's section "Worklist"). The theorem
-- `worklist-claims` of proofs/WorklistLaws.antt proves it.
--
--   all_small numbers         whether each number has at most seven digits; true of no numbers
--   all_writable arrivals     whether each arrival has such numbers only
--   worklist_of arrivals      these arrivals and then the end
use Rattle.std.specs.Prelude.{◌≡◌, Bool, true, ◌&&◌, List, [], ◌∷◌, ℕ, ◌+◌, ◌≤◌, ltb, length}
use Rattle.model.specs.declared.Arrival.{Arrival}
use Rattle.model.specs.Limits.{number_limit}
use Rattle.model.specs.Lines.{fields, read_fields, fields_of, Worklist, ended, next, read_from, read_worklist, write_worklist}

abbrev pub all_small : List ℕ → Bool
all_small [] = true
all_small (n ∷ ns) = ltb n number_limit && all_small ns

abbrev pub all_writable : List Arrival → Bool
all_writable [] = true
all_writable (arrival ∷ arrivals) = all_small (fields_of arrival) && all_writable arrivals

abbrev pub worklist_of : List Arrival → Worklist
worklist_of [] = ended
worklist_of (arrival ∷ arrivals) = next arrival (worklist_of arrivals)

-- A well-formed line takes three digits and three marks, or more, and at most 24 bytes.
pub record LineLength (bytes rest : List ℕ) : Type 0 where
  pub at_least : length rest + 6 ≤ length bytes
  pub at_most : length bytes ≤ length rest + 24

pub record WorklistClaims : Type 0 where
  -- "An empty file is no draws."
  pub empty_file : read_worklist [] ≡ ended
  -- Walking a well-formed file gives exactly its lines.
  pub lines_read_back : (arrivals : List Arrival)
      → all_writable arrivals ≡ true
      → read_worklist (write_worklist arrivals) ≡ worklist_of arrivals
  pub line_length : (bytes numbers rest : List ℕ)
      → read_fields 3 bytes ≡ fields numbers rest
      → LineLength bytes rest
  -- As many lines as there are bytes are enough: allowing more changes nothing.
  pub lines_enough : (more line : ℕ) (bytes : List ℕ)
      → length bytes ≤ more
      → read_from more line bytes ≡ read_from (length bytes) line bytes
