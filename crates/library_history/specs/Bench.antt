-- What a caller of the library holds: the rows and the memories that C knows as `tracker_decks`,
-- `tracker_desk`, and the memory of both; and what a call is lent of it.
--
--   Bench                        two rows and two memories
--   held_in bench                the records and memories that they stand for
--   changed, unchanged           a row that a call writes; one that it only reads
--   Front, front_row, with_front  the first so many numbers of a memory, lent and put back
use Rattle.std.specs.Prelude.{List, ℕ, take}
use Rattle.model.specs.Held.{Held, held_by}
use Rattle.record_numbers.specs.Numbers.{sites_from, coordinator_read}
use Rattle.library_rows.specs.Rows.{Row}
use Rattle.history.specs.State.{with_part}

pub record Bench : Type 0 where
  -- `tracker_decks`, and the memory of all decks
  pub decks : List ℕ
  pub deck_memory : List ℕ
  -- `tracker_desk`, and its memory
  pub desk : List ℕ
  pub desk_memory : List ℕ

-- A desk's row that is no record stands for one that every call refuses.
abbrev pub held_in : Bench → Held
held_in bench =
    held_by (sites_from bench.decks) (coordinator_read bench.desk) bench.deck_memory
    bench.desk_memory

-- ---- What a call is lent

abbrev pub changed : List ℕ → List ℕ → Row
changed before after = record { before = before; after = after }

-- A row or a memory that C lends as `const`.
abbrev pub unchanged : List ℕ → Row
unchanged numbers = changed numbers numbers

-- "Its length may differ from call to call": how many numbers of a memory are lent, and what the
-- call leaves there.
pub record Front : Type 0 where
  pub count : ℕ
  pub left : List ℕ

abbrev pub front_row : List ℕ → Front → Row
front_row memory front = changed (take front.count memory) front.left

-- The memory then; what was not lent is as it was.
abbrev pub with_front : List ℕ → Front → List ℕ
with_front memory front = with_part memory 0 front.count front.left

-- ---- The bench after a call

-- After a call on decks.
abbrev pub with_decks : Bench → List ℕ → List ℕ → Bench
with_decks bench decks memory = record {
  decks = decks;
  deck_memory = memory;
  desk = bench.desk;
  desk_memory = bench.desk_memory;
}

-- After a call on the desk.
abbrev pub with_desk : Bench → List ℕ → List ℕ → Bench
with_desk bench desk memory = record {
  decks = bench.decks;
  deck_memory = bench.deck_memory;
  desk = desk;
  desk_memory = memory;
}
