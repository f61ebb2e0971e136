-- How the sum of bytes is taken (request N4): "a word of eight bytes at a time, in length / 8
-- rounds with at most seven bytes taken singly".
--
--   rounds_of size, singles_of size  the rounds and single bytes of so many bytes; 0 of none
--   BlockAsks, RestAsks              which parts of the bytes can be taken so
--   BlockSays, WordsSay, RestSays    the sum of a part, and the turns that were made for it
--   TakenSays                        the sum of all bytes, and how it was taken
use Rattle.std.specs.Prelude.{◌≡◌, List, ℕ, ◌+◌, ◌-◌, ◌*◌, ◌/◌, ◌%◌, ◌≤◌, ◌<◌, length, take, drop}
use Rattle.checksum.specs.declared.Part.{Part}
use Rattle.checksum.specs.declared.Taken.{Taken}
use Rattle.checksum.specs.Sums.{sum_of, byte_sum}

-- "A word of eight bytes".
abbrev pub word_bytes : ℕ
word_bytes = 8

-- A block's words are added in lanes of 16 bits, one byte of each word in a lane. The most that a
-- byte adds, and how many words a block has at most: 256 × 255 is 65,280, which a lane holds.
abbrev pub most_added : ℕ
most_added = 255

abbrev pub most_rounds : ℕ
most_rounds = 256

-- ---- How many

-- "In length / 8 rounds".
abbrev pub rounds_of : ℕ → ℕ
rounds_of size = size / word_bytes

-- The bytes that are left then.
abbrev pub singles_of : ℕ → ℕ
singles_of size = size % word_bytes

-- ---- Parts

-- A block's words lie within the bytes, and no lane runs over.
pub record BlockAsks (bytes : List ℕ) (first rounds : ℕ) : Type 0 where
  pub inside : first + word_bytes * rounds ≤ length bytes
  pub lanes_hold : rounds ≤ most_rounds

-- A turn is a round: it takes one word.
pub record BlockSays (bytes : List ℕ) (first rounds : ℕ) (answer : Part) : Type 0 where
  pub sum : answer.sum ≡ sum_of (take (word_bytes * rounds) (drop first bytes))
  pub turns : answer.turns ≡ rounds

-- All words, block by block: the turns are those of the blocks.
pub record WordsSay (bytes : List ℕ) (rounds : ℕ) (answer : Part) : Type 0 where
  pub sum : answer.sum ≡ byte_sum (take (word_bytes * rounds) bytes)
  pub turns : answer.turns ≡ rounds

-- "At most seven bytes taken singly": fewer than a word has are left.
pub record RestAsks (bytes : List ℕ) (first : ℕ) : Type 0 where
  pub inside : first ≤ length bytes
  pub few : length bytes < first + word_bytes

-- A turn is a byte.
pub record RestSays (bytes : List ℕ) (first : ℕ) (answer : Part) : Type 0 where
  pub sum : answer.sum ≡ sum_of (drop first bytes)
  pub turns : answer.turns ≡ length bytes - first

-- ---- All bytes

-- "The sum and what it promises don't change at any length": the sum is the one that it was. How it
-- is taken: "in length / 8 rounds with at most seven bytes taken singly".
pub record TakenSays (bytes : List ℕ) (answer : Taken) : Type 0 where
  pub sum : answer.sum ≡ byte_sum bytes
  pub rounds : answer.rounds ≡ rounds_of (length bytes)
  pub singles : answer.singles ≡ singles_of (length bytes)
  pub few : answer.singles ≤ 7
