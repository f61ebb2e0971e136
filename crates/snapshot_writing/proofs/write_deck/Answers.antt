-- The memory's numbers, and the record's right after them.
use mathlib.Core.Path.{◌≡◌, sym, ap, ◌∙◌}
use mathlib.Core.List.{◌++◌}
use Prim.Native.Nat.{ℕ, ◌+◌, ◌*◌}
use native.Mathlib.Omega.{arith}
use lib.ListN.{length, take}
use lib.Seq.{length-take-le}
use Rattle.laws.specs.Writing.{written_at}
use Rattle.record_numbers.specs.Numbers.{site_numbers}
use Rattle.little_endian.specs.Numbers.{numbers_bytes}
use Rattle.snapshot_writing.proofs.PartLaws.{numbers_written}
use Rattle.snapshot_writing.proofs.write_deck.Goals as goal
use Rattle.snapshot_writing.proofs.write_deck.Goals.{After-site_words-words}

-- The memory has as many numbers as the code counted.
long : (c : After-site_words-words)
    → length (take c.site_words-words.result c.args.memory.now)
    ≡ c.site_words-words.result
long c =
    length-take-le c.site_words-words.result c.args.memory.now
    (omega (arith, c.site_words-words.ensures, c.requires.memory_long))

pub slice_bounds-write_words-end : goal.slice_bounds-write_words-end
slice_bounds-write_words-end c = sym (long c)

pub write_words-requires : goal.write_words-requires
write_words-requires c =
    omega (
      arith,
      long (goal.at.write_words-requires c).After-site_words-words,
      c.site_words-words.ensures,
      c.requires.deck_fits,
    )

pub returns : goal.returns
returns c =
    let narrow = c.write_numbers in
    let row = c.site_row in
    let a = c.args in
    let words = c.site_words-words.result in
    let record_numbers = site_numbers a.site in
    narrow.ensures
    ∙ (λ i. written_at (a.place + 4 * words) (numbers_bytes 4 (row.ensures i))
    (c.write_words.ensures i))
    ∙ numbers_written 4 a.place words (take words a.memory.now) record_numbers
    a.bytes.now (long (goal.at.returns c).After-site_words-words)
    (omega (arith, c.site_words-words.ensures, c.requires.deck_fits))
    ∙ ap (λ (n : ℕ). written_at a.place
    (numbers_bytes 4 (take n a.memory.now ++ record_numbers)) a.bytes.now)
    c.site_words-words.ensures
