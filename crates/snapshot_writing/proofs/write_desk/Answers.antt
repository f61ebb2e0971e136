-- The memory's numbers, the record's, and the counts of messages, one after another.
use mathlib.Core.Path.{◌≡◌, sym, ◌∙◌}
use Prim.Native.Nat.{ℕ, ◌+◌, ◌*◌, ◌≤◌}
use native.Mathlib.Omega.{arith}
use lib.ListN.{length, take}
use lib.Seq.{length-take-le}
use Rattle.laws.specs.Writing.{written_at}
use Rattle.model.specs.CoordinatorMemory.{coordinator_words}
use Rattle.model.proofs.Thresholds.SettingsLaws.{settled}
use Rattle.model.proofs.BetweenArrivals.ReportLaws.{value_count_is}
use Rattle.little_endian.specs.Numbers.{numbers_bytes}
use Rattle.snapshot_file.specs.Layout.{desk_place}
use Rattle.snapshot_writing.proofs.PartLaws.{desk_fits, desk_written}
use Rattle.snapshot_writing.proofs.write_desk.Goals as goal
use Rattle.snapshot_writing.proofs.write_desk.Goals.{Start}

-- The words that the code counts.
abbrev counted : Start → ℕ
counted start = start.args.settings.universe + 1024

words_are : (start : Start) → counted start ≡ coordinator_words start.args.settings
words_are start = omega (arith, value_count_is)

-- The memory has as many numbers.
long : (start : Start)
    → length (take (counted start) start.args.memory.now) ≡ counted start
long start =
    length-take-le (counted start) start.args.memory.now
    (omega (arith, words_are start, start.requires.memory_long))

-- There are 32 counts, and no more sites.
enough : (start : Start) → start.args.settings.sites ≤ length start.args.counts
enough start =
    omega (
      arith,
      (settled start.args.settings start.requires.file_fits.settings_accepted).sites.at_most,
      start.well_formed.1.1.0,
    )

-- As many are written.
counts_long : (start : Start)
    → length (take start.args.settings.sites start.args.counts) ≡ start.args.settings.sites
counts_long start = length-take-le start.args.settings.sites start.args.counts (enough start)

pub slice_bounds-write_numbers-end : goal.slice_bounds-write_numbers-end
slice_bounds-write_numbers-end c = sym (long (goal.at.slice_bounds-write_numbers-end c).Start)

pub write_numbers-requires : goal.write_numbers-requires
write_numbers-requires c =
    omega (
      arith,
      long (goal.at.write_numbers-requires c).Start,
      words_are (goal.at.write_numbers-requires c).Start,
      desk_fits c.args.settings c.args.bytes.now c.requires.file_fits,
    )

pub write_numbers-requires-2 : goal.write_numbers-requires-2
write_numbers-requires-2 c =
    omega (
      arith,
      words_are (goal.at.write_numbers-requires-2 c).Start,
      c.write_numbers.auto.bytes,
      desk_fits c.args.settings c.args.bytes.now c.requires.file_fits,
    )

pub slice_bounds-counts-end : goal.slice_bounds-counts-end
slice_bounds-counts-end c =
    omega (
      arith,
      (settled c.args.settings c.requires.file_fits.settings_accepted).sites.at_most,
    )

pub slice_bounds-write_numbers-end-3 : goal.slice_bounds-write_numbers-end-3
slice_bounds-write_numbers-end-3 c =
    sym (counts_long (goal.at.slice_bounds-write_numbers-end-3 c).Start)

pub write_numbers-requires-3 : goal.write_numbers-requires-3
write_numbers-requires-3 c =
    omega (
      arith,
      words_are (goal.at.write_numbers-requires-3 c).Start,
      counts_long (goal.at.write_numbers-requires-3 c).Start,
      c.write_numbers.auto.bytes,
      c.write_numbers-2.auto.bytes,
      desk_fits c.args.settings c.args.bytes.now c.requires.file_fits,
    )

pub returns : goal.returns
returns c =
    let a = c.args in
    let words = counted (goal.at.returns c).Start in
    let own = numbers_bytes 8 (take a.settings.sites a.counts) in
    c.write_numbers-3.ensures
    ∙ (λ i. written_at (desk_place + 8 * words + 80) own (c.write_numbers-2.ensures i))
    ∙ (λ i. written_at (desk_place + 8 * words + 80) own
    (written_at (desk_place + 8 * words) (numbers_bytes 8 (c.coordinator_row.ensures i))
    (c.write_numbers.ensures i)))
    ∙ desk_written a.settings a.coordinator words a.counts a.memory.now a.bytes.now
    (words_are (goal.at.returns c).Start) (enough (goal.at.returns c).Start) c.requires.memory_long
    c.requires.file_fits
