-- The decks before j are written, at each turn.
use mathlib.Core.Path.{◌≡◌, ◌∙◌}
use Prim.Native.Nat.{◌+◌, ◌*◌, ◌≤◌}
use native.Mathlib.Omega.{arith}
use lib.ListN.{length, get_or}
use Rattle.laws.specs.Writing.{written_at}
use Rattle.model.specs.Held.{no_record}
use Rattle.model.proofs.Thresholds.SettingsLaws.{settled}
use Rattle.little_endian.specs.Numbers.{numbers_bytes}
use Rattle.bench_memory.specs.Promises.{SitesFit}
use Rattle.bench_memory.proofs.PartLaws.{PartStarts, site_few, starts_at, own_is, part_fits}
use Rattle.snapshot_file.specs.Layout.{deck_bytes}
use Rattle.snapshot_file.specs.File.{deck_numbers}
use Rattle.snapshot_writing.proofs.PartLaws.{deck_inside, written_none, written_more, written_all}
use Rattle.snapshot_writing.proofs.write_decks.Goals as goal
use Rattle.snapshot_writing.proofs.write_decks.Goals.{In-loop-j, Start}

-- ---- What was given
-- Memory for all sites, and their records.
sites_fit : (start : Start) → SitesFit start.args.settings start.args.memory.now
sites_fit start = record {
  settings_accepted = start.requires.file_fits.settings_accepted;
  long_enough = start.requires.memory_long;
}

all_records : (start : Start) → start.args.settings.sites ≤ length start.args.sites.records
all_records start =
    let all : length start.args.sites.records ≡ 32 =
    start.well_formed.1.0.1.1.0.1.0.1 in
    omega (
      arith,
      all,
      (settled start.args.settings start.requires.file_fits.settings_accepted).sites.at_most,
    )

-- ---- One deck
-- Its part of the memory starts within it, as the code counts its words.
starts : (tested : In-loop-j)
    →
    PartStarts tested.args.memory.now tested.loop-j.j tested.site_words-words.result
starts tested =
    let fit : SitesFit tested.args.settings tested.args.memory.now =
    record {
      settings_accepted = tested.requires.file_fits.settings_accepted;
      long_enough = tested.requires.memory_long;
    } in
    starts_at fit _ tested.loop-j-test.true _ tested.site_words-words.ensures

-- It lies within the bytes, from where the code counts it.
inside : (tested : In-loop-j)
    →
    tested.decks_place-first.result + tested.loop-j.j * tested.deck_size-size.result
    + tested.deck_size-size.result
    ≤ length tested.args.bytes.now
inside tested =
    rw (tested.decks_place-first.ensures, tested.deck_size-size.ensures)
    (deck_inside tested.args.settings tested.args.bytes.now tested.loop-j.j
    tested.requires.file_fits tested.loop-j-test.true)

pub loop-j-init : goal.loop-j-init
loop-j-init c =
    let a = c.args in
    written_none a.settings a.sites.records a.memory.now a.bytes.now

pub overflow_mul-start : goal.overflow_mul-start
overflow_mul-start c =
    omega (arith, (starts c).small)

pub offset_bounds-sites-j : goal.offset_bounds-sites-j
offset_bounds-sites-j c =
    omega (
      arith,
      site_few (sites_fit (goal.at.offset_bounds-sites-j c).Start) c.loop-j.j
          c.loop-j-test.true,
    )

pub bounds-sites-j : goal.bounds-sites-j
bounds-sites-j c =
    omega (
      arith,
      site_few (sites_fit (goal.at.bounds-sites-j c).Start) c.loop-j.j
          c.loop-j-test.true,
    )

pub offset_bounds-memory-start : goal.offset_bounds-memory-start
offset_bounds-memory-start c =
    omega (arith, (starts (goal.at.offset_bounds-memory-start c).In-loop-j).small)

pub slice_bounds-write_deck-count : goal.slice_bounds-write_deck-count
slice_bounds-write_deck-count c =
    omega (arith, (starts (goal.at.slice_bounds-write_deck-count c).In-loop-j).within)

pub slice_bounds-write_deck-start : goal.slice_bounds-write_deck-start
slice_bounds-write_deck-start c =
    omega (arith, (starts (goal.at.slice_bounds-write_deck-start c).In-loop-j).within)

-- Bytes have an address each.
pub overflow_mul-j : goal.overflow_mul-j
overflow_mul-j c =
    omega (arith, inside (goal.at.overflow_mul-j c).In-loop-j, c.well_formed.1.1.1.0)

pub overflow_add-first : goal.overflow_add-first
overflow_add-first c =
    omega (arith, inside (goal.at.overflow_add-first c).In-loop-j, c.well_formed.1.1.1.0)

pub write_deck-requires : goal.write_deck-requires
write_deck-requires c =
    let part = part_fits (sites_fit (goal.at.write_deck-requires c).Start) c.loop-j.j
    c.loop-j-test.true
    c.site_words-words.result c.site_words-words.ensures in
    record {
      settings_accepted = part.settings_accepted;
      memory_long = part.long_enough;
      deck_fits =
          omega (
            arith,
            inside (goal.at.write_deck-requires c).In-loop-j,
            c.deck_size-size.ensures,
            c.loop-j.invariant.same_length,
          );
    }

pub loop-j-preserved : goal.loop-j-preserved
loop-j-preserved c =
    let a = c.args in
    let j = c.loop-j.j in
    written_more a.settings a.sites.records a.memory.now a.bytes.now c.requires
    (all_records (goal.at.loop-j-preserved c).Start) j c.loop-j.invariant c.loop-j-test.true
    c.write_deck.auto.bytes
    (c.write_deck.ensures
    ∙ (λ i. written_at (c.decks_place-first.ensures i + j * c.deck_size-size.ensures i)
    (numbers_bytes deck_bytes (deck_numbers a.settings (get_or a.sites.records j no_record)
    (own_is (sites_fit (goal.at.loop-j-preserved c).Start) j c.loop-j-test.true
    c.site_words-words.result
    c.site_words-words.ensures i))) c.loop-j.bytes))

pub returns : goal.returns
returns c =
    let a = c.args in
    written_all a.settings a.sites.records a.memory.now a.bytes.now c.requires
    (all_records (goal.at.returns c).Start) c.loop-j.j c.loop-j.invariant c.loop-j-test.false
