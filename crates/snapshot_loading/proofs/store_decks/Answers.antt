-- The memory of the decks before j stands where it belongs, and what lies behind is as it was.
use mathlib.Core.Path.{◌≡◌, ap, ◌∙◌}
use mathlib.Core.List.{List, [], ◌++◌}
use Prim.Native.Nat.{ℕ, suc, ◌+◌, ◌-◌, ◌*◌, ◌≤◌}
use native.Mathlib.Nat.{mul-le-mul, mul-le-mul_right}
use native.Mathlib.Omega.{arith}
use lib.ListN.{length, take, drop, length-drop}
use lib.Seq.{drop-drop, length-take-le}
use Rattle.model.specs.SiteMemory.{site_words}
use Rattle.model.proofs.Thresholds.SettingsLaws.{settled}
use Rattle.model.proofs.BetweenArrivals.ReportLaws.{value_count_is}
use Rattle.little_endian.specs.Numbers.{numbers_in}
use Rattle.snapshot_file.specs.Layout.{decks_place_of}
use Rattle.snapshot_file.specs.Reading.{deck_size}
use Rattle.snapshot_file.proofs.LayoutLaws.{file_small}
use Rattle.snapshot_decks.proofs.DeckLaws.{deck_lies}
use Rattle.snapshot_loading.proofs.LoadingLaws.{words_stored, words_end}
use Rattle.snapshot_loading.proofs.store_decks.Goals as goal
use Rattle.snapshot_loading.proofs.store_decks.Goals.{In-loop-j}

-- ---- The next deck's places
-- Its part of the memory lies within it, and its bytes within the file; all are small numbers.
record Places (c : In-loop-j) : Type 0 where
  part_within : c.loop-j.j * c.site_words-words.result
      + c.site_words-words.result
      ≤ length c.loop-j.memory
  part_small : c.loop-j.j * c.site_words-words.result
      + c.site_words-words.result
      ≤ 3000000
  deck_within : c.decks_place-first.result
      + c.loop-j.j * c.deck_size-size.result
      + 4 * c.site_words-words.result
      ≤ length c.args.file.now
  deck_small : c.decks_place-first.result
      + c.loop-j.j * c.deck_size-size.result
      ≤ 3000000

places : (c : In-loop-j) → Places c
places c =
    let a = c.args in
    let s = settled a.settings c.requires.whole.settings_accepted in
    let j = c.loop-j.j in
    let words = c.site_words-words.result in
    let words_are = c.site_words-words.ensures in
    let some : suc j ≤ a.settings.sites = omega (arith, c.loop-j-test.true) in
    let most : suc j * site_words a.settings ≤ a.settings.sites * site_words a.settings =
    mul-le-mul_right (site_words a.settings) some in
    let own : j * words + words ≡ suc j * site_words a.settings =
    (λ i. j * words_are i + words_are i) ∙ omega arith in
    let size : site_words a.settings ≤ 13024 =
    omega (arith, s.capacity.at_most, value_count_is) in
    let all : a.settings.sites * site_words a.settings ≤ 32 * 13024 =
    mul-le-mul s.sites.at_most size in
    let lies = deck_lies a.settings a.file.now [] c.requires.whole j
    c.loop-j-test.true in
    let place : c.decks_place-first.result + j * c.deck_size-size.result
    ≡ decks_place_of a.settings + j * deck_size a.settings =
    λ i. c.decks_place-first.ensures i + j * c.deck_size-size.ensures i in
    record {
      part_within = omega (arith, own, most, c.requires.memory_long);
      part_small = omega (arith, own, most, all);
      deck_within = omega (arith, place, lies.within, words_are);
      deck_small =
          omega (
            arith,
            place,
            lies.within,
            c.requires.whole.length_is,
            file_small a.settings c.requires.whole.settings_accepted,
          );
    }

-- The part that is lent has as many numbers as a deck's memory.
part_count : (words start : ℕ) (memory : List ℕ)
    → start + words ≤ length memory
    → length (take (start + words - start) (drop start memory)) ≡ words
part_count words start memory within =
    let count : start + words - start ≡ words = omega arith in
    ap (λ (n : ℕ). length (take n (drop start memory))) count
    ∙ length-take-le words (drop start memory)
    (omega (arith, length-drop start memory, within))

pub loop-j-init : goal.loop-j-init
loop-j-init c =
    let none : 0 * c.site_words-words.result ≡ 0 = omega arith in
    rw none

pub overflow_mul-start : goal.overflow_mul-start
overflow_mul-start c =
    omega (arith, (places c).part_small)

pub overflow_add-end : goal.overflow_add-end
overflow_add-end c =
    omega (arith, (places c).part_small)

pub overflow_mul-j : goal.overflow_mul-j
overflow_mul-j c =
    omega (arith, (places c).deck_small)

pub overflow_add-first : goal.overflow_add-first
overflow_add-first c =
    omega (arith, (places c).deck_small)

pub offset_bounds-memory-start : goal.offset_bounds-memory-start
offset_bounds-memory-start c =
    omega (arith, (places c).part_small)

pub slice_bounds-read_words-count : goal.slice_bounds-read_words-count
slice_bounds-read_words-count c =
    omega arith

pub slice_bounds-read_words-start : goal.slice_bounds-read_words-start
slice_bounds-read_words-start c =
    omega arith

pub slice_bounds-read_words-end : goal.slice_bounds-read_words-end
slice_bounds-read_words-end c =
    omega (arith, (places c).part_within)

pub read_words-requires : goal.read_words-requires
read_words-requires c =
    let words = c.site_words-words.result in
    omega (
      arith,
      (places (goal.at.read_words-requires c).In-loop-j).deck_within,
      part_count words (c.loop-j.j * words) c.loop-j.memory
          (places (goal.at.read_words-requires c).In-loop-j).part_within,
    )

-- ---- A deck stored
pub loop-j-preserved : goal.loop-j-preserved
loop-j-preserved c =
    let a = c.args in
    let words = c.site_words-words.result in
    let start = c.loop-j.j * words in
    let memory = c.loop-j.memory in
    let part = c.read_words.new.numbers in
    let file = c.args.file.now in
    let place = c.decks_place-first.result + c.loop-j.j * c.deck_size-size.result in
    let count = part_count words start memory (places
    (goal.at.loop-j-preserved c).In-loop-j).part_within in
    let part_is : part ≡ numbers_in 4 words (drop place file) =
    c.read_words.ensures
    ∙ ap (λ (n : ℕ). numbers_in 4 n (drop place file)) count in
    let width : start + words - start ≡ words = omega arith in
    let behind : drop (start + words - start) (drop start memory) ≡ drop (start + words) memory =
    ap (λ (n : ℕ). drop n (drop start memory)) width ∙ drop-drop words start memory in
    ap (λ (l : List ℕ). take start memory ++ (part ++ l)) behind
    ∙ words_stored words c.deck_size-size.result c.loop-j.j c.decks_place-first.result
    file a.memory.now memory part c.loop-j.invariant part_is

pub returns : goal.returns
returns c =
    let a = c.args in
    words_end a.settings a.file.now a.memory.now c.loop-j.memory
    c.site_words-words.result c.deck_size-size.result c.decks_place-first.result
    c.loop-j.j c.site_words-words.ensures c.deck_size-size.ensures
    c.decks_place-first.ensures (omega (arith, c.loop-j-test.false))
    c.loop-j.invariant
