-- The decks before j are consistent, and those that are left decide.
use mathlib.Core.Path.{◌≡◌, sym, ap, ◌∙◌, subst⁻¹}
use mathlib.Core.List.{List}
use Prim.Native.Nat.{ℕ, ◌+◌, ◌*◌, ◌≤◌}
use native.Mathlib.Omega.{arith}
use lib.ListN.{drop}
use Rattle.model.specs.SiteMemory.{site_consistent}
use Rattle.snapshot_file.specs.Layout.{decks_place_of}
use Rattle.snapshot_file.specs.Reading.{deck_size}
use Rattle.snapshot_file.proofs.LayoutLaws.{file_small}
use Rattle.snapshot_decks.specs.Decks.{deck_record, deck_memory, DeckLies}
use Rattle.snapshot_decks.proofs.DeckLaws.{walked_start, walked_on, walked_off, walked_end, here_is, deck_lies}
use Rattle.snapshot_decks.proofs.test_decks.Invariants.{others}
use Rattle.snapshot_decks.proofs.test_decks.Goals as goal
use Rattle.snapshot_decks.proofs.test_decks.Goals.{After-test_deck, In-loop-j}

-- Where the deck lies that is tested, and that its place is a small number.
lies : (c : In-loop-j)
    →
    DeckLies c.args.settings c.args.file.now
    (c.decks_place-first.result + c.loop-j.j * c.deck_size-size.result)
lies c =
    let a = c.args in
    subst⁻¹ (DeckLies a.settings a.file.now)
    (λ i. c.decks_place-first.ensures i
    + c.loop-j.j * c.deck_size-size.ensures i)
    (deck_lies a.settings a.file.now (others a.settings) c.requires.whole
    c.loop-j.j c.loop-j-test.true)

small : (c : In-loop-j)
    → c.decks_place-first.result + c.loop-j.j * c.deck_size-size.result ≤ 3000000
small c =
    omega (
      arith,
      (lies c).within,
      c.requires.whole.length_is,
      file_small c.args.settings c.requires.whole.settings_accepted,
    )

-- What the test of the deck says, at the place where the decks are looked at.
told : (c : After-test_deck)
    →
    let a = c.args in
    let here = drop (c.loop-j.j * deck_size a.settings)
    (drop (decks_place_of a.settings) a.file.now) in
    site_consistent a.settings (deck_record a.settings here) (deck_memory a.settings here)
    ≡ c.test_deck.result
told c =
    let a = c.args in
    ap (λ (bytes : List ℕ).
    site_consistent a.settings (deck_record a.settings bytes) (deck_memory a.settings bytes))
    (sym (here_is a.settings a.file.now (others a.settings) c.loop-j.j
    c.loop-j.invariant c.loop-j-test.true
    c.decks_place-first.result c.deck_size-size.result c.decks_place-first.ensures
    c.deck_size-size.ensures))
    ∙ sym c.test_deck.ensures

pub loop-j-init : goal.loop-j-init
loop-j-init c =
    let a = c.args in
    walked_start a.settings a.file.now (others a.settings)

pub overflow_mul-j : goal.overflow_mul-j
overflow_mul-j c =
    omega (arith, small c)

pub overflow_add-first : goal.overflow_add-first
overflow_add-first c =
    omega (arith, small c)

pub test_deck-requires : goal.test_deck-requires
test_deck-requires c =
    record {
      lies = lies (goal.at.test_deck-requires c).In-loop-j;
      room = omega (arith, c.requires.room);
    }

pub loop-j-preserved : goal.loop-j-preserved
loop-j-preserved c =
    let a = c.args in
    walked_on a.settings a.file.now (others a.settings) c.loop-j.j
    c.loop-j.invariant c.loop-j-test.true
    (told (goal.at.loop-j-preserved c).After-test_deck ∙ c.if-not-test_deck.false)

pub returns-then-not-test_deck : goal.returns-then-not-test_deck
returns-then-not-test_deck c =
    let a = c.args in
    sym (walked_off a.settings a.file.now (others a.settings) c.loop-j.j
    c.loop-j.invariant c.loop-j-test.true
    (told (goal.at.returns-then-not-test_deck c).After-test_deck ∙ c.if-not-test_deck.true))

pub returns : goal.returns
returns c =
    let a = c.args in
    sym (walked_end a.settings a.file.now (others a.settings) c.loop-j.j
    c.loop-j.invariant c.loop-j-test.false)
