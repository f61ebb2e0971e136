-- The deck's memory stands at the front of the lent numbers when it is tested.
use mathlib.Core.Path.{◌≡◌, sym, ap, ◌∙◌}
use mathlib.Core.List.{◌++◌}
use native.Mathlib.Omega.{arith}
use lib.ListN.{length, take, drop}
use lib.Seq.{length-take-le}
use Rattle.model.specs.SiteMemory.{site_consistent}
use Rattle.snapshot_decks.specs.Decks.{deck_memory}
use Rattle.snapshot_decks.proofs.DeckLaws.{read_back, memory_long}
use Rattle.snapshot_decks.proofs.test_deck.Goals as goal
use Rattle.snapshot_decks.proofs.test_deck.Goals.{After-read_words}

-- The numbers that are tested are the deck's memory.
front : (c : After-read_words)
    → let sized = c.site_words-words in
    let a = c.args in
    take sized.result (c.read_words.new.numbers ++ drop sized.result a.scratch.now)
    ≡ deck_memory a.settings (drop a.place a.file.now)
front c =
    let sized = c.site_words-words in
    let a = c.args in
    read_back a.settings a.file.now a.place sized.result a.scratch.now _
    sized.ensures c.requires.room c.read_words.ensures

pub slice_bounds-read_words-end-2 : goal.slice_bounds-read_words-end-2
slice_bounds-read_words-end-2 c =
    let sized = c.site_words-words in
    sym (length-take-le sized.result c.args.scratch.now
    (omega (arith, sized.ensures, c.requires.room)))

pub read_words-requires : goal.read_words-requires
read_words-requires c =
    let sized = c.site_words-words in
    omega (
      arith,
      sized.ensures,
      c.requires.lies.within,
      length-take-le sized.result c.args.scratch.now
          (omega (arith, sized.ensures, c.requires.room)),
    )

pub slice_bounds-site_consistent-end-2 : goal.slice_bounds-site_consistent-end-2
slice_bounds-site_consistent-end-2 c =
    let sized = c.site_words-words in
    let a = c.args in
    sized.ensures
    ∙ sym (ap length (front (goal.at.slice_bounds-site_consistent-end-2 c).After-read_words)
    ∙ memory_long a.settings (drop a.place a.file.now))

pub site_consistent-requires : goal.site_consistent-requires
site_consistent-requires c =
    let a = c.args in
    record {
      settings_accepted = c.requires.lies.settings_accepted;
      long_enough =
          omega (
            arith,
            ap length (front (goal.at.site_consistent-requires c).After-read_words),
            memory_long a.settings (drop a.place a.file.now),
          );
    }

pub returns : goal.returns
returns c =
    let found = c.deck_record-site in
    let a = c.args in
    c.site_consistent.ensures
    ∙ (λ i. site_consistent a.settings (found.ensures i)
    (front (goal.at.returns c).After-read_words i))
