-- The records and counts of the decks before j, and fresh ones behind them.
use mathlib.Core.Path.{subst⁻¹}
use mathlib.Core.List.{[]}
use Prim.Native.Nat.{◌+◌, ◌*◌, ◌≤◌}
use native.Mathlib.Omega.{arith}
use Rattle.model.specs.Limits.{most_sites}
use Rattle.model.proofs.Thresholds.SettingsLaws.{settled}
use Rattle.snapshot_file.proofs.LayoutLaws.{file_small}
use Rattle.snapshot_decks.specs.Decks.{DeckLies}
use Rattle.snapshot_decks.proofs.DeckLaws.{deck_lies}
use Rattle.snapshot_loading.proofs.LoadingLaws.{recording_begins, recording_on, recording_ends, counting_begins, counting_on, counting_ends}
use Rattle.snapshot_loading.proofs.sites_in.Goals as goal
use Rattle.snapshot_loading.proofs.sites_in.Goals.{In-loop-j}

-- Where the deck lies whose record is read, and that its place is a small number.
lies : (c : In-loop-j)
    →
    DeckLies c.args.settings c.args.file.now
    (c.decks_place-first.result + c.loop-j.j * c.deck_size-size.result)
lies c =
    let a = c.args in
    subst⁻¹ (DeckLies a.settings a.file.now)
    (λ i. c.decks_place-first.ensures i + c.loop-j.j * c.deck_size-size.ensures i)
    (deck_lies a.settings a.file.now [] c.requires c.loop-j.j
    c.loop-j-test.true)

small : (c : In-loop-j)
    →
    c.decks_place-first.result + c.loop-j.j * c.deck_size-size.result
    ≤ 3000000
small c =
    omega (
      arith,
      (lies c).within,
      c.requires.length_is,
      file_small c.args.settings c.requires.settings_accepted,
    )

few : (c : In-loop-j)
    → c.args.settings.sites ≤ most_sites
few c =
    (settled c.args.settings c.requires.settings_accepted).sites.at_most

pub loop-j-init : goal.loop-j-init
loop-j-init c =
    let a = c.args in (
      recording_begins a.settings a.file.now,
      counting_begins a.settings a.file.now,
    )

pub overflow_mul-j : goal.overflow_mul-j
overflow_mul-j c =
    omega (arith, small c)

pub overflow_add-first : goal.overflow_add-first
overflow_add-first c =
    omega (arith, small c)

pub deck_record-requires : goal.deck_record-requires
deck_record-requires c =
    lies c

pub bounds-records-j : goal.bounds-records-j
bounds-records-j c =
    omega (arith, c.loop-j-test.true, few (goal.at.bounds-records-j c).In-loop-j)

pub messages_in-requires : goal.messages_in-requires
messages_in-requires c =
    record { whole = c.requires; known = omega arith }

pub bounds-counts-j : goal.bounds-counts-j
bounds-counts-j c =
    omega (arith, c.loop-j-test.true, few (goal.at.bounds-counts-j c).In-loop-j)

pub loop-j-preserved : goal.loop-j-preserved
loop-j-preserved c =
    let a = c.args in (
      recording_on a.settings a.file.now c.loop-j.records c.loop-j.j
          c.decks_place-first.result c.deck_size-size.result c.deck_record.result
          c.loop-j.invariant.0 c.loop-j-test.true (few (goal.at.loop-j-preserved c).In-loop-j)
          c.decks_place-first.ensures c.deck_size-size.ensures
          c.deck_record.ensures,
      counting_on a.settings a.file.now c.loop-j.counts c.loop-j.j
          c.messages_in.result c.loop-j.invariant.1 c.loop-j-test.true
          (few (goal.at.loop-j-preserved c).In-loop-j) c.messages_in.ensures,
    )

pub returns : goal.returns
returns c =
    let loop = c.loop-j in
    let a = c.args in
    let most = (settled a.settings c.requires.settings_accepted).sites.at_most in
    let records = recording_ends a.settings a.file.now loop.records loop.j
    loop.invariant.0 c.loop-j-test.false most in
    let counts = counting_ends a.settings a.file.now loop.counts loop.j
    loop.invariant.1 c.loop-j-test.false most in
    λ i. record { records = records i; messages = counts i }
