-- The invariant is `Fitting`: so many items are listed among those passed, and each has a place.
use lib.ListN.{length-take}
use lib.Seq.{get_or-take}
use native.Mathlib.Omega.{arith}
use mathlib.Core.Path.{sym, ◌∙◌}
use Prim.Native.Nat.{◌<◌}
use Rattle.coordinator_reading.proofs.ReadLaws.{sides_ask}
use Rattle.coordinator_list.proofs.ListLaws.{fitting_yes, fitting_no, fits_all, fits_not, fits_end}
use Rattle.model.specs.CoordinatorMemory.{coordinator_in}
use Rattle.coordinator_list.proofs.list_fits.Goals as goal
use Rattle.coordinator_list.proofs.list_fits.Goals.{then-is_listed+else-places-count, else-is_listed}

pub returns-then-items-places : goal.returns-then-items-places
returns-then-items-places c =
    let start = c.args in
    sym (fits_all start.settings (coordinator_in start.settings start.coordinator
    start.memory.now)
    start.places c.if-items-places.true)

pub is_listed-requires : goal.is_listed-requires
is_listed-requires c =
    let settings = c.args.settings in
    let memory = c.args.memory.now in
    let item = c.loop-number.number-index in
    let inside : item < settings.universe =
    omega (arith, c.loop-number-test.true, length-take settings.universe memory) in
    rw (get_or-take settings.universe memory item 0 inside)
    (sides_ask settings c.args.coordinator memory c.requires item inside)

pub returns-then-places-count : goal.returns-then-places-count
returns-then-places-count c =
    let settings = c.args.settings in
    let memory = c.args.memory.now in
    sym (fits_not settings (coordinator_in settings c.args.coordinator memory)
    c.args.places c.loop-number.count c.loop-number.number-index c.loop-number.invariant
    (omega (arith, c.loop-number-test.true, length-take settings.universe memory))
    (sym c.is_listed.ensures ∙ c.if-is_listed.true)
    c.if-places-count.true)

pub loop-number-preserved : goal.loop-number-preserved
loop-number-preserved c =
    let settings = c.args.settings in
    let memory = c.args.memory.now in
    let here = coordinator_in settings c.args.coordinator memory in
    let places = c.args.places in
    let count = c.loop-number.count in
    let item = c.loop-number.number-index in
    let so_far = c.loop-number.invariant in
    let inside : item < settings.universe =
    omega (arith, c.loop-number-test.true, length-take settings.universe memory) in
    let rule = sym c.is_listed.ensures in
    elim c.if-is_listed.branch [
      | then-is_listed+else-places-count w ↦
          rw w.count-is
          (fitting_yes settings here places count item so_far inside (rule ∙ w.if-is_listed.true)
          w.if-places-count.false)
      | else-is_listed w ↦
          rw w.count-is
          (fitting_no settings here places count item so_far inside (rule ∙ w.if-is_listed.false))
    ]

pub returns : goal.returns
returns c =
    let settings = c.args.settings in
    let memory = c.args.memory.now in
    sym (fits_end settings (coordinator_in settings c.args.coordinator memory)
    c.args.places c.loop-number.count c.loop-number.number-index c.loop-number.invariant
    (omega (
      arith,
      c.loop-number-test.false,
      c.requires.memory_long,
      length-take settings.universe memory,
    )))
