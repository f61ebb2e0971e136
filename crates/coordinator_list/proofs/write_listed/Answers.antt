-- The invariant is `Writing`: the items listed among those passed stand at the front of the list,
-- and from there on it is as it was. A listed item has a place, since all of them have.
use lib.ListN.{length, length-take}
use lib.Seq.{get_or-take}
use native.Mathlib.Omega.{arith}
use mathlib.Core.Path.{sym, ◌∙◌}
use Prim.Native.Nat.{◌<◌, ◌≤◌}
use Rattle.coordinator_reading.proofs.ReadLaws.{sides_ask}
use Rattle.coordinator_list.proofs.ListLaws.{counting_end, one_more_listed, listed_few}
use Rattle.coordinator_list.proofs.WriteLaws.{writing_yes, writing_no, writing_end}
use Rattle.model.proofs.Thresholds.SettingsLaws.{settled}
use Rattle.model.specs.CoordinatorMemory.{coordinator_in}
use Rattle.coordinator_list.proofs.write_listed.Goals as goal
use Rattle.coordinator_list.proofs.write_listed.Goals.{then-is_listed, else-is_listed}
use Rattle.coordinator_list.proofs.write_listed.Goals.{Then-is_listed}

-- A listed item has a place.
place : (c : Then-is_listed) → c.loop-item.count < length c.args.list.now
place c =
    let settings = c.args.settings in
    let memory = c.args.memory.now in
    let item = c.loop-item.item in
    let inside : item < settings.universe =
    omega (arith, c.loop-item-test.true, length-take settings.universe memory) in
    let listed = one_more_listed settings (coordinator_in settings c.args.coordinator memory)
    c.loop-item.count item c.loop-item.invariant.counting inside
    (sym c.is_listed.ensures ∙ c.if-is_listed.true) in
    omega (arith, c.requires.places)

pub is_listed-requires : goal.is_listed-requires
is_listed-requires c =
    let settings = c.args.settings in
    let memory = c.args.memory.now in
    let item = c.loop-item.item in
    let inside : item < settings.universe =
    omega (arith, c.loop-item-test.true, length-take settings.universe memory) in
    rw (get_or-take settings.universe memory item 0 inside)
    (sides_ask settings c.args.coordinator memory c.requires.reading item inside)

pub bounds-list-count : goal.bounds-list-count
bounds-list-count c = omega (arith, place c, c.loop-item.invariant.same_length)

pub loop-item-preserved : goal.loop-item-preserved
loop-item-preserved c =
    let settings = c.args.settings in
    let memory = c.args.memory.now in
    let here = coordinator_in settings c.args.coordinator memory in
    let before = c.args.list.now in
    let count = c.loop-item.count in
    let item = c.loop-item.item in
    let inside : item < settings.universe =
    omega (arith, c.loop-item-test.true, length-take settings.universe memory) in
    let rule = sym c.is_listed.ensures in
    elim c.if-is_listed.branch [
      | then-is_listed w ↦
          rw (w.list-is, w.count-is)
          (writing_yes settings here before c.loop-item.list count item c.loop-item.invariant inside
          (rule ∙ w.if-is_listed.true)
          (omega (
            arith,
            c.requires.places,
            one_more_listed settings here count item c.loop-item.invariant.counting inside
                (rule ∙ w.if-is_listed.true),
          )))
      | else-is_listed w ↦
          rw (w.list-is, w.count-is)
          (writing_no settings here before c.loop-item.list count item c.loop-item.invariant inside
          (rule ∙ w.if-is_listed.false))
    ]

pub overflow_cast-result : goal.overflow_cast-result
overflow_cast-result c =
    omega (
      arith,
      c.loop-item.invariant.counting.counted,
      c.loop-item.invariant.counting.place,
      listed_few c.args.settings (coordinator_in c.args.settings
          c.args.coordinator c.args.memory.now) c.loop-item.item,
      (settled c.args.settings c.requires.reading.settings_accepted).universe,
    )

pub returns : goal.returns
returns c =
    let settings = c.args.settings in
    let memory = c.args.memory.now in
    let here = coordinator_in settings c.args.coordinator memory in
    let count = c.loop-item.count in
    let item = c.loop-item.item in
    let past : settings.universe ≤ item = omega (
      arith,
      c.loop-item-test.false,
      c.requires.reading.memory_long,
      length-take settings.universe memory,
    ) in
    record {
      count = counting_end settings here count item c.loop-item.invariant.counting past;
      list = writing_end settings here c.args.list.now c.loop-item.list count item
          c.loop-item.invariant past;
    }
