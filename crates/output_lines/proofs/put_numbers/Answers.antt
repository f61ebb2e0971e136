-- The numbers are written one after the other.
use Rattle.laws.proofs.Writing.{put_as, putting_begins, putting_on, putting_ends}
use Rattle.output_lines.proofs.LinesLaws.{spaced_number}
use Rattle.output_lines.proofs.SpacedLaws.{spaced_joined}
use Rattle.output_lines.proofs.put_numbers.Goals as goal

pub loop-item-init : goal.loop-item-init
loop-item-init c =
    let args = c.args in
    putting_begins spaced_number 0 args.items.now args.at args.out.now
    (rw (spaced_joined args.items.now) c.requires)

pub loop-item-preserved : goal.loop-item-preserved
loop-item-preserved c =
    let loop = c.loop-item in
    putting_on spaced_number 0 loop.item-index loop.invariant c.loop-item-test.true
    (rw c.from.ensures at c.put_spaced-place.ensures)

pub returns : goal.returns
returns c =
    put_as (spaced_joined c.args.items.now)
    (putting_ends spaced_number 0 c.loop-item.item-index c.loop-item.invariant
    c.loop-item-test.false)
