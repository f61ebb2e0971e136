-- The first items, or all if there are fewer.
use mathlib.Core.Path.{subst}
use mathlib.Core.List.{List}
use Prim.Native.Nat.{ℕ}
use native.Mathlib.Omega.{arith}
use lib.ListN.{length-take}
use Rattle.output_lines.specs.Promises.{listed_line, LineWritten}
use Rattle.output_lines.proofs.SpacedLaws.{take_lesser}
use Rattle.output_transcript.proofs.write_listed.Goals as goal

pub slice_bounds-write_items-end : goal.slice_bounds-write_items-end
slice_bounds-write_items-end c =
    let args = c.args in
    let places = c.min-listed in
    omega (arith, length-take places.result args.items.now, places.ensures)

pub returns : goal.returns
returns c =
    let args = c.args in
    let places = c.min-listed in
    let written = c.write_items in
    subst (λ (items : List ℕ). LineWritten (listed_line items) args.at args.out.now
    written.new.out written.result)
    (take_lesser args.items.now args.count places.result places.ensures)
    written.ensures
