-- What one write took follows what was written before; after the last all of it is written.
use Rattle.std.proofs.Common.{◌+◌, sym, subst, refl, arith, take_all}
use Rattle.std.proofs.KnownBytes.{Appends-trans}
use Rattle.std.specs.Io.KnownBytes.{Appends}
use lib.Seq.{take-add}
use Rattle.descriptors.proofs.write_all.Goals as goal

pub returns-in-Whole-clause-taken : goal.returns-in-Whole-clause-taken
returns-in-Whole-clause-taken g c =
    let bytes = c.args.bytes.now in
    let says = c.in-Whole.ensures.taken in
    let so_far = subst (Appends _ _) (sym (take-add c.loop.done c.in-Whole.field-0 bytes))
    (Appends-trans _ _ _ _ _ c.loop.invariant.1 says.added) in
    record {
      count = c.loop.done + c.in-Whole.field-0;
      front = so_far;
      whole = λ _. subst (Appends _ _)
          (take_all (c.loop.done + c.in-Whole.field-0) bytes (omega (arith, says.whole refl)))
          so_far;
    }

pub loop-preserved : goal.loop-preserved
loop-preserved g c =
    let says = c.in-Part.ensures in (
      says.counts.fits,
      subst (Appends _ _) (sym (take-add c.loop.done c.in-Part.moved c.args.bytes.now))
          (Appends-trans _ _ _ _ _ c.loop.invariant.1 says.taken.added),
    )
