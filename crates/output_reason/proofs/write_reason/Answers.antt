-- There is room for any line, and so for this one.
use native.Mathlib.Omega.{arith}
use Prim.Native.Nat.{◌^◌, ◌<◌}
use borrow.Author.Rules.{rules}
use Rattle.output_reason.proofs.ReasonLaws.{reason_few}
use Rattle.output_reason.proofs.write_reason.Goals as goal

pub put_reason-requires : goal.put_reason-requires
put_reason-requires c =
    let line_small : c.args.line < 2 ^ 64 = search rules in
    let small : c.args.refusal < 2 ^ 64 = search rules in
    omega (arith, reason_few c.args.line c.args.refusal line_small small)
