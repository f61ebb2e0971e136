-- The line of the refusal, and then the session has ended.
use mathlib.Core.Path.{subst}
use Prim.Native.Nat.{ℕ}
use Rattle.drawtrack_steps.specs.Outcome.{RefuseSays}
use Rattle.drawtrack_steps.proofs.OutputLaws.{refused_of_lem}
use Rattle.drawtrack_steps.proofs.refuse.Goals as goal

pub returns : goal.returns
returns c =
    let session = c.args.session in
    let before = c.args.out.now in
    let written = c.write_refused-written in
    subst (λ (n : ℕ). RefuseSays session n before written.new.out c.stop.result)
    c.number-number.ensures
    (record {
      is = λ given. refused_of_lem session _ _ before _ _ c.stop.ensures written.ensures.is given;
    })
