-- What one read took follows what was read before.
use Rattle.std.proofs.Common.{◌≡◌, ℕ, ◌+◌, List, ◌++◌, take, drop, sym, ap, ◌∙◌, subst, rules}
use Rattle.std.proofs.KnownBytes.{Consumes-trans}
use Rattle.std.specs.Io.KnownBytes.{Consumes}
use lib.Seq.{take-add}
use Rattle.descriptors.proofs.read_all.Goals as goal

joined : (at moved : ℕ) (before after : List ℕ) → take at after ≡ take at before
    → take at before ++ take moved (drop at after) ≡ take (at + moved) after
joined at moved before after front =
    ap (λ (l : List ℕ). l ++ take moved (drop at after)) (sym front)
    ∙ sym (take-add at moved after)

pub returns-in-Whole-clause-given : goal.returns-in-Whole-clause-given
returns-in-Whole-clause-given g c =
    let says = c.in-Whole.ensures in
    record {
      bytes = subst (Consumes _ _)
          (joined c.loop.length c.in-Whole.moved c.loop.bytes c.read_some.new.bytes
          says.counts.front)
          (Consumes-trans _ _ _ _ _ c.loop.invariant.2 says.given.bytes);
      end = says.given.end;
    }

pub loop-preserved : goal.loop-preserved
loop-preserved g c =
    let says = c.in-Part.ensures in (
      says.counts.fits,
      search rules,
      subst (Consumes _ _)
          (joined c.loop.length c.in-Part.moved c.loop.bytes c.read_some.new.bytes
          says.counts.front)
          (Consumes-trans _ _ _ _ _ c.loop.invariant.2 says.given.bytes),
    )
