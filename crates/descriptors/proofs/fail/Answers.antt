-- The pieces are written one after the other.
use Rattle.std.proofs.Common.{take}
use Rattle.std.proofs.KnownBytes.{Appends-trans}
use Rattle.descriptors.proofs.fail.Goals as goal

pub returns : goal.returns
returns g c =
    let name = c.write_all.ensures.taken in
    let mark = c.write_all-2.ensures.taken in
    let why = c.write_all-3.ensures.taken in
    let end = c.write_all-4.ensures.taken in
    record {
      words = take c.if-is_some.words c.get_ref-text.result.now;
      named = name.count;
      marked = mark.count;
      explained = why.count;
      ended = end.count;
      added =
          Appends-trans _ _ _ _ _
          (Appends-trans _ _ _ _ _ (Appends-trans _ _ _ _ _ name.front mark.front) why.front)
          end.front;
    }
