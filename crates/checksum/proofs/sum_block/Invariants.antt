-- The lanes so far have the sum of the bytes passed, 255 at most in each for each word; each
-- round is counted.
use mathlib.Core.Path.{◌≡◌}
use Prim.Native.Nat.{◌*◌}
use lib.ListN.{take, drop}
use Rattle.checksum.specs.Sums.{sum_of}
use Rattle.checksum.specs.Rounds.{word_bytes, most_added}
use Rattle.checksum.proofs.LaneLaws.{Lanes}
use Rattle.checksum.proofs.sum_block.Given as goal

abbrev pub invariant-loop-round : goal.invariant-loop-round
invariant-loop-round l =
    Lanes 4 l.lower l.upper (most_added * l.round)
    (sum_of (take (word_bytes * l.round) (drop l.first l.bytes)))
    × (l.taken ≡ l.round)
