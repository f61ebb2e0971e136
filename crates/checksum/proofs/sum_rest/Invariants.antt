-- The sum so far is that of the bytes passed, 255 at most for each, and
-- each is counted.
use mathlib.Core.Path.{◌≡◌}
use Prim.Native.Nat.{◌*◌, ◌≤◌}
use lib.ListN.{take, drop}
use Rattle.checksum.specs.Sums.{sum_of}
use Rattle.checksum.proofs.sum_rest.Given as goal

abbrev pub invariant-loop-byte : goal.invariant-loop-byte
invariant-loop-byte l =
    (l.turns ≡ l.byte-index) × (l.sum ≤ 255 * l.byte-index) ×
    (l.sum ≡ sum_of (take l.byte-index (drop l.first l.bytes)))
