-- The sum so far is that of the bytes passed.
use mathlib.Core.Path.{◌≡◌}
use Prim.Native.Nat.{◌<◌}
use native.Mathlib.Omega.{arith}
use lib.ListN.{length, get_or, take}
use Rattle.checksum.specs.Sums.{sum_of}
use Rattle.checksum.proofs.SumLaws.{sum_take_more, add_byte_sum}
use Rattle.checksum_singly.proofs.byte_sum_singly.Goals as goal

pub loop-byte-preserved : goal.loop-byte-preserved
loop-byte-preserved c =
    let now = c.loop-byte in
    let i = now.byte-index in
    let bytes = c.args.bytes.now in
    let inside : i < length bytes = omega arith in
    let byte : c.from.result ≡ get_or bytes i 0 = c.from.ensures in
    rw (sum_take_more i bytes inside, ← byte)
    (add_byte_sum now.sum (sum_of (take i bytes)) c.from.result now.invariant)
