-- The sum so far is that of the bytes passed.
use mathlib.Core.Path.{◌≡◌}
use lib.ListN.{take}
use Rattle.checksum.specs.Sums.{byte_sum}
use Rattle.checksum_singly.proofs.byte_sum_singly.Given as goal

abbrev pub invariant-loop-byte : goal.invariant-loop-byte
invariant-loop-byte l = l.sum ≡ byte_sum (take l.byte-index l.bytes)
