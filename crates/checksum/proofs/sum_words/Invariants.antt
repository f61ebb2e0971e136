-- The sum so far is that of the words passed.
use mathlib.Core.Path.{◌≡◌}
use Prim.Native.Nat.{◌-◌, ◌*◌, ◌≤◌}
use lib.ListN.{take}
use Rattle.checksum.specs.Sums.{byte_sum}
use Rattle.checksum.specs.Rounds.{word_bytes}
use Rattle.checksum.proofs.sum_words.Given as goal

abbrev pub invariant-loop-passed : goal.invariant-loop-passed
invariant-loop-passed l = (l.sum ≡ byte_sum (take (word_bytes * l.passed) l.bytes)) ×
    (l.passed ≤ l.rounds)

abbrev pub decreases-loop-passed : goal.decreases-loop-passed
decreases-loop-passed l = l.rounds - l.passed
