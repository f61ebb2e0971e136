-- The bytes passed are held, and zeros behind them.
use mathlib.Core.Path.{◌≡◌}
use lib.ListN.{take, drop, replicate}
use Rattle.laws.specs.Writing.{written_at}
use Rattle.little_endian.proofs.read_fixed.Given as goal

abbrev pub invariant-loop-i : goal.invariant-loop-i
invariant-loop-i g l =
    l.held ≡ written_at 0 (take l.i (drop l.place l.bytes)) (replicate 8 0)
