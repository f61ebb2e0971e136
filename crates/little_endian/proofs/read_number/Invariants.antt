-- The bytes from a place on are read from the last: the number that they say so far.
use mathlib.Core.Path.{◌≡◌}
use Prim.Native.Nat.{◌+◌, ◌-◌, ◌^◌, ◌<◌}
use Rattle.little_endian.specs.Numbers.{number_at}
use Rattle.little_endian.proofs.read_number.Given as goal

abbrev pub invariant-loop-i : goal.invariant-loop-i
invariant-loop-i l =
    (l.n < 256 ^ (l.width - l.i))
    × (l.n ≡ number_at (l.width - l.i) (l.place + l.i) l.bytes)
