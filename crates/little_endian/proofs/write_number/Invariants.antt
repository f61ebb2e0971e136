-- What is still to be written over the bytes gives what is asked for.
use mathlib.Core.Path.{◌≡◌}
use Prim.Native.Nat.{◌+◌, ◌-◌}
use Rattle.laws.specs.Writing.{written_at}
use Rattle.little_endian.specs.Numbers.{little_endian}
use Rattle.little_endian.proofs.write_number.Given as goal

abbrev pub invariant-loop-i : goal.invariant-loop-i
invariant-loop-i l =
    written_at (l.place + l.i) (little_endian (l.width - l.i) l.rest) l.bytes
    ≡ written_at l.place (little_endian l.width l.n) l.initial.bytes
