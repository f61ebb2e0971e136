-- Each turn of the loop takes a digit into the number, as `more_digits` does.
use Prim.Native.Nat.{◌+◌, ◌-◌, ◌≤◌}
use lib.ListN.{drop}
use Rattle.model.specs.Decimal.{more_digits}
use Rattle.worklist.specs.Reading.{Reading}
use Rattle.worklist.proofs.more_digits.Given as goal

abbrev pub invariant-loop-next : goal.invariant-loop-next
invariant-loop-next l =
    Reading l.bytes (more_digits 6 l.first (drop l.start l.bytes)) l.next l.value
    (l.start + 6 - l.next)
    × (l.next ≤ l.start + 6)
