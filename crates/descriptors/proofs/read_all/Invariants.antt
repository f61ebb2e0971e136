-- What was read fits the lent bytes, and is what the reader gave.
use Rattle.std.proofs.Common.{◌≡◌, ◌≤◌, length as count, take}
use Rattle.std.specs.Io.KnownBytes.{Consumes}
use Rattle.descriptors.proofs.read_all.Given as goal

abbrev pub invariant-loop : goal.invariant-loop
invariant-loop g l =
    (l.length ≤ count l.bytes)
    × (count l.bytes ≡ count l.initial.bytes)
    × Consumes (g.R.Read.remaining l.initial.from) (g.R.Read.remaining l.from)
    (take l.length l.bytes)
