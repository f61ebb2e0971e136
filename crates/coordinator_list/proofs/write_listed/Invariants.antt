-- The invariant is `Writing`: the items listed among those passed stand at the front of the list,
-- and from there on it is as it was. A listed item has a place, since all of them have.
use Rattle.coordinator_list.proofs.WriteLaws.{Writing}
use Rattle.model.specs.CoordinatorMemory.{coordinator_in}
use Rattle.coordinator_list.proofs.write_listed.Given as goal

abbrev pub invariant-loop-item : goal.invariant-loop-item
invariant-loop-item l =
    Writing l.settings
    (coordinator_in l.settings l.coordinator l.memory) l.initial.list l.list l.count l.item
