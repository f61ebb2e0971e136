-- The invariant is `Fitting`: so many items are listed among those passed, and each has a place.
use Rattle.coordinator_list.proofs.ListLaws.{Fitting}
use Rattle.model.specs.CoordinatorMemory.{coordinator_in}
use Rattle.coordinator_list.proofs.list_fits.Given as goal

abbrev pub invariant-loop-number : goal.invariant-loop-number
invariant-loop-number l =
    Fitting l.settings
    (coordinator_in l.settings l.coordinator l.memory) l.places l.count l.number-index
