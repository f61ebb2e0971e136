-- `tracker_delivery::deliver` meets its contract. The invariant: the state was reached by steps of
-- the delivery that the first state holds, whichever that is.
use lib.ListN.{length}
use Rattle.tracker_delivery.specs.UnderwayParts.{underway_of}
use Rattle.tracker_delivery.specs.Holding.{carrying, Delivering}
use Rattle.tracker_delivery.proofs.DeliverLaws.{left_to_do, After}
use Rattle.tracker_delivery.proofs.deliver.Given as goal

abbrev pub invariant-loop-settings : goal.invariant-loop-settings
invariant-loop-settings l =
    (u : Delivering l.settings
    (carrying (underway_of l.initial.records l.initial.counts l.initial.coordinator
    l.initial.traffic) l.site_memory l.initial.coordinator_memory
    l.initial.log))
    → After u
    (carrying (underway_of l.records l.counts l.coordinator l.traffic) l.site_memory
    l.coordinator_memory l.log)

abbrev pub decreases-loop-settings : goal.decreases-loop-settings
decreases-loop-settings l = left_to_do (underway_of l.records l.counts l.coordinator l.traffic)
    (length l.log)
