-- `tracker_arrivals::take_arrival` meets its contract: the turn, its count and its messages, or why
-- the batch stopped.
use mathlib.Core.Path.{refl}
use Rattle.tracker_steps.specs.Steps.{BatchHeld, batch_outcome, batch_held}
use Rattle.tracker_arrivals.proofs.ArrivalLaws.{stopped_is, turn_asks, count_asks, deliver_asks, quiet_says, loud_says}
use Rattle.tracker_steps.proofs.RefusalLaws.{place_within}
use Rattle.tracker_arrivals.proofs.take_arrival.Goals as goal
use Rattle.tracker_arrivals.proofs.take_arrival.Goals.{Start}

-- What is held before the arrival.
abbrev held_now : Start → BatchHeld
held_now start =
    let a = start.args in
    batch_held (batch_outcome a.answer) a.site_memory.now a.coordinator_memory.now a.log.now

pub record_of-own-requires : goal.record_of-own-requires
record_of-own-requires c =
    rw c.place_of-which.ensures (place_within c.args.arrival)

pub take_turn-tried-requires : goal.take_turn-tried-requires
take_turn-tried-requires c =
    turn_asks c.args.arrival
    (rw c.place_of-which.ensures at c.record_of-own.ensures) c.requires

pub count_turn-next-requires : goal.count_turn-next-requires
count_turn-next-requires c =
    rw c.place_of-which.ensures
    (count_asks (held_now (goal.at.count_turn-next-requires c).Start) c.args.arrival
    (rw c.place_of-which.ensures at c.record_of-own.ensures) c.in-Ok.ensures c.requires)

pub returns-then-turn-eq0 : goal.returns-then-turn-eq0
returns-then-turn-eq0 c =
    quiet_says (held_now (goal.at.returns-then-turn-eq0 c).Start) c.args.arrival
    (rw c.place_of-which.ensures at c.record_of-own.ensures) c.in-Ok.ensures
    _ (rw c.place_of-which.ensures at c.count_turn-next.ensures) c.if-turn-eq0.true

pub deliver_counted-requires : goal.deliver_counted-requires
deliver_counted-requires c =
    deliver_asks (held_now (goal.at.deliver_counted-requires c).Start) c.args.arrival
    (rw c.place_of-which.ensures at c.record_of-own.ensures) c.in-Ok.ensures
    _ (rw c.place_of-which.ensures at c.count_turn-next.ensures) c.requires c.if-turn-eq0.false

pub returns-else-turn-eq0 : goal.returns-else-turn-eq0
returns-else-turn-eq0 c =
    loud_says (held_now (goal.at.returns-else-turn-eq0 c).Start) c.args.arrival
    (rw c.place_of-which.ensures at c.record_of-own.ensures) c.in-Ok.ensures
    _ (rw c.place_of-which.ensures at c.count_turn-next.ensures)
    c.if-turn-eq0.false c.deliver_counted.ensures

pub returns-in-Err : goal.returns-in-Err
returns-in-Err c =
    let own_is = rw c.place_of-which.ensures at c.record_of-own.ensures in
    quiet_says (held_now (goal.at.returns-in-Err c).Start) c.args.arrival own_is
    c.in-Err.ensures _ (stopped_is (batch_outcome c.args.answer) _ _ _ own_is) refl
