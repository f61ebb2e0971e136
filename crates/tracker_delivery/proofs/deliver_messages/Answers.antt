-- `tracker_delivery::deliver_messages` meets its contract: the messages go out, then the delivery
-- to its end.
use Rattle.tracker_delivery.proofs.TakenLaws.{two_ask, begun_holds, delivering_begun}
use Rattle.tracker_delivery.proofs.deliver_messages.Goals as goal

pub send_two-begun-requires : goal.send_two-begun-requires
send_two-begun-requires c =
    rw c.empty_queue.ensures (two_ask c.requires.taken)

pub deliver-requires : goal.deliver-requires
deliver-requires c =
    let u = c.requires in
    delivering_begun u
    (begun_holds u.taken (rw c.empty_queue.ensures at c.send_two-begun.ensures))

pub returns : goal.returns
returns c =
    record {
      delivers = λ u.
          c.deliver.ensures.ends
          (delivering_begun u
          (begun_holds u.taken
          (rw c.empty_queue.ensures at c.send_two-begun.ensures)));
    }
