-- `tracker_arrivals::deliver_counted` meets its contract: the parts of the answer, put together.
use mathlib.Core.Path.{refl}
use Rattle.tracker_arrivals.proofs.ArrivalLaws.{messages_ask}
use Rattle.tracker_steps.proofs.BatchLaws.{holds_delivered}
use Rattle.tracker_arrivals.proofs.deliver_counted.Goals as goal

pub deliver_turn-after-requires : goal.deliver_turn-after-requires
deliver_turn-after-requires c =
    messages_ask c.requires

pub returns : goal.returns
returns c =
    record {
      next = λ u.
          holds_delivered u.batch u.arrival _ _
          (c.deliver_turn-after.ensures.says.delivers (messages_ask u)) u.is_draw_lem refl
          u.accepted_more refl;
    }
