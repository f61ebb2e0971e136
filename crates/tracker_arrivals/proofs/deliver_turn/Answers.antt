-- `tracker_arrivals::deliver_turn` meets its contract: its messages, sent from a network at rest.
use mathlib.Core.Path.{refl}
use Rattle.tracker_arrivals.proofs.deliver_turn.Goals as goal

pub deliver_messages-requires : goal.deliver_messages-requires
deliver_messages-requires c = c.requires

pub returns : goal.returns
returns c = record {
  says = c.deliver_messages.ensures;
  memory_kept = refl;
}
