-- Accepted, the coordinator's call hands out one message.
use Rattle.std.specs.Prelude.{Ok}
use mathlib.Core.Path.{refl}
use Rattle.record_numbers.specs.Numbers.{coordinator_read}
use Rattle.coordinator.specs.Calls.{reception}
use Rattle.library_desk.proofs.Announcing.{one_of}
use Rattle.library_desk.proofs.tracker_desk_announcement.Goals as goal

pub returns-in-Ok : goal.returns-in-Ok
returns-in-Ok c =
    let says =
    rw (c.settings_from.ensures, c.coordinator_from.ensures, c.in-Ok.is)
    at c.next_announcement.ensures in
    record {
      received = reception (coordinator_read c.args.desk.now) (Ok c.in-Ok.announced);
      says = says;
      refusal = refl;
      one = one_of _ _ _ _ says;
      desk_is = c.coordinator_row.ensures;
      out_is = c.message_row.ensures;
    }
