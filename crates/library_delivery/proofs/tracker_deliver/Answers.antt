-- `deliver_arrival` on what the rows stand for, and the rows of what it answers.
use Rattle.std.proofs.Common.{rules}
use Rattle.std.specs.Prelude.{Ok, Err}
use mathlib.Core.Path.{refl}
use Rattle.record_numbers.specs.Numbers.{sites_from, coordinator_read}
use Rattle.single_outcome.specs.Delivery.{delivery_outcome}
use Rattle.library_rows.proofs.Refused.{kept}
use Rattle.library_delivery.proofs.tracker_deliver.Goals as goal

pub returns-in-Err : goal.returns-in-Err
returns-in-Err c =
    let refusal = c.in-Err.refusal in
    record {
      done =
          delivery_outcome (sites_from c.args.decks.now) (coordinator_read c.args.desk.now)
          (Err refusal);
      says =
          rw (
            c.settings_from.ensures,
            c.sites_from.ensures,
            c.coordinator_from.ensures,
            c.arrival_from.ensures,
            c.in-Err.is,
          )
          at c.deliver_arrival.ensures;
      refusal = c.number.ensures;
      rows = record {
        decks_are = kept refusal _ _;
        desk_is = kept refusal _ _;
        delivery_is = kept refusal _ _;
      };
    }

pub returns-in-Some : goal.returns-in-Some
returns-in-Some c =
    record {
      done =
          delivery_outcome (sites_from c.args.decks.now) (coordinator_read c.args.desk.now)
          (Ok c.in-Ok.done);
      says =
          rw (
            c.settings_from.ensures,
            c.sites_from.ensures,
            c.coordinator_from.ensures,
            c.arrival_from.ensures,
            c.in-Ok.is,
          )
          at c.deliver_arrival.ensures;
      refusal = refl;
      rows = record {
        decks_are = c.sites_row.ensures;
        desk_is = c.coordinator_row.ensures;
        delivery_is = rw (c.in-Some.is, c.number-in-Some.ensures) refl;
      };
    }

pub returns-in_default : goal.returns-in_default
returns-in_default c =
    record {
      done =
          delivery_outcome (sites_from c.args.decks.now) (coordinator_read c.args.desk.now)
          (Ok c.in-Ok.done);
      says =
          rw (
            c.settings_from.ensures,
            c.sites_from.ensures,
            c.coordinator_from.ensures,
            c.arrival_from.ensures,
            c.in-Ok.is,
          )
          at c.deliver_arrival.ensures;
      refusal = refl;
      rows = record {
        decks_are = c.sites_row.ensures;
        desk_is = c.coordinator_row.ensures;
        delivery_is = search rules;
      };
    }
