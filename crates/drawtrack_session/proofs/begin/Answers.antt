-- The three answers of a beginning: a malformed settings line, a start that is refused, and one
-- that is not.
use mathlib.Core.Path.{refl, ap}
use mathlib.Core.List.{[]}
use borrow.Author.Rules.{rules}
use Rattle.model.specs.Refusals.{refusal_told}
use Rattle.model.proofs.Thresholds.RefusalLaws.{begin, refuse_part, some_number}
use Rattle.drawtrack_steps.specs.Outcome.{buffers}
use Rattle.drawtrack_session.proofs.BeginLaws.{begin_refused, begin_started}
use Rattle.drawtrack_session.proofs.begin.Goals as goal

pub returns-in-Err : goal.returns-in-Err
returns-in-Err c =
    let start = c.args in
    let some = some_number c.in-Err.refusal in
    record {
      is = begin_refused start.input.now
          (buffers start.site_memory.now start.coordinator_memory.now [] []
          start.out.now)
          _ c.in-Err.ensures
          _ c.unread_session.ensures _ (refuse_part _ _ (begin _) refl refl some) _ _
          c.refuse.ensures some;
      lengths = record {
        site_memory = refl;
        coordinator_memory = refl;
        log = refl;
        list = refl;
        out = search rules;
      };
    }

pub returns-in-Err-tested : goal.returns-in-Err-tested
returns-in-Err-tested c =
    let start = c.args in
    record {
      is = begin_refused start.input.now
          (buffers start.site_memory.now start.coordinator_memory.now [] []
          start.out.now)
          _ c.in-Ok.ensures
          _ c.fresh_session-session.ensures _ c.in-Err-tested.ensures _ _
          c.refuse-in-Err-tested.ensures (some_number c.in-Err-tested.refusal);
      lengths = record {
        site_memory = refl;
        coordinator_memory = refl;
        log = refl;
        list = refl;
        out = search rules;
      };
    }

pub returns : goal.returns
returns c =
    let start = c.args in
    record {
      is = begin_started start.input.now
          (buffers start.site_memory.now start.coordinator_memory.now [] []
          start.out.now)
          _ c.in-Ok.ensures
          _ c.fresh_session-session.ensures _ c.test_start-tested.ensures _ _
          _ _
          c.start_sites.ensures c.start_coordinator.ensures
          (ap refusal_told c.in_default.is);
      lengths = record {
        site_memory = search rules;
        coordinator_memory = search rules;
        log = refl;
        list = refl;
        out = refl;
      };
    }
