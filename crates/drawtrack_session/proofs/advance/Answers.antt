-- The three answers of a line.
use mathlib.Core.Path.{refl}
use borrow.Author.Rules.{rules}
use Rattle.model.proofs.Thresholds.RefusalLaws.{some_number}
use Rattle.worklist_reader.specs.Walk.{step_to}
use Rattle.drawtrack_steps.specs.Outcome.{buffers}
use Rattle.drawtrack_session.proofs.LineLaws.{line_draw, line_malformed, line_end}
use Rattle.drawtrack_session.proofs.advance.Goals as goal

pub returns-in-Ok-Some : goal.returns-in-Ok-Some
returns-in-Ok-Some c =
    let start = c.args in
    let given = buffers start.site_memory.now start.coordinator_memory.now start.log.now
    start.list.now start.out.now in
    record {
      line = line_draw start.session (step_to c.in-Ok-Some.next) _
          (rw c.in-Ok-Some.field-0-is at c.in-Ok-Some.ensures) given
          _ _ _ _ _ refl c.take_draw.ensures;
      lengths = record {
        site_memory = search rules;
        coordinator_memory = search rules;
        log = search rules;
        list = refl;
        out = search rules;
      };
    }

pub returns-in-Err : goal.returns-in-Err
returns-in-Err c =
    let start = c.args in
    let given = buffers start.site_memory.now start.coordinator_memory.now start.log.now
    start.list.now start.out.now in
    record {
      line = line_malformed start.session _ _ c.in-Err.ensures
          given _ _ refl (some_number c.in-Err.refusal)
          c.refuse.ensures;
      lengths = record {
        site_memory = refl;
        coordinator_memory = refl;
        log = refl;
        list = refl;
        out = search rules;
      };
    }

pub returns-in-Ok-None : goal.returns-in-Ok-None
returns-in-Ok-None c =
    let start = c.args in
    let given = buffers start.site_memory.now start.coordinator_memory.now start.log.now
    start.list.now start.out.now in
    record {
      line = line_end start.session _ _
          (rw c.in-Ok-None.field-0-is at c.in-Ok-None.ensures) given
          _ _ _ refl refl
          c.finish.ensures;
      lengths = record {
        site_memory = refl;
        coordinator_memory = refl;
        log = refl;
        list = search rules;
        out = search rules;
      };
    }
