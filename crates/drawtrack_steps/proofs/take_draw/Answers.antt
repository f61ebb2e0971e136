-- A draw that is refused, and one that is taken.
use mathlib.Core.Path.{sym, ap, ◌∙◌, subst}
use mathlib.Core.List.{[]}
use Prim.Native.Nat.{ℕ}
use Rattle.model.proofs.Thresholds.RefusalLaws.{some_number}
use Rattle.worklist_reader.specs.Walk.{step_to}
use Rattle.tracker_delivery.specs.Stops.{stop_number}
use Rattle.drawtrack_steps.specs.Outcome.{buffers, RefuseSays}
use Rattle.drawtrack_steps.proofs.TakeLaws.{draw_refused, log_holds, draw_taken}
use Rattle.drawtrack_steps.proofs.take_draw.Goals as goal

pub returns-in-Some : goal.returns-in-Some
returns-in-Some c =
    let start = c.args in
    let given = buffers start.site_memory.now start.coordinator_memory.now
    start.log.now [] start.out.now in
    let is = ap stop_number c.in-Some.is in
    draw_refused start.session (step_to start.next) given _
    c.run_one-answer.ensures (λ none. some_number c.in-Some.refusal (sym is ∙ none)) [] _ _
    (subst (λ (n : ℕ). RefuseSays start.session n start.out.now c.refuse.new.out c.refuse.result)
    (sym is) c.refuse.ensures)

pub put_messages-written-requires : goal.put_messages-written-requires
put_messages-written-requires c =
    let start = c.args in
    let given = buffers start.site_memory.now start.coordinator_memory.now
    start.log.now [] start.out.now in
    log_holds start.session (step_to start.next) given _ c.run_one-answer.ensures
    (ap stop_number c.in_default.is)

pub returns : goal.returns
returns c =
    let start = c.args in
    let given = buffers start.site_memory.now start.coordinator_memory.now
    start.log.now [] start.out.now in
    draw_taken start.session (step_to start.next) given _
    c.run_one-answer.ensures (ap stop_number c.in_default.is) [] _ _
    c.put_messages-written.ensures
