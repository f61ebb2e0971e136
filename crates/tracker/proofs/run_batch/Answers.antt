-- Each turn reads one arrival and its site's record; the sites' memory is lent to `take_turn`, the
-- record is stored and the turn counted, and its messages, if it has any, are delivered. What is
-- carried round the loop is `Standing` of Turning.
use mathlib.Core.Path.{refl, sym, ap, ◌∙◌}
use native.Mathlib.Omega.{arith}
use Rattle.model.proofs.Thresholds.RefusalLaws.{some_number}
use Rattle.tracker_delivery.specs.Stops.{stop_number}
use Rattle.tracker_delivery.proofs.StopLaws.{stopped, goes_on}
use Rattle.tracker_steps.specs.declared.BatchAnswer.{BatchAnswer}
use Rattle.tracker_steps.specs.Steps.{batch_outcome}
use Rattle.tracker_arrivals.proofs.ArrivalLaws.{stopped_is}
use Rattle.tracker.proofs.Turning.{standing_at, going_outcome, standing_open, turn_taken, accepted_fits, messages_due, standing_quiet, standing_sent, standing_done, standing_stopped}
use Rattle.tracker.proofs.run_batch.Goals as goal
use Rattle.tracker.proofs.run_batch.Goals.{then-turn-ne0, else-turn-ne0, else-loop-arrival-test, then-loop-arrival-test+in-Err}

pub returns-then-is_some : goal.returns-then-is_some
returns-then-is_some c =
    standing_stopped (standing_open _ _ _ _ c.open_batch-answer.ensures)
    (stopped _ c.is_some.ensures c.if-is_some.true)

pub loop-arrival-init : goal.loop-arrival-init
loop-arrival-init c = record {
  goes_on = goes_on _ c.is_some.ensures c.if-is_some.false;
  standing = standing_open _ _ _ _ c.open_batch-answer.ensures;
}

pub take_turn-tried-requires : goal.take_turn-tried-requires
take_turn-tried-requires c =
    turn_taken c.loop-arrival.invariant.standing (omega arith) c.loop-arrival-test.true
    (ap stop_number c.loop-arrival.invariant.goes_on) c.place_of-which.ensures

pub overflow_add-answer : goal.overflow_add-answer
overflow_add-answer c =
    record {
      fits =
          accepted_fits c.loop-arrival.invariant.standing (omega arith) c.loop-arrival-test.true
          (ap stop_number c.loop-arrival.invariant.goes_on) c.place_of-which.ensures
          c.in-Ok.ensures;
    }

pub deliver_turn-after-requires : goal.deliver_turn-after-requires
deliver_turn-after-requires c =
    messages_due c.loop-arrival.invariant.standing (omega arith) c.loop-arrival-test.true
    (ap stop_number c.loop-arrival.invariant.goes_on) c.place_of-which.ensures c.in-Ok.ensures
    c.if-turn-ne0.true

pub loop-arrival-preserved : goal.loop-arrival-preserved
loop-arrival-preserved c =
    let on = ap stop_number c.loop-arrival.invariant.goes_on in
    elim c.if-turn-ne0.branch [
      | then-turn-ne0 w ↦
          let sent = w.deliver_turn-after in
          record {
            goes_on = ap (λ (a : BatchAnswer). a.refusal) w.answer-is
                ∙ c.loop-arrival.invariant.goes_on;
            standing =
                standing_at
                (ap batch_outcome w.answer-is
                ∙ going_outcome _ c.loop-arrival.invariant.goes_on) w.counts-is w.site_memory-is
                w.coordinator_memory-is w.log-is
                (standing_sent c.loop-arrival.invariant.standing (omega arith)
                c.loop-arrival-test.true on c.place_of-which.ensures c.in-Ok.ensures
                w.if-turn-ne0.true sent.result _ _ _ _ sent.ensures);
          }
      | else-turn-ne0 w ↦
          record {
            goes_on = ap (λ (a : BatchAnswer). a.refusal) w.answer-is
                ∙ c.loop-arrival.invariant.goes_on;
            standing =
                standing_at
                (ap batch_outcome w.answer-is
                ∙ going_outcome _ c.loop-arrival.invariant.goes_on) w.counts-is w.site_memory-is
                w.coordinator_memory-is w.log-is
                (standing_quiet c.loop-arrival.invariant.standing (omega arith)
                c.loop-arrival-test.true on c.place_of-which.ensures c.in-Ok.ensures
                w.if-turn-ne0.false);
          }
    ]

pub returns : goal.returns
returns c =
    elim c.loop-arrival-test.branch [
      | else-loop-arrival-test w ↦
          standing_done
          (standing_at (ap batch_outcome w.answer-is) refl w.site_memory-is refl refl
          c.loop-arrival.invariant.standing)
          w.loop-arrival-test.false
      | then-loop-arrival-test+in-Err w ↦
          standing_stopped
          (standing_at
          (ap batch_outcome w.answer-is
          ∙ stopped_is (batch_outcome c.loop-arrival.answer) _ _ _ refl)
          refl w.site_memory-is refl refl
          (standing_quiet c.loop-arrival.invariant.standing (omega arith)
          w.loop-arrival-test.true (ap stop_number c.loop-arrival.invariant.goes_on)
          w.place_of-which.ensures w.in-Err.ensures refl))
          (λ none.
          some_number w.in-Err.refusal
          (sym (ap (λ (a : BatchAnswer). stop_number a.refusal) w.answer-is) ∙ none))
    ]
