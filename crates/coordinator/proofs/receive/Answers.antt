-- Accepted tests give what the step asks; its answer is handed on, and its memory is the call's.
use Rattle.std.proofs.lemmas.Result.{err_from_is_err_and}
use mathlib.Core.Path.{refl, sym, ◌∙◌}
use Rattle.coordinator.proofs.CallLaws.{step_asks, hands_refused, hands_accepted}
use Rattle.model.proofs.Thresholds.RefusalLaws.{accepts, refuses, accepted_by, some_number}
use Rattle.coordinator.specs.Calls.{receive_refusal}
use Rattle.coordinator.proofs.receive.Goals as goal

pub returns-in_err-test_receive : goal.returns-in_err-test_receive
returns-in_err-test_receive c =
    let start = c.args in
    let refusal = receive_refusal start.settings start.coordinator start.message
    start.memory.now in
    let refused = c.in_err-test_receive.ensures in
    let told = err_from_is_err_and c.from_residual.result c.from_residual.ensures.1 in
    rw (told.1, told.2)
    (record {
      refusal = refused;
      answer = hands_refused refusal _ _ _ (λ none. some_number _ (refused ∙ none))
          refl refl refl;
      memory = refuses refusal _ _ (λ none. some_number _ (refused ∙ none));
    })

pub receive_step-requires : goal.receive_step-requires
receive_step-requires c =
    let start = c.args in
    step_asks start.settings start.coordinator start.message start.memory.now
    (accepted_by c.test_receive.ensures c.in_ok-test_receive.was)

pub returns : goal.returns
returns c =
    let start = c.args in
    let refusal = receive_refusal start.settings start.coordinator start.message
    start.memory.now in
    let none = accepted_by c.test_receive.ensures c.in_ok-test_receive.was in
    record {
      refusal = sym none;
      answer = hands_accepted refusal _ _ _ c.receive_step.result none
          c.receive_step.ensures.answer refl refl refl;
      memory = c.receive_step.ensures.memory ∙ accepts refusal _ _ none;
    }
