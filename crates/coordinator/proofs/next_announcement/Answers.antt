-- Accepted tests give what the step asks; its answer is handed on.
use Rattle.std.proofs.lemmas.Result.{err_from_is_err_and}
use mathlib.Core.Path.{refl, sym, ◌∙◌}
use Rattle.coordinator.proofs.CallLaws.{announce_asks, hands_refused, hands_accepted}
use Rattle.model.proofs.Thresholds.RefusalLaws.{accepted_by, some_number}
use Rattle.coordinator.specs.Calls.{announce_refusal}
use Rattle.coordinator.proofs.next_announcement.Goals as goal

pub returns-in_err-test_announce : goal.returns-in_err-test_announce
returns-in_err-test_announce c =
    let start = c.args in
    let refusal = announce_refusal start.settings start.coordinator start.memory.now in
    let refused = c.in_err-test_announce.ensures in
    let told = err_from_is_err_and c.from_residual.result c.from_residual.ensures.1 in
    rw (told.1, told.2)
    (record {
      refusal = refused;
      answer = hands_refused refusal _ _ _ (λ none. some_number _ (refused ∙ none))
          refl refl refl;
    })

pub announce_step-requires : goal.announce_step-requires
announce_step-requires c =
    let start = c.args in
    announce_asks start.settings start.coordinator start.memory.now
    (accepted_by c.test_announce.ensures c.in_ok-test_announce.was)

pub returns : goal.returns
returns c =
    let start = c.args in
    let refusal = announce_refusal start.settings start.coordinator start.memory.now in
    let none = accepted_by c.test_announce.ensures c.in_ok-test_announce.was in
    record {
      refusal = sym none;
      answer = hands_accepted refusal _ _ _ c.announce_step.result none
          (c.announce_step.ensures start.memory.now) refl refl refl;
    }
