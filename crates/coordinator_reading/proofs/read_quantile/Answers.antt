-- Accepted tests give what the search asks.
use Rattle.std.proofs.lemmas.Result.{err_from_is_err_and}
use mathlib.Core.Path.{sym, ◌∙◌}
use Rattle.coordinator_reading.proofs.ReadLaws.{read_asks}
use Rattle.model.proofs.Thresholds.RefusalLaws.{accepts, refuses, accepted_by, some_number}
use Rattle.model.specs.CoordinatorMemory.{coordinator_memory_refusal}
use Rattle.coordinator_reading.proofs.read_quantile.Goals as goal

pub returns-in_err-test_coordinator_memory : goal.returns-in_err-test_coordinator_memory
returns-in_err-test_coordinator_memory c =
    let start = c.args in
    let refusal = coordinator_memory_refusal start.settings start.coordinator
    start.memory.now in
    let refused = c.in_err-test_coordinator_memory.ensures in
    let told = err_from_is_err_and c.from_residual.result c.from_residual.ensures.1 in
    rw (told.1, told.2)
    (record {
      refusal = refused;
      quantile = refuses refusal _ _ (λ none. some_number _ (refused ∙ none));
    })

pub quantile_value-requires : goal.quantile_value-requires
quantile_value-requires c =
    let start = c.args in
    read_asks start.settings start.coordinator start.memory.now
    (accepted_by c.test_coordinator_memory.ensures c.in_ok-test_coordinator_memory.was)

pub returns : goal.returns
returns c =
    let start = c.args in
    let refusal = coordinator_memory_refusal start.settings start.coordinator
    start.memory.now in
    let none = accepted_by c.test_coordinator_memory.ensures c.in_ok-test_coordinator_memory.was in
    record {
      refusal = sym none;
      quantile = c.quantile_value.ensures ∙ accepts refusal _ _ none;
    }
