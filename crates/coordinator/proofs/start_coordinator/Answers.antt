-- The fresh coordinator in memory is zeros alone.
use lib.ListN.{length, length-take}
use native.Mathlib.Omega.{arith}
use Prim.Native.Nat.{ℕ}
use Rattle.std.proofs.lemmas.Result.{err_from_is_err_and}
use mathlib.Core.Path.{sym, ◌∙◌, refl}
use Rattle.coordinator.proofs.CallLaws.{front_filled, fresh_memory, start_long}
use Rattle.model.proofs.BetweenArrivals.ReportLaws.{value_count_is}
use Rattle.model.proofs.Thresholds.RefusalLaws.{accepts, refuses, accepted_by, some_number}
use Rattle.coordinator.specs.Calls.{start_refusal}
use Rattle.model.specs.CoordinatorMemory.{coordinator_words}
use Rattle.coordinator.proofs.start_coordinator.Goals as goal

pub returns-in_err-test_start : goal.returns-in_err-test_start
returns-in_err-test_start c =
    let start = c.args in
    let refusal = start_refusal start.settings (length start.memory.now) in
    let refused = c.in_err-test_start.ensures in
    let told = err_from_is_err_and c.from_residual.result c.from_residual.ensures.1 in
    rw (told.1, told.2)
    (record {
      refusal = refused;
      coordinator = refl;
      memory = refuses refusal _ _ (λ none. some_number _ (refused ∙ none));
    })

pub slice_bounds-fill-end : goal.slice_bounds-fill-end
slice_bounds-fill-end c =
    let start = c.args in
    let none = accepted_by c.test_start.ensures c.in_ok-test_start.was in
    omega (arith, start_long start.settings (length start.memory.now) none, value_count_is)

pub slice_bounds-fill-end-2 : goal.slice_bounds-fill-end-2
slice_bounds-fill-end-2 c =
    let start = c.args in
    let none = accepted_by c.test_start.ensures c.in_ok-test_start.was in
    omega (
      arith,
      length-take {A = ℕ},
      start_long start.settings (length start.memory.now) none,
      value_count_is,
    )

pub returns : goal.returns
returns c =
    let start = c.args in
    let settings = c.args.settings in
    let refusal = start_refusal settings (length start.memory.now) in
    let none = accepted_by c.test_start.ensures c.in_ok-test_start.was in
    record {
      refusal = sym none;
      coordinator = c.fresh_record.ensures settings;
      memory =
          front_filled _ start.memory.now _ (coordinator_words settings)
          (c.fill.ensures.after (λ y same. same)) (omega (arith, value_count_is))
          (start_long settings (length start.memory.now) none)
          ∙ fresh_memory start.memory.now settings
          ∙ accepts refusal _ _ none;
    }
