-- Accepted tests give a known item and two sides that fit.
use mir.Val.{SFits}
use mir.Syntax.{w64}
use mir.Facts.{to_z-of_z}
use lib.Seq.{get_or-take}
use native.Mathlib.Omega.{arith}
use Rattle.std.proofs.lemmas.Result.{err_from_is_err_and}
use mathlib.Core.Path.{sym, ap, ◌∙◌}
use Prim.Native.Nat.{ℕ, ◌*◌}
use borrow.Author.Rules.{rules}
use Rattle.coordinator_reading.proofs.ReadLaws.{margin_tested, sides_ask}
use Rattle.coordinator_reading.specs.Promises.{margin_refusal, side_needed}
use Rattle.model.proofs.Thresholds.RefusalLaws.{accepts, refuses, accepted_by, some_number}
use Rattle.model.specs.Reading.{difference}
use Rattle.coordinator_reading.proofs.read_margin.Goals as goal

pub returns-in_err-test_margin : goal.returns-in_err-test_margin
returns-in_err-test_margin c =
    let start = c.args in
    let refusal = margin_refusal start.settings start.coordinator start.item
    start.memory.now in
    let refused = c.in_err-test_margin.ensures in
    let told = err_from_is_err_and c.from_residual.result c.from_residual.ensures.1 in
    rw (told.1, told.2)
    (record {
      refusal = refused;
      margin_is = refuses refusal _ _ (λ none. some_number _ (refused ∙ none));
    })

pub offset_bounds-memory-item : goal.offset_bounds-memory-item
offset_bounds-memory-item c =
    let start = c.args in
    let facts = margin_tested start.settings start.coordinator start.item start.memory.now
    (accepted_by c.test_margin.ensures c.in_ok-test_margin.was) in
    omega (arith, facts.item_known, facts.asks.memory_long, c.well_formed)

pub bounds-memory-item : goal.bounds-memory-item
bounds-memory-item c =
    let start = c.args in
    let facts = margin_tested start.settings start.coordinator start.item start.memory.now
    (accepted_by c.test_margin.ensures c.in_ok-test_margin.was) in
    omega (arith, facts.item_known, facts.asks.memory_long)

pub margin_of-requires : goal.margin_of-requires
margin_of-requires c =
    let start = c.args in
    let facts = margin_tested start.settings start.coordinator start.item start.memory.now
    (accepted_by c.test_margin.ensures c.in_ok-test_margin.was) in
    sides_ask start.settings start.coordinator start.memory.now facts.asks
    start.item
    facts.item_known

pub returns : goal.returns
returns c =
    let start = c.args in
    let settings = c.args.settings in
    let memory = c.args.memory.now in
    let refusal = margin_refusal settings start.coordinator start.item memory in
    let none = accepted_by c.test_margin.ensures c.in_ok-test_margin.was in
    let facts = margin_tested settings start.coordinator start.item memory none in
    let fits : SFits w64 c.margin_of.result = search rules in
    record {
      refusal = sym none;
      margin_is = to_z-of_z fits
          ∙ c.margin_of.ensures
          ∙ ap (λ (number : ℕ). difference (2000 * number)
          (side_needed settings start.coordinator.total))
          (sym (get_or-take settings.universe memory start.item 0 facts.item_known))
          ∙ accepts refusal _ _ none;
    }
