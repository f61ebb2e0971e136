-- The fits test decides row 12 of `list_refusal`; after it the list has the places.
use Prim.Native.Nat.{ℕ}
use borrow.Author.Tests.{leb-true, leb-false, le-ltb, lt-ltb}
use lib.ListN.{length}
use Rattle.std.proofs.lemmas.Result.{err_from_is_err_and}
use mathlib.Core.Path.{◌≡◌, refl, sym, ◌∙◌}
use Rattle.coordinator_reading.proofs.ReadLaws.{read_asks}
use Rattle.coordinator_list.specs.Promises.{list_refusal, hitters_in}
use Rattle.model.proofs.Thresholds.RefusalLaws.{Still, begin, pass, pass_part, refuse, refuse_err, end, told, accepts, refuses, refuses_by, accepted_by, some_number}
use Rattle.model.specs.Refusals.{no_refusal, list_too_short, number_of}
use Rattle.coordinator_list.proofs.list_heavy_hitters.Goals as goal
use Rattle.coordinator_list.proofs.list_heavy_hitters.Goals.{After-list_fits}

abbrev refusal_at : After-list_fits → ℕ
refusal_at c =
    let a = c.args in
    list_refusal a.settings a.coordinator a.memory.now (length a.list.now)

abbrev past_memory : (c : After-list_fits) → Still (refusal_at c)
past_memory c =
    pass_part _ _ (begin _) refl
    (accepted_by c.test_coordinator_memory.ensures c.in_ok-test_coordinator_memory.was)

-- The places of the list, and the items listed.
abbrev places_at : After-list_fits → ℕ
places_at c = length c.args.list.now

abbrev hitters_at : After-list_fits → ℕ
hitters_at c =
    let a = c.args in
    length (hitters_in a.settings a.coordinator a.memory.now)

pub returns-in_err-test_coordinator_memory : goal.returns-in_err-test_coordinator_memory
returns-in_err-test_coordinator_memory c =
    let a = c.args in
    let refusal = list_refusal a.settings a.coordinator a.memory.now
    (length a.list.now) in
    let refused : number_of c.in_err-test_coordinator_memory.field-0.0 ≡ refusal =
    refuse_err _ _ (begin _) refl c.test_coordinator_memory.ensures
    c.in_err-test_coordinator_memory.was in
    let answer = err_from_is_err_and c.from_residual.result c.from_residual.ensures.1 in
    rw (answer.1, answer.2)
    (record {
      refusal = refused;
      count = refuses refusal _ _ (λ none. some_number _ (refused ∙ none));
      list = refuses refusal _ _ (λ none. some_number _ (refused ∙ none));
    })

pub list_fits-requires : goal.list_fits-requires
list_fits-requires c =
    let start = c.args in
    read_asks start.settings start.coordinator start.memory.now
    (accepted_by c.test_coordinator_memory.ensures c.in_ok-test_coordinator_memory.was)

pub write_listed-requires : goal.write_listed-requires
write_listed-requires c =
    let start = c.args in
    record {
      reading = read_asks start.settings start.coordinator start.memory.now
          (accepted_by c.test_coordinator_memory.ensures c.in_ok-test_coordinator_memory.was);
      places = leb-true _ _ (sym c.list_fits.ensures ∙ c.if-not-list_fits.false);
    }

pub returns-then-not-list_fits : goal.returns-then-not-list_fits
returns-then-not-list_fits c =
    let here = (goal.at.returns-then-not-list_fits c).After-list_fits in
    let twelve : list_too_short ≡ refusal_at here =
    refuse _ _ _ (past_memory here) refl
    (lt-ltb (places_at here) (hitters_at here) (leb-false _ _
    (told c.list_fits.ensures c.if-not-list_fits.true))) in
    record {
      refusal = twelve;
      count = refuses_by (refusal_at here) _ _ 11 twelve;
      list = refuses_by (refusal_at here) _ _ 11 twelve;
    }

pub returns : goal.returns
returns c =
    let here = (goal.at.returns c).After-list_fits in
    let zero : no_refusal ≡ refusal_at here =
    end (pass _ _ _ (past_memory here) refl
    (le-ltb (places_at here) (hitters_at here) (leb-true _ _
    (told c.list_fits.ensures c.if-not-list_fits.false)))) refl in
    record {
      refusal = zero;
      count = c.write_listed.ensures.count ∙ accepts (refusal_at here) _ _ (sym zero);
      list = c.write_listed.ensures.list ∙ accepts (refusal_at here) _ _ (sym zero);
    }
