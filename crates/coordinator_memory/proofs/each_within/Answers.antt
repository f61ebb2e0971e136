-- What `all` answers is `all_within`, which recurses as it does.
use mathlib.Core.Path.{refl, ◌∙◌}
use mathlib.Core.Bool.{◌&&◌}
use lib.Dec.{leb}
use Rattle.std.proofs.Common.{rules, tests}
use Rattle.std.specs.List.{list_all}
use Rattle.std.proofs.lemmas.Iterator.{YieldsList-from_slice}
use Rattle.std.proofs.lemmas.Iterator.Search.{all_from_yields_List}
use Rattle.std.proofs.lemmas.List.Recursion.{same_from_clauses}
use Rattle.model.specs.CoordinatorMemory.{all_within}
use Rattle.coordinator_memory.proofs.each_within.Goals as goal

pub returns : goal.returns
returns c =
    let numbers = c.args.numbers.now in
    let limit = c.args.limit in
    all_from_yields_List (λ x. leb x limit) _ _ _ c.all.ensures.ran
    (YieldsList-from_slice numbers cc) (λ x b q k. search (rules, tests))
    ∙ same_from_clauses (list_all (λ x. leb x limit)) (all_within limit)
    (λ x rest. leb x limit && rest) refl (λ x xs. refl) (λ x xs. refl) numbers
