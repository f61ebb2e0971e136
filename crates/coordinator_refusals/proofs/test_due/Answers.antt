-- Each return is the row of `coordinator_due_refusal` whose test was the first to hold.
use mathlib.Core.Path.{refl}
use mathlib.Core.List.{List}
use Prim.Native.Nat.{ℕ}
use Rattle.model.specs.declared.Settings.{Settings}
use Rattle.model.specs.Coordinator.{coordinator_due_refusal}
use Rattle.model.specs.CoordinatorMemory.{coordinator_in}
use Rattle.model.proofs.Thresholds.RefusalLaws.{Still, begin, pass, refuse, end, told}
use Rattle.coordinator_refusals.proofs.test_due.Goals as goal
use Rattle.coordinator_refusals.proofs.test_due.Goals.{Else-names_large_value, Else-names_unknown_item, Else-not_due}

abbrev answer : Else-not_due → List ℕ → ℕ
answer c memory =
    let a = c.args in
    coordinator_due_refusal a.settings (coordinator_in a.settings a.coordinator memory)
    a.message

abbrev given : Else-not_due → Settings
given c = c.args.settings

abbrev past_due : (c : Else-not_due) (memory : List ℕ) → Still (answer c memory)
past_due c memory =
    pass _ _ _ (begin _) refl (told c.not_due.ensures c.if-not_due.false)

abbrev past_item : (c : Else-names_unknown_item) (memory : List ℕ) → Still
    (answer c.before.before memory)
past_item c memory =
    pass _ _ _ (past_due c.before.before memory) refl
    (told c.names_unknown_item.ensures c.if-names_unknown_item.false)

abbrev past_value : (c : Else-names_large_value) (memory : List ℕ)
    → Still (answer c.before.before.before.before memory)
past_value c memory =
    pass _ _ _ (past_item c.before.before memory) refl
    (told (c.names_large_value.ensures (given c.before.before.before.before) memory)
    c.if-names_large_value.false)

pub returns-then-names_large_value : goal.returns-then-names_large_value
returns-then-names_large_value c memory =
    refuse _ _ _ (past_item (goal.at.returns-then-names_large_value c).Else-names_unknown_item
    memory) refl
    (told (c.names_large_value.ensures (given (goal.at.returns-then-names_large_value
    c).Else-not_due) memory)
    c.if-names_large_value.true)

pub returns-then-wrong_amount : goal.returns-then-wrong_amount
returns-then-wrong_amount c memory =
    let settings = given (goal.at.returns-then-wrong_amount c).Else-not_due in
    refuse _ _ _ (past_value (goal.at.returns-then-wrong_amount c).Else-names_large_value memory)
    refl
    (told (c.wrong_amount.ensures settings memory) c.if-wrong_amount.true)

pub returns : goal.returns
returns c memory =
    let settings = given (goal.at.returns c).Else-not_due in
    end (pass _ _ _ (past_value (goal.at.returns c).Else-names_large_value memory) refl
    (told (c.wrong_amount.ensures settings memory) c.if-wrong_amount.false)) refl
