-- Each return of the settings test is the row of `settings_refusal` whose test was the first to
-- hold.
use mathlib.Core.Path.{refl, ap}
use mathlib.Core.Bool.{not}
use Prim.Native.Nat.{ℕ, ◌≤◌}
use native.Mathlib.Omega.{arith}
use native.Mathlib.Nat.{mul-le-mul}
use borrow.Author.Tests.{lt-ltb, le-ltb}
use borrow.Author.Rules.{rules}
use Rattle.model.specs.Settings.{settings_refusal}
use Rattle.model.proofs.Thresholds.RefusalLaws.{Still, begin, pass, refuse, end, told}
use Rattle.settings.proofs.test_settings.Goals as goal
use Rattle.settings.proofs.test_settings.Goals.{Else-not-all_within, Else-settings}

abbrev answer : Else-not-all_within → ℕ
answer c = settings_refusal c.args.settings

abbrev past_ranges : (c : Else-not-all_within) → Still (answer c)
past_ranges c = pass _ _ _ (begin _) refl
    (ap not (told c.all_within.ensures c.if-not-all_within.false))

abbrev past_phi : (c : Else-settings) → Still (answer c.before.before)
past_phi c = pass _ _ _ (past_ranges c.before.before) refl (le-ltb _ _ c.if-settings.false)

pub returns-then-not-all_within : goal.returns-then-not-all_within
returns-then-not-all_within c =
    refuse _ _ _ (begin _) refl (ap not (told c.all_within.ensures c.if-not-all_within.true))

pub returns-then-settings : goal.returns-then-settings
returns-then-settings c =
    refuse _ _ _ (past_ranges c.before.before) refl (lt-ltb _ _ c.if-settings.true)

pub overflow_mul-product : goal.overflow_mul-product
overflow_mul-product c =
    let s = c.args.settings in
    let few : s.capacity ≤ 4294967295 = search rules in
    let small : s.epsilon ≤ 4294967295 = search rules in
    omega (arith, mul-le-mul few small)

pub returns-then-product-lt-LEAST_PRODUCT : goal.returns-then-product-lt-LEAST_PRODUCT
returns-then-product-lt-LEAST_PRODUCT c =
    refuse _ _ _ (past_phi c.before.before.before) refl
    (lt-ltb _ _ c.if-product-lt-LEAST_PRODUCT.true)

pub returns : goal.returns
returns c =
    end (pass _ _ _ (past_phi c.before.before.before) refl
    (le-ltb _ _ c.if-product-lt-LEAST_PRODUCT.false))
    refl
