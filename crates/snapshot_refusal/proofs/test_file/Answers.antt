-- Row by row. The settings are narrowed when they are tested; where they pass they are as the file
-- has them.
use Rattle.std.specs.Prelude.{Err}
use borrow.Author.Rules.{rules}
use mathlib.Core.Path.{◌≡◌, refl, sym, ap, ◌∙◌}
use mathlib.Core.Bool.{not, ◌||◌}
use Prim.Native.Nat.{ℕ}
use lib.Dec.{ltb}
use lib.ListN.{replicate, length-replicate}
use Rattle.model.specs.declared.Settings.{Settings}
use Rattle.model.specs.Refusals.{refusal_told}
use Rattle.model.specs.Settings.{settings_refusal}
use Rattle.model.specs.CoordinatorMemory.{coordinator_words}
use Rattle.model.specs.NetworkMemory.{sites_words}
use Rattle.model.specs.Held.{held_consistent}
use Rattle.model.proofs.Thresholds.RefusalLaws.{Still, begin, pass, pass_part, refuse, refuse_err, end, told, accepted_by}
use Rattle.snapshot_file.specs.Reading.{settings_in, held_in, layout_wrong, load_refusal}
use Rattle.snapshot_refusal.proofs.NarrowLaws.{refusal_same, settings_same}
use Rattle.snapshot_refusal.proofs.BenchLaws.{long_of, lies_of}
use Rattle.snapshot_refusal.proofs.test_file.Goals as goal
use Rattle.snapshot_refusal.proofs.test_file.Goals.{After-bench_consistent, After-layout_wrong, After-memory_short, After-test_settings, Else-layout_wrong, Else-memory_short, In_ok-test_settings, Else-shape_wrong, Else-sum_wrong}

-- ---- 15, 16
abbrev answer : Else-shape_wrong → ℕ
answer c =
    let a = c.args in
    load_refusal a.file.now a.site_count a.coordinator_count

abbrev past_shape : (c : Else-shape_wrong) → Still (answer c)
past_shape c = pass _ _ _ (begin _) refl (told c.shape_wrong.ensures c.if-shape_wrong.false)

abbrev past_sum : (c : Else-sum_wrong) → Still ((let a = c.args in
    load_refusal a.file.now a.site_count a.coordinator_count))
past_sum c =
    pass _ _ _ ((pass _ _ _ (begin _) refl (told c.shape_wrong.ensures c.if-shape_wrong.false)))
    refl
    (told c.sum_wrong.ensures c.if-sum_wrong.false)

-- ---- 1, 2, 3
-- The number of the settings that the file has.
number_is : (c : After-test_settings)
    → let a = c.args in
    settings_refusal (settings_in a.file.now) ≡ refusal_told c.test_settings.result
number_is c =
    let a = c.args in
    sym (refusal_same (settings_in a.file.now))
    ∙ ap settings_refusal (sym c.settings_in-settings.ensures)
    ∙ sym c.test_settings.ensures

abbrev past_settings : (c : In_ok-test_settings) → Still ((let a = c.args in
    load_refusal a.file.now a.site_count a.coordinator_count))
past_settings c =
    pass_part _ _ ((pass _ _ _ ((pass _ _ _ (begin _) refl
    (told c.shape_wrong.ensures c.if-shape_wrong.false))) refl
    (told c.sum_wrong.ensures c.if-sum_wrong.false))) refl
    ((let a = c.args in
    sym (refusal_same (settings_in a.file.now))
    ∙ ap settings_refusal (sym c.settings_in-settings.ensures)
    ∙ accepted_by c.test_settings.ensures c.in_ok-test_settings.was))

-- They are those that were tested.
settings_are : (c : In_ok-test_settings)
    → let a = c.args in
    c.settings_in-settings.result ≡ settings_in a.file.now
settings_are c =
    let a = c.args in
    let found = c.settings_in-settings.ensures in
    found
    ∙ settings_same (settings_in a.file.now)
    (ap settings_refusal (sym found) ∙ accepted_by c.test_settings.ensures
    c.in_ok-test_settings.was)

-- ---- 15 again
layout_told : (c : After-layout_wrong)
    → let a = c.args in
    layout_wrong (settings_in a.file.now) a.file.now ≡ c.layout_wrong.result
layout_told c =
    let a = c.args in
    ap (λ (s : Settings). layout_wrong s a.file.now) (sym ((let a = c.args in
    let found = c.settings_in-settings.ensures in
    found
    ∙ settings_same (settings_in a.file.now)
    (ap settings_refusal (sym found) ∙ accepted_by c.test_settings.ensures
    c.in_ok-test_settings.was))))
    ∙ sym c.layout_wrong.ensures

abbrev past_layout : (c : Else-layout_wrong)
    → Still ((let a = c.args in
    load_refusal a.file.now a.site_count a.coordinator_count))
past_layout c =
    pass _ _ _ ((pass_part _ _ ((pass _ _ _ ((pass _ _ _ (begin _) refl
    (told c.shape_wrong.ensures c.if-shape_wrong.false))) refl
    (told c.sum_wrong.ensures c.if-sum_wrong.false))) refl
    ((let a = c.args in
    sym (refusal_same (settings_in a.file.now))
    ∙ ap settings_refusal (sym c.settings_in-settings.ensures)
    ∙ accepted_by c.test_settings.ensures c.in_ok-test_settings.was)))) refl
    ((let a = c.args in
    ap (λ (s : Settings). layout_wrong s a.file.now) (sym ((let a = c.args in
    let found = c.settings_in-settings.ensures in
    found
    ∙ settings_same (settings_in a.file.now)
    (ap settings_refusal (sym found) ∙ accepted_by c.test_settings.ensures
    c.in_ok-test_settings.was))))
    ∙ sym c.layout_wrong.ensures) ∙ c.if-layout_wrong.false)

-- ---- 4
short_told : (c : After-memory_short)
    → let a = c.args in
    let s = settings_in a.file.now in
    (ltb a.site_count (sites_words s) || ltb a.coordinator_count (coordinator_words s))
    ≡ c.memory_short.result
short_told c =
    let a = c.args in
    let zero : ℕ = 0 in
    let sites = replicate a.site_count zero in
    let coordinator = replicate a.coordinator_count zero in
    let long = length-replicate a.site_count zero in
    let long-2 = length-replicate a.coordinator_count zero in
    let are = (let a = c.args in
    let found = c.settings_in-settings.ensures in
    found
    ∙ settings_same (settings_in a.file.now)
    (ap settings_refusal (sym found) ∙ accepted_by c.test_settings.ensures
    c.in_ok-test_settings.was)) in
    sym (c.memory_short.ensures.too_short sites coordinator long long-2
    ∙ (λ i. ltb (long i) (sites_words (are i)) || ltb (long-2 i) (coordinator_words (are i))))

abbrev past_short : (c : Else-memory_short)
    → Still ((let a = c.args in
    load_refusal a.file.now a.site_count a.coordinator_count))
past_short c =
    pass _ _ _ ((pass _ _ _ ((pass_part _ _ ((pass _ _ _
    ((pass _ _ _ (begin _) refl (told c.shape_wrong.ensures c.if-shape_wrong.false))) refl
    (told c.sum_wrong.ensures c.if-sum_wrong.false))) refl
    ((let a = c.args in
    sym (refusal_same (settings_in a.file.now))
    ∙ ap settings_refusal (sym c.settings_in-settings.ensures)
    ∙ accepted_by c.test_settings.ensures c.in_ok-test_settings.was)))) refl
    ((let a = c.args in
    ap (λ (s : Settings). layout_wrong s a.file.now) (sym ((let a = c.args in
    let found = c.settings_in-settings.ensures in
    found
    ∙ settings_same (settings_in a.file.now)
    (ap settings_refusal (sym found) ∙ accepted_by c.test_settings.ensures
    c.in_ok-test_settings.was))))
    ∙ sym c.layout_wrong.ensures) ∙ c.if-layout_wrong.false))) refl ((let a = c.args in
    let zero : ℕ = 0 in
    let sites = replicate a.site_count zero in
    let coordinator = replicate a.coordinator_count zero in
    let long = length-replicate a.site_count zero in
    let long-2 = length-replicate a.coordinator_count zero in
    let are = (let a = c.args in
    let found = c.settings_in-settings.ensures in
    found
    ∙ settings_same (settings_in a.file.now)
    (ap settings_refusal (sym found) ∙ accepted_by c.test_settings.ensures
    c.in_ok-test_settings.was)) in
    sym (c.memory_short.ensures.too_short sites coordinator long long-2
    ∙ (λ i. ltb (long i) (sites_words (are i)) || ltb (long-2 i) (coordinator_words (are i))))) ∙
    c.if-memory_short.false)

-- ---- 11
bench_told : (c : After-bench_consistent)
    → let a = c.args in
    let s = settings_in a.file.now in
    held_consistent s (held_in s a.file.now) ≡ c.bench_consistent.result
bench_told c =
    let a = c.args in
    ap (λ (s : Settings). held_consistent s (held_in s a.file.now))
    (sym ((let a = c.args in
    let found = c.settings_in-settings.ensures in
    found
    ∙ settings_same (settings_in a.file.now)
    (ap settings_refusal (sym found) ∙ accepted_by c.test_settings.ensures
    c.in_ok-test_settings.was))))
    ∙ sym c.bench_consistent.ensures

pub returns-then-shape_wrong : goal.returns-then-shape_wrong
returns-then-shape_wrong c =
    refuse _ _ _ (begin _) refl (told c.shape_wrong.ensures c.if-shape_wrong.true)

pub sum_wrong-requires : goal.sum_wrong-requires
sum_wrong-requires c =
    let file = c.args.file.now in
    record { long = long_of file (told c.shape_wrong.ensures c.if-shape_wrong.false) }

pub returns-then-sum_wrong : goal.returns-then-sum_wrong
returns-then-sum_wrong c =
    refuse _ _ _ (past_shape (goal.at.returns-then-sum_wrong c).Else-shape_wrong) refl
    (told c.sum_wrong.ensures c.if-sum_wrong.true)

pub settings_in-settings-requires : goal.settings_in-settings-requires
settings_in-settings-requires c =
    let file = c.args.file.now in
    record { long = long_of file (told c.shape_wrong.ensures c.if-shape_wrong.false) }

pub returns-in_err-test_settings : goal.returns-in_err-test_settings
returns-in_err-test_settings c =
    let is : c.from_residual.result ≡ Err c.in_err-test_settings.field-0.0 = search rules in
    ap refusal_told is
    ∙ refuse_err _ _ (past_sum (goal.at.returns-in_err-test_settings c).Else-sum_wrong) refl
    (sym (number_is (goal.at.returns-in_err-test_settings c).After-test_settings))
    c.in_err-test_settings.was

pub layout_wrong-requires : goal.layout_wrong-requires
layout_wrong-requires c =
    let file = c.args.file.now in
    record {
      settings_accepted = accepted_by c.test_settings.ensures c.in_ok-test_settings.was;
      long = long_of file (told c.shape_wrong.ensures c.if-shape_wrong.false);
    }

pub returns-then-layout_wrong : goal.returns-then-layout_wrong
returns-then-layout_wrong c =
    refuse _ _ _ (past_settings (goal.at.returns-then-layout_wrong c).In_ok-test_settings)
    refl
    (layout_told (goal.at.returns-then-layout_wrong c).After-layout_wrong ∙ c.if-layout_wrong.true)

pub returns-then-memory_short : goal.returns-then-memory_short
returns-then-memory_short c =
    refuse _ _ _ (past_layout (goal.at.returns-then-memory_short c).Else-layout_wrong) refl
    (short_told (goal.at.returns-then-memory_short c).After-memory_short ∙ c.if-memory_short.true)

pub bench_consistent-requires : goal.bench_consistent-requires
bench_consistent-requires c =
    let a = c.args in
    lies_of c.settings_in-settings.result a.file.now
    (accepted_by c.test_settings.ensures c.in_ok-test_settings.was)
    (told c.layout_wrong.ensures c.if-layout_wrong.false)

pub returns-then-not-bench_consistent : goal.returns-then-not-bench_consistent
returns-then-not-bench_consistent c =
    refuse _ _ _ (past_short (goal.at.returns-then-not-bench_consistent c).Else-memory_short) refl
    (ap not (bench_told (goal.at.returns-then-not-bench_consistent c).After-bench_consistent
    ∙ c.if-not-bench_consistent.true))

pub returns : goal.returns
returns c =
    end (pass _ _ _ (past_short (goal.at.returns c).Else-memory_short) refl
    (ap not (bench_told (goal.at.returns c).After-bench_consistent
    ∙ c.if-not-bench_consistent.false))) refl
