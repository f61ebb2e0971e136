-- `snapshot_saving::test_save` meets its contract: row by row. One row says that a memory is too
-- short, or the bytes too few.
use mathlib.Core.Path.{◌≡◌, refl, sym, ap, ◌∙◌}
use mathlib.Core.Bool.{Bool, true, false, ◌||◌, not}
use Prim.Native.Nat.{ℕ, ◌≤◌, ◌<◌}
use native.Mathlib.Omega.{arith}
use lib.Dec.{ltb}
use borrow.Author.Tests.{lt-ltb, le-ltb}
use Rattle.model.specs.NetworkMemory.{network_too_short}
use Rattle.model.specs.Held.{held_by}
use Rattle.model.proofs.Thresholds.RefusalLaws.{Still, begin, pass, pass_part, refuse, end, told, accepted_by}
use Rattle.bench_memory.proofs.BenchLaws.{fits_of_long}
use Rattle.snapshot_file.specs.Layout.{file_length}
use Rattle.snapshot_file.specs.File.{save_refusal}
use Rattle.snapshot_saving.proofs.test_save.Goals as goal
use Rattle.snapshot_saving.proofs.test_save.Goals.{After-file_length, After-memory_short, In_ok-test_settings, Else-room-file_length, Start}

abbrev answer : In_ok-test_settings → ℕ
answer c =
    let a = c.args in
    save_refusal a.settings
    (held_by a.sites a.coordinator a.site_memory.now a.coordinator_memory.now)
    a.room

abbrev past_settings : (c : In_ok-test_settings) → Still (answer c)
past_settings c =
    pass_part _ _ (begin _) refl (accepted_by c.test_settings.ensures
    c.in_ok-test_settings.was)

-- The test of the memory's length, as the model has it.
too_short : (sized : After-memory_short)
    → let a = sized.args in
    network_too_short a.settings a.site_memory.now a.coordinator_memory.now
    ≡ sized.memory_short.result
too_short sized =
    let a = sized.args in
    sym (sized.memory_short.ensures.too_short a.site_memory.now a.coordinator_memory.now
    refl refl)

-- The same with that of the bytes, by what is known of both.
abbrev short : Start → Bool
short start =
    let a = start.args in
    network_too_short a.settings a.site_memory.now a.coordinator_memory.now
    || ltb a.room (file_length a.settings)

by_memory : (sized : After-memory_short)
    → sized.memory_short.result ≡ true
    → (let a = sized.args in
    network_too_short a.settings a.site_memory.now a.coordinator_memory.now
    || ltb a.room (file_length a.settings)) ≡ true
by_memory sized is =
    let a = sized.args in
    ap (λ (t : Bool). t || ltb a.room (file_length a.settings)) (too_short sized ∙ is)

by_bytes : (sized : After-file_length) (known : Bool)
    →
    ltb sized.args.room sized.file_length.result ≡ known
    → (let a = sized.args in
    network_too_short a.settings a.site_memory.now a.coordinator_memory.now
    || ltb a.room (file_length a.settings)) ≡ known
by_bytes sized known is =
    let a = sized.args in
    (λ i. ((let a = sized.args in
    sym (sized.memory_short.ensures.too_short a.site_memory.now a.coordinator_memory.now
    refl refl)) ∙ sized.if-memory_short.false) i
    || ltb a.room (sym sized.file_length.ensures i))
    ∙ is

bytes_few : (sized : After-file_length)
    →
    sized.args.room < sized.file_length.result
    → (let a = sized.args in
    network_too_short a.settings a.site_memory.now a.coordinator_memory.now
    || ltb a.room (file_length a.settings)) ≡ true
bytes_few sized few = by_bytes sized true (lt-ltb _ _ few)

bytes_enough : (sized : After-file_length)
    →
    sized.file_length.result ≤ sized.args.room
    → (let a = sized.args in
    network_too_short a.settings a.site_memory.now a.coordinator_memory.now
    || ltb a.room (file_length a.settings)) ≡ false
bytes_enough sized enough = by_bytes sized false (le-ltb _ _ enough)

abbrev past_length : (c : Else-room-file_length) → Still ((let a = c.args in
    save_refusal a.settings
    (held_by a.sites a.coordinator a.site_memory.now a.coordinator_memory.now)
    a.room))
past_length c =
    pass _ _ _ ((pass_part _ _ (begin _) refl (accepted_by c.test_settings.ensures
    c.in_ok-test_settings.was))) refl
    (((let a = c.args in
    (λ i. ((let a = c.args in
    sym (c.memory_short.ensures.too_short a.site_memory.now a.coordinator_memory.now
    refl refl)) ∙ c.if-memory_short.false) i
    || ltb a.room (sym c.file_length.ensures i))
    ∙ (le-ltb _ _ (omega (arith, c.if-room-file_length.false))))))

pub returns-then-memory_short : goal.returns-then-memory_short
returns-then-memory_short c =
    refuse _ _ _ (past_settings (goal.at.returns-then-memory_short c).In_ok-test_settings)
    refl
    (by_memory (goal.at.returns-then-memory_short c).After-memory_short c.if-memory_short.true)

pub returns-then-room-file_length : goal.returns-then-room-file_length
returns-then-room-file_length c =
    refuse _ _ _ (past_settings (goal.at.returns-then-room-file_length
    c).In_ok-test_settings) refl
    (bytes_few (goal.at.returns-then-room-file_length c).After-file_length
    c.if-room-file_length.true)

pub bench_consistent-requires : goal.bench_consistent-requires
bench_consistent-requires c =
    let a = c.args in
    fits_of_long a.settings a.site_memory.now a.coordinator_memory.now
    (accepted_by c.test_settings.ensures c.in_ok-test_settings.was)
    (too_short (goal.at.bench_consistent-requires c).After-memory_short ∙ c.if-memory_short.false)

pub returns-then-not-bench_consistent : goal.returns-then-not-bench_consistent
returns-then-not-bench_consistent c =
    refuse _ _ _ (past_length (goal.at.returns-then-not-bench_consistent c).Else-room-file_length)
    refl
    (ap not (told c.bench_consistent.ensures c.if-not-bench_consistent.true))

pub returns : goal.returns
returns c =
    end (pass _ _ _ (past_length (goal.at.returns c).Else-room-file_length) refl
    (ap not (told c.bench_consistent.ensures c.if-not-bench_consistent.false))) refl
