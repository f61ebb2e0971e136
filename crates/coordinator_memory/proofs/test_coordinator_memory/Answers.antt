-- Each return is the row of `coordinator_memory_refusal` that decides.
use mathlib.Core.Path.{refl, ap}
use mathlib.Core.Bool.{not}
use Prim.Native.Nat.{ℕ, ◌≤◌, ◌<◌}
use native.Mathlib.Omega.{arith}
use lib.ListN.{length}
use borrow.Author.Tests.{lt-ltb, le-ltb}
use Rattle.model.specs.CoordinatorMemory.{coordinator_words, coordinator_memory_refusal}
use Rattle.model.proofs.Thresholds.RefusalLaws.{Still, begin, pass, pass_part, refuse, end, told, accepted_by}
use Rattle.model.proofs.BetweenArrivals.ReportLaws.{value_count_is}
use Rattle.coordinator_memory.proofs.test_coordinator_memory.Goals as goal
use Rattle.coordinator_memory.proofs.test_coordinator_memory.Goals.{Else-memory-settings, Then-memory-settings}

short : (c : Then-memory-settings) → length c.args.memory.now < coordinator_words c.args.settings
short c = omega (arith, c.if-memory-settings.true, value_count_is)

long : (c : Else-memory-settings) → coordinator_words c.args.settings ≤ length c.args.memory.now
long c = omega (arith, c.if-memory-settings.false, value_count_is)

abbrev answer : Else-memory-settings → ℕ
answer c =
    let a = c.args in
    coordinator_memory_refusal a.settings a.coordinator a.memory.now

abbrev past_length : (c : Else-memory-settings) → Still (answer c)
past_length c =
    pass _ _ _ (pass_part _ _ (begin _) refl
    (accepted_by c.test_settings.ensures c.in_ok-test_settings.was)) refl (le-ltb _ _ (long c))

pub returns-then-memory-settings : goal.returns-then-memory-settings
returns-then-memory-settings c =
    refuse _ _ _ (pass_part _ _ (begin _) refl
    (accepted_by c.test_settings.ensures c.in_ok-test_settings.was)) refl
    (lt-ltb _ _ (short c))

pub coordinator_consistent-requires : goal.coordinator_consistent-requires
coordinator_consistent-requires c =
    record {
      settings_accepted = accepted_by c.test_settings.ensures c.in_ok-test_settings.was;
      memory_long = long c;
    }

pub returns-then-not-coordinator_consistent : goal.returns-then-not-coordinator_consistent
returns-then-not-coordinator_consistent c =
    refuse _ _ _ (past_length (goal.at.returns-then-not-coordinator_consistent
    c).Else-memory-settings) refl
    (ap not (told c.coordinator_consistent.ensures c.if-not-coordinator_consistent.true))

pub returns : goal.returns
returns c =
    end (pass _ _ _ (past_length (goal.at.returns c).Else-memory-settings) refl
    (ap not (told c.coordinator_consistent.ensures c.if-not-coordinator_consistent.false))) refl
