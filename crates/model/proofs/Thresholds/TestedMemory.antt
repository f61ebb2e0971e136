-- What the first tests of a call are worth where they refuse nothing: 1, 2, 3; then 4, 11.
--
--   LengthTested, length_tested      1, 2, 3; 4, by the numbers wanted and those lent
--   MemoryTested, memory_tested      and 11, by the test of consistency
--   consistent_of                    the last row, 11, by itself
--   site_tested, coordinator_tested  these of a call on a site, and on the coordinator
use mathlib.Core.Path.{◌≡◌}
use mathlib.Core.Bool.{Bool, true, not}
use mathlib.Core.List.{List}
use Prim.Native.Nat.{ℕ, ◌≤◌}
use native.Mathlib.Omega.{arith}
use lib.Dec.{ltb}
use lib.ListN.{length}
use borrow.Author.Tests.{ltb-false, not-false}
use Rattle.model.specs.declared.Settings.{Settings}
use Rattle.model.specs.declared.SiteRecord.{SiteRecord}
use Rattle.model.specs.declared.CoordinatorRecord.{CoordinatorRecord}
use Rattle.model.specs.Refusals.{when, ◌or_else◌, no_refusal, memory_too_short, memory_inconsistent}
use Rattle.model.specs.Settings.{settings_refusal}
use Rattle.model.specs.SiteMemory.{site_words, site_consistent, site_memory_refusal}
use Rattle.model.specs.CoordinatorMemory.{coordinator_words, coordinator_in, coordinator_consistent, coordinator_memory_refusal}
use Rattle.model.proofs.Thresholds.RefusalLaws.{both_accepted, passed}

-- A chain that begins with the settings and the memory's length, and has later rows.
pub record LengthTested (settings : Settings) (words lent later : ℕ) : Type 0 where
  pub settings_accepted : settings_refusal settings ≡ no_refusal
  pub memory_long : words ≤ lent
  pub later_accepted : later ≡ no_refusal

pub length_tested : (settings : Settings) (words lent later : ℕ)
    → (settings_refusal settings or_else when (ltb lent words) memory_too_short or_else later)
    ≡ no_refusal
    → LengthTested settings words lent later
length_tested settings words lent later none =
    let rows = both_accepted (settings_refusal settings) _ none in
    let length-row = passed (ltb lent words) memory_too_short later (omega arith)
    rows.later_accepted in
    record {
      settings_accepted = rows.first_accepted;
      memory_long = ltb-false lent words length-row.test_failed;
      later_accepted = length-row.later_accepted;
    }

pub consistent_of : (test : Bool)
    → (when (not test) memory_inconsistent or_else no_refusal) ≡ no_refusal
    → test ≡ true
consistent_of test none =
    not-false test (passed (not test) memory_inconsistent no_refusal (omega arith) none).test_failed

pub record MemoryTested (settings : Settings) (words lent : ℕ) (test : Bool) : Type 0 where
  pub settings_accepted : settings_refusal settings ≡ no_refusal
  pub memory_long : words ≤ lent
  pub consistent : test ≡ true

pub memory_tested : (settings : Settings) (words lent : ℕ) (test : Bool)
    → (settings_refusal settings
    or_else when (ltb lent words) memory_too_short
    or_else when (not test) memory_inconsistent
    or_else no_refusal)
    ≡ no_refusal
    → MemoryTested settings words lent test
memory_tested settings words lent test none =
    let rows = length_tested settings words lent _ none in
    record {
      settings_accepted = rows.settings_accepted;
      memory_long = rows.memory_long;
      consistent = consistent_of test rows.later_accepted;
    }

pub site_tested : (settings : Settings) (numbers : SiteRecord) (memory : List ℕ)
    → site_memory_refusal settings numbers memory ≡ no_refusal
    → MemoryTested settings (site_words settings) (length memory)
    (site_consistent settings numbers memory)
site_tested settings numbers memory = memory_tested settings _ _ _

pub coordinator_tested : (settings : Settings) (numbers : CoordinatorRecord) (memory : List ℕ)
    → coordinator_memory_refusal settings numbers memory ≡ no_refusal
    → MemoryTested settings (coordinator_words settings) (length memory)
    (coordinator_consistent settings (coordinator_in settings numbers memory))
coordinator_tested settings numbers memory = memory_tested settings _ _ _
