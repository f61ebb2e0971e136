-- Why the tests in the code's order are document 01's refusal 11.
--
--   consistent_parts                the consistency test as record, threshold and numbers
--   record_facts                    what the record's part is worth
--   histogram_part, numbers_at_one, numbers_above_one, numbers_histogram_off, numbers_estimates_off
use mathlib.Core.Path.{◌≡◌, refl, ap, sym}
use mathlib.Core.Bool.{Bool, true, false, ◌&&◌, ◌||◌, not}
use mathlib.Core.List.{List}
use Prim.Native.Nat.{ℕ, ◌+◌, ◌-◌, ◌≤◌}
use native.Mathlib.Omega.{arith}
use lib.Dec.{eqb, leb}
use lib.ListN.{take, drop}
use borrow.Author.Tests.{leb-true, eq-eqb, ne_eqb}
use Rattle.laws.proofs.Tests.{both_true, and_false}
use Rattle.model.specs.declared.Settings.{Settings}
use Rattle.model.specs.declared.CoordinatorRecord.{CoordinatorRecord}
use Rattle.model.specs.Limits.{top_value, value_count, coordinator_limit}
use Rattle.model.specs.Settings.{threshold_of}
use Rattle.model.specs.SiteMemory.{sum}
use Rattle.model.specs.Coordinator.{Coordinator}
use Rattle.model.specs.CoordinatorMemory.{coordinator_in, coordinator_consistent, phase_consistent, all_within}
use Rattle.coordinator_memory.specs.Consistency.{record_consistent, numbers_consistent}
use Rattle.model.proofs.BetweenArrivals.ReportLaws.{value_count_is}

-- ---- The parts of the test

last_four : (s e h l : Bool) → (s && e && h && l) ≡ (l && (e && h && s))
last_four true e h true = refl
last_four true e h false = and_false (e && h)
last_four false e h true = sym (and_false (e && h))
last_four false e h false = refl

regrouped : (p t b q s e h l : Bool)
    → (p && t && b && q && s && e && h && l) ≡ (p && b && q && l && (t && (e && h && s)))
regrouped false t b q s e h l = refl
regrouped true false b q s e h l = sym (and_false (b && q && l))
regrouped true true false q s e h l = refl
regrouped true true true false s e h l = refl
regrouped true true true true s e h l = last_four s e h l

module _ (settings : Settings) (numbers : CoordinatorRecord) where
  pub consistent_parts : (memory : List ℕ)
      → coordinator_consistent settings (coordinator_in settings numbers memory)
      ≡ (record_consistent settings numbers
      && (eqb numbers.threshold (threshold_of settings numbers.base)
      && numbers_consistent (coordinator_in settings numbers memory)))
  consistent_parts memory =
      let values = take value_count (drop settings.universe memory) in
      regrouped
      (phase_consistent settings numbers.signals numbers.phase)
      (eqb numbers.threshold (threshold_of settings numbers.base))
      (leb numbers.base numbers.total)
      (leb numbers.quantile top_value)
      (not (eqb numbers.threshold 1) || eqb (sum values) numbers.total)
      (all_within coordinator_limit (take settings.universe memory))
      (all_within coordinator_limit values)
      (leb numbers.total coordinator_limit)

  pub record RecordFacts : Type 0 where
    pub phase_consistent_lem : phase_consistent settings numbers.signals numbers.phase ≡ true
    pub base_within : numbers.base ≤ numbers.total
    pub quantile_within : numbers.quantile ≤ top_value
    pub total_within : numbers.total ≤ coordinator_limit

  pub record_facts : record_consistent settings numbers ≡ true → RecordFacts
  record_facts holds =
      let three = both_true _ _ holds in
      let two = both_true _ _ three.first_true in
      let one = both_true _ _ two.first_true in
      record {
        phase_consistent_lem = one.first_true;
        base_within = leb-true _ _ one.second_true;
        quantile_within = leb-true _ _ two.second_true;
        total_within = leb-true _ _ three.second_true;
      }

-- ---- The numbers in memory

-- The histogram as the code cuts it out of the memory.
pub histogram_part : (settings : Settings) (memory : List ℕ)
    → take (settings.universe + 1024 - settings.universe) (drop settings.universe memory)
    ≡ take value_count (drop settings.universe memory)
histogram_part settings memory =
    let same : settings.universe + 1024 - settings.universe ≡ value_count =
    omega (arith, value_count_is) in
    ap (λ (n : ℕ). take n (drop settings.universe memory)) same

module _ (c : Coordinator) where
  abbrev estimates_test : Bool
  estimates_test = all_within coordinator_limit c.estimates

  abbrev histogram_test : Bool
  histogram_test = all_within coordinator_limit c.histogram

  pub numbers_at_one : estimates_test ≡ true
      → histogram_test ≡ true
      → c.threshold ≡ 1
      → numbers_consistent c ≡ eqb (sum c.histogram) c.total
  numbers_at_one estimates histogram one = rw (estimates, histogram, eq-eqb _ _ one)

  pub numbers_above_one : estimates_test ≡ true
      → histogram_test ≡ true
      → (c.threshold ≡ 1 → ⊥)
      → numbers_consistent c ≡ true
  numbers_above_one estimates histogram more = rw (estimates, histogram, ne_eqb _ _ more)

  pub numbers_histogram_off : estimates_test ≡ true
      → histogram_test ≡ false
      → numbers_consistent c ≡ false
  numbers_histogram_off estimates histogram = rw (estimates, histogram)

  pub numbers_estimates_off : estimates_test ≡ false → numbers_consistent c ≡ false
  numbers_estimates_off estimates = rw estimates
