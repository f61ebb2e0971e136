-- The coordinator in a front of its memory: only its own numbers are read and written, so lent
-- memory may be longer (document 01: "longer is fine, the rest untouched"), and what lies behind it
-- stays.
--
--   front_then, overwrite_front    a front put back; numbers written over a front, and the whole
--   coordinator_in_front           the coordinator read from a front
--   memory_refusal_front           neither 4 nor 11 tells a front from the whole
--   on_front                       nor anything that depends on both
--   coordinator_long               memory that a call accepts is long enough
use mathlib.Core.Path.{◌≡◌, sym, ap, ◌∙◌}
use mathlib.Core.Bool.{not}
use mathlib.Core.List.{List, ◌++◌, append_assoc}
use Prim.Native.Nat.{ℕ, ◌+◌, ◌≤◌}
use native.Mathlib.Omega.{arith}
use lib.Dec.{ltb}
use lib.ListN.{length, take, drop, length-take, length-drop, take-append-drop}
use lib.Seq.{take-append-le, drop-append-le}
use borrow.Author.Tests.{le-ltb}
use Rattle.model.specs.declared.Settings.{Settings}
use Rattle.model.specs.declared.CoordinatorRecord.{CoordinatorRecord}
use Rattle.model.specs.Refusals.{when, ◌or_else◌, no_refusal, memory_too_short, memory_inconsistent}
use Rattle.model.specs.Limits.{value_count}
use Rattle.model.specs.Settings.{settings_refusal}
use Rattle.model.specs.SiteMemory.{overwrite}
use Rattle.model.specs.Coordinator.{Coordinator}
use Rattle.model.specs.CoordinatorMemory.{coordinator_words, coordinator_in, coordinator_consistent, coordinator_memory_refusal}
use Rattle.model.proofs.Thresholds.TestedMemory.{coordinator_tested}
use Rattle.history.specs.State.{with_part}

-- ---- Fronts of a memory

-- A front is no longer than the memory.
pub whole_long : (words n : ℕ) (memory : List ℕ)
    → words ≤ length (take n memory)
    → words ≤ length memory
whole_long words n memory long = omega (arith, length-take n memory)

-- A front as a call left it, and what lies behind it.
pub front_then : (memory : List ℕ) (n : ℕ) (part : List ℕ)
    → with_part memory 0 n part ≡ part ++ drop n memory
front_then memory n part =
    let place : 0 + n ≡ n = omega arith in
    ap (λ (from : ℕ). part ++ drop from memory) place

-- Written over a front, with what lies behind it: written over the whole.
pub overwrite_front : (numbers : List ℕ) (n : ℕ) (memory : List ℕ)
    → length numbers ≤ length (take n memory)
    → with_part memory 0 n (overwrite numbers (take n memory)) ≡ overwrite numbers memory
overwrite_front numbers n memory fits =
    let width = length numbers in
    front_then memory n (overwrite numbers (take n memory))
    ∙ append_assoc numbers (drop width (take n memory)) (drop n memory)
    ∙ ap (λ (behind : List ℕ). numbers ++ behind)
    (sym (drop-append-le width (take n memory) (drop n memory) fits)
    ∙ ap (drop width) (take-append-drop n memory))

-- ---- The coordinator read

module _ (settings : Settings) (numbers : CoordinatorRecord) (n : ℕ) (memory : List ℕ)
    (long : coordinator_words settings ≤ length (take n memory)) where
  abbrev front : List ℕ
  front = take n memory

  -- Its numbers lie in the front.
  pub coordinator_in_front : coordinator_in settings numbers front
      ≡ coordinator_in settings numbers memory
  coordinator_in_front =
      let u = settings.universe in
      let back : value_count ≤ length (drop u front) =
      rw (length-drop u front) (omega arith) in
      let behind = drop n memory in
      let estimates : take u front ≡ take u (front ++ behind) =
      sym (take-append-le u front behind (omega arith)) in
      let values : take value_count (drop u front) ≡ take value_count (drop u (front ++ behind)) =
      sym (ap (take value_count) (drop-append-le u front behind (omega arith))
      ∙ take-append-le value_count (drop u front) behind back) in
      let read : coordinator_in settings numbers front
      ≡ coordinator_in settings numbers (front ++ behind) =
      λ i. record {
        estimates = estimates i;
        histogram = values i;
        total = numbers.total;
        base = numbers.base;
        threshold = numbers.threshold;
        signals = numbers.signals;
        quantile = numbers.quantile;
        phase = numbers.phase;
      } in
      read ∙ ap (coordinator_in settings numbers) (take-append-drop n memory)

  -- Neither 4 nor 11 tells the front from the whole.
  pub memory_refusal_front : coordinator_memory_refusal settings numbers front
      ≡ coordinator_memory_refusal settings numbers memory
  memory_refusal_front =
      let words = coordinator_words settings in
      let short : ltb (length front) words ≡ ltb (length memory) words =
      le-ltb (length front) words long
      ∙ sym (le-ltb (length memory) words (whole_long words n memory long)) in
      λ i.
      settings_refusal settings
      or_else when (short i) memory_too_short
      or_else when (not (coordinator_consistent settings (coordinator_in_front i)))
      memory_inconsistent
      or_else no_refusal

  -- So what depends on both tells neither.
  pub on_front : {A : Type 0} (of : ℕ → Coordinator → A)
      → of (coordinator_memory_refusal settings numbers front)
      (coordinator_in settings numbers front)
      ≡ of (coordinator_memory_refusal settings numbers memory)
      (coordinator_in settings numbers memory)
  on_front of = λ i. of (memory_refusal_front i) (coordinator_in_front i)

-- Memory that a call on the coordinator accepts is long enough.
pub coordinator_long : (settings : Settings) (numbers : CoordinatorRecord) (memory : List ℕ)
    → coordinator_memory_refusal settings numbers memory ≡ no_refusal
    → coordinator_words settings ≤ length memory
coordinator_long settings numbers memory none =
    (coordinator_tested settings numbers memory none).memory_long
