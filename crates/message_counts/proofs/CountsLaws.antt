-- The walk over the counts of messages by site: none of those before j is above the limit.
--
--   CountsPass, counts_start, counts_on    the counts before j
--   counts_fail, counts_end                what the walk answers
--   all_within                             a test of all of them
use Rattle.std.specs.Prelude.{IsTrue, ◌↔◌}
use Rattle.std.specs.List.{All}
use Rattle.std.proofs.lemmas.List.{get_or_default}
use mathlib.Core.Path.{◌≡◌, refl, sym, subst, ◌∙◌}
use mathlib.Core.Bool.{Bool, true, false}
use mathlib.Core.List.{List}
use Prim.Native.Nat.{ℕ, ◌+◌, ◌≤◌, ◌<◌}
use native.Mathlib.Omega.{arith}
use native.Mathlib.Decide.{dec_lt}
use lib.ListN.{length, take}
use lib.Seq.{length-take-le, get_or-take}
use Rattle.model.specs.Limits.{message_limit}
use Rattle.model.specs.MessageCounts.{count_at, counts_within}
use Rattle.model.proofs.MessageCount.Counts.{FewCounted, few_counted_of, counts_within_of}

module _ (k : ℕ) (counts : List ℕ) where
  pub record CountsPass (j : ℕ) : Type 0 where
    pub within : j ≤ k
    pub few : FewCounted j counts

  pub counts_start : CountsPass 0
  counts_start = record {
    within = omega arith;
    few = record { each_within = λ i i<. absurd (omega arith) };
  }

  module _ (j : ℕ) (inside : j < k) where
    pub counts_on : CountsPass j → count_at counts j ≤ message_limit → CountsPass (j + 1)
    counts_on passing last = record {
      within = omega arith;
      few = record { each_within = λ i i<. by_place i (dec_lt i j) i< };
    }
      where
        by_place : (i : ℕ) → Dec (i < j) → i < j + 1 → count_at counts i ≤ message_limit
        by_place i (yes before) i< = passing.few.each_within i before
        by_place i (no past) i< =
            let same : j ≡ i = omega arith in
            subst (λ (n : ℕ). count_at counts n ≤ message_limit) same last

    pub counts_fail : message_limit < count_at counts j → false ≡ counts_within k counts
    counts_fail above = by_test (counts_within k counts) refl
      where
        by_test : (test : Bool) → counts_within k counts ≡ test → false ≡ counts_within k counts
        by_test true passes =
            absurd (omega (arith, (few_counted_of k counts passes).each_within j inside))
        by_test false fails = sym fails

  pub counts_end : (j : ℕ) → CountsPass j → k ≤ j → true ≡ counts_within k counts
  counts_end j passing done =
      let last : j ≡ k = omega (arith, passing.within) in
      sym (counts_within_of k counts (subst (λ (n : ℕ). FewCounted n counts) last passing.few))

-- The same as one test of all.
pub all_within : (k : ℕ) (counts : List ℕ) (passed : Bool)
    → k ≤ length counts
    → IsTrue passed ↔ All (λ n. n ≤ message_limit) (take k counts)
    → passed ≡ counts_within k counts
all_within k counts true enough told =
    sym (counts_within_of k counts (record {
      each_within = λ i i<.
          subst (λ (n : ℕ). n ≤ message_limit) (get_or-take k counts i 0 i<)
          (told.0 refl i 0 (omega (arith, i<, length-take-le k counts enough)));
    }))
all_within k counts false enough told = by_test (counts_within k counts) refl
  where
    by_test : (test : Bool) → counts_within k counts ≡ test → false ≡ counts_within k counts
    by_test true passes =
        told.1 (λ i d i<.
        let inside : i < k = omega (arith, i<, length-take-le k counts enough) in
        let same = get_or-take k counts i d inside ∙ get_or_default counts i d 0 (omega arith) in
        omega (arith, same, (few_counted_of k counts passes).each_within i inside))
        ∙ sym passes
    by_test false fails = sym fails
