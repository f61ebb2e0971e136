-- The limit of each count of messages, as a test and as a fact (request N5).
--
--   FewCounted k counts     none of the first k counts is above the limit
--   few_counted_of          what passes the test has it
--   counts_within_of        what has it passes the test
use mathlib.Core.Path.{◌≡◌, refl}
use mathlib.Core.Bool.{true}
use mathlib.Core.List.{List, [], ◌∷◌}
use Prim.Native.Nat.{ℕ, zero, suc, ◌≤◌, ◌<◌}
use native.Mathlib.Omega.{arith}
use lib.Dec.{leb}
use borrow.Author.Tests.{leb-true, le-leb}
use Rattle.laws.proofs.Tests.{both_true}
use Rattle.model.specs.Limits.{message_limit}
use Rattle.model.specs.MessageCounts.{count_at, counts_within}

pub record FewCounted (k : ℕ) (counts : List ℕ) : Type 0 where
  pub each_within : (j : ℕ) → j < k → count_at counts j ≤ message_limit

pub few_counted_of : (k : ℕ) (counts : List ℕ) → counts_within k counts ≡ true → FewCounted k counts
few_counted_of zero counts passes = record { each_within = λ j j<. absurd (omega arith) }
few_counted_of (suc k) [] passes = record { each_within = λ j j<. omega arith }
few_counted_of (suc k) (count ∷ counts) passes =
    let rows = both_true (leb count message_limit) (counts_within k counts) passes in
    record {
      each_within = by_place (leb-true count message_limit rows.first_true)
          (few_counted_of k counts rows.second_true).each_within;
    }
  where
    by_place : count ≤ message_limit
        → ((j : ℕ) → j < k → count_at counts j ≤ message_limit)
        → (j : ℕ) → j < suc k → count_at (count ∷ counts) j ≤ message_limit
    by_place first others zero j< = first
    by_place first others (suc j) j< = others j (omega arith)

pub counts_within_of : (k : ℕ) (counts : List ℕ)
    → FewCounted k counts
    → counts_within k counts ≡ true
counts_within_of zero counts few = refl
counts_within_of (suc k) [] few = refl
counts_within_of (suc k) (count ∷ counts) few =
    rw (
      le-leb count message_limit (few.each_within 0 (omega arith)),
      counts_within_of k counts
          (record { each_within = λ j j<. few.each_within (suc j) (omega arith) }),
    )
