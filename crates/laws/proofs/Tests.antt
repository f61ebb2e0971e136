-- Laws of tests joined by `&&`, `||` and `not`.
--
--   both_true        both tests of a conjunction hold
--   neither_of_or    neither test of a disjunction holds that fails
--   false_of_not     what a test's negation says of it: it fails
--   true_of_not      and it holds
--   ltb_is_not_leb   b < a is the negation of a ≤ b, as tests
--   and_false, and_true, or_false   a joined test whose second part is known
--   AllHold, no_test, also, also_fails   tests that hold one after another, as one conjunction
use mathlib.Core.Path.{◌≡◌, refl, sym, ◌∙◌}
use Prim.Native.Nat.{ℕ}
use lib.Dec.{leb, ltb}
use borrow.Author.Tests.{not-true, not-false, leb-true, leb-false, lt-ltb, le-ltb}
use mathlib.Core.Bool.{Bool, true, false, ◌&&◌, ◌||◌, not, false≢true}

pub record BothTrue (first second : Bool) : Type 0 where
  pub first_true : first ≡ true
  pub second_true : second ≡ true

pub both_true : (first second : Bool) → (first && second) ≡ true → BothTrue first second
both_true true second holds = record { first_true = refl; second_true = holds }
both_true false second impossible = absurd (false≢true impossible)

pub record NeitherTrue (first second : Bool) : Type 0 where
  pub first_false : first ≡ false
  pub second_false : second ≡ false

pub neither_of_or : (first second : Bool) → (first || second) ≡ false → NeitherTrue first second
neither_of_or true second impossible = absurd (false≢true (sym impossible))
neither_of_or false second fails = record { first_false = refl; second_false = fails }

pub or_false : (test : Bool) → (test || false) ≡ test
or_false true = refl
or_false false = refl

-- The answer is the negation of a test: from the answer to the test.
pub false_of_not : (test : Bool) {answer : Bool} → answer ≡ not test → answer ≡ true → test ≡ false
false_of_not test is yes-answer = not-true test (sym is ∙ yes-answer)

pub true_of_not : (test : Bool) {answer : Bool} → answer ≡ not test → answer ≡ false → test ≡ true
true_of_not test is no_answer = not-false test (sym is ∙ no_answer)

pub ltb_is_not_leb : (a b : ℕ) → ltb b a ≡ not (leb a b)
ltb_is_not_leb a b = by_order (leb a b) refl
  where
    by_order : (test : Bool) → leb a b ≡ test → ltb b a ≡ not test
    by_order true holds = le-ltb b a (leb-true a b holds)
    by_order false fails = lt-ltb b a (leb-false a b fails)

pub and_false : (test : Bool) → (test && false) ≡ false
and_false true = refl
and_false false = refl

pub and_true : (test : Bool) → (test && true) ≡ test
and_true true = refl
and_true false = refl

-- ---- Tests found to hold one after another

pub record AllHold : Type 0 where
  pub tests : Bool
  pub hold : tests ≡ true

abbrev pub no_test : AllHold
no_test = record { tests = true; hold = refl }

pub and_both : (first second : Bool) → first ≡ true → second ≡ true → (first && second) ≡ true
and_both first second holds also-holds = rw (holds, also-holds)

-- One more, by an answer that is its negation.
module _ (so_far : AllHold) (test : Bool) {answer : Bool} (is : answer ≡ not test) where
  abbrev pub also : answer ≡ false → AllHold
  also no_answer = record {
    tests = so_far.tests && test;
    hold = and_both so_far.tests test so_far.hold (true_of_not test is no_answer);
  }

  pub also_fails : answer ≡ true → (so_far.tests && test) ≡ false
  also_fails yes-answer =
      rw (false_of_not test is yes-answer) (and_false so_far.tests)
