-- Laws of refusal chains `first or_else later`, whose rows are the parts `when test refusal`.
--
-- How the answer of a chain is found row by row, each step leaning on the one before:
--
--   Still answer          rows are passed: the answer is what the rest says
--   begin chain           no row is passed
--   pass, pass_part       a row further: its test failed, or the part accepts
--   refuse, refuse_part   the answer: a row whose test holds, or a part that refuses
--   end                   the answer: what the rest says
--   told                  a test, or a part, by the result of the call that found it
--   refuse_err            the answer: a part whose call refused
--
-- What a call's refusal says of its number: accepted_by, refused_by, some_number.
--
-- The row and what comes after it are read off the step before (`_`, and `refl`).
--
-- How a chain that refuses nothing is taken apart, again row by row:
--
--   both_accepted         neither the first part of a chain nor the later refuses
--   passed                a row's test failed, and no later row refuses
--
-- What a call hands back by its refusal: accepts, refuses, refuses-by.
use Rattle.std.specs.Prelude.{if◌then◌else◌, Result, Ok, Err}
use mathlib.Core.Path.{◌≡◌, refl, sym, ap, ◌∙◌}
use mathlib.Core.Bool.{Bool, true, false}
use Prim.Native.Nat.{ℕ, zero, suc, ◌<◌}
use native.Mathlib.Omega.{arith}
use borrow.Author.Tests.{eq-eqb, ne_eqb}
use Rattle.model.specs.declared.Refusal.{Refusal}
use Rattle.model.specs.declared.Refusal.TheVariants.{SettingOutOfRange, PhiBelowEpsilon, TooFewCounters, MemoryTooShort, UnknownSite, UnknownItem, ValueTooLarge, SiteFull, MessageNotDue, AmountNotDue, MemoryInconsistent, ListTooShort, MalformedLine, LogTooShort, FileUnreadable, ChecksumWrong}
use Rattle.model.specs.Choice.{is_zero}
use Rattle.model.specs.Refusals.{when, ◌or_else◌, no_refusal, number_of, refusal_told}

-- ---- The answer of a chain, row by row

pub record Still (answer : ℕ) : Type 0 where
  pub rest : ℕ
  pub comes_to : answer ≡ rest

abbrev pub begin : (chain : ℕ) → Still chain
begin chain = record { rest = chain; comes_to = refl }

module _ {answer : ℕ} where
  pub later_is : (first later : ℕ)
      → answer ≡ (first or_else later)
      → first ≡ no_refusal
      → answer ≡ later
  later_is first later is none = is ∙ ap (λ (n : ℕ). n or_else later) none

  abbrev pub pass_part : (first later : ℕ) (so_far : Still answer)
      → so_far.rest ≡ (first or_else later)
      → first ≡ no_refusal
      → Still answer
  pass_part first later so_far is none = record {
    rest = later;
    comes_to = later_is first later (so_far.comes_to ∙ is) none;
  }

  abbrev pub pass : (test : Bool) (refusal later : ℕ) (so_far : Still answer)
      → so_far.rest ≡ (when test refusal or_else later)
      → test ≡ false
      → Still answer
  pass test refusal later so_far is failed =
      pass_part (when test refusal) later so_far is (ap (λ (t : Bool). when t refusal) failed)

  pub end : {result : ℕ} (so_far : Still answer) → result ≡ so_far.rest → result ≡ answer
  end so_far is = is ∙ sym so_far.comes_to

  pub refuse : (test : Bool) (refusal later : ℕ) (so_far : Still answer)
      → so_far.rest ≡ (when test (suc refusal) or_else later)
      → test ≡ true
      → suc refusal ≡ answer
  refuse test refusal later so_far is holds =
      end so_far (sym (is ∙ ap (λ (t : Bool). when t (suc refusal) or_else later) holds))

  pub refuse_part : {result : ℕ} (first later : ℕ) (so_far : Still answer)
      → so_far.rest ≡ (first or_else later)
      → result ≡ first
      → (result ≡ no_refusal → ⊥)
      → result ≡ answer
  refuse_part zero later so_far is none refused = absurd (refused none)
  refuse_part (suc first) later so_far is same refused = end so_far (same ∙ sym is)

pub told : {A : Type 0} {result value known : A}
    → result ≡ value
    → result ≡ known
    → value ≡ known
told is Known-is = sym is ∙ Known-is

-- ---- What a call says of its number

zero≢suc : {n : ℕ} → zero ≡ suc n → ⊥
zero≢suc impossible = omega arith

module _ {A : Type 0} {answer : Result A Refusal} {known : ℕ}
    (is : refusal_told answer ≡ known) where
  pub accepted_by : {value : A} → answer ≡ Ok value → known ≡ no_refusal
  accepted_by was = sym is ∙ ap refusal_told was

  pub refused_by : {refusal : Refusal} → answer ≡ Err refusal → known ≡ number_of refusal
  refused_by was = sym is ∙ ap refusal_told was

-- No refusal has the number 0.
pub some_number : (refusal : Refusal) → number_of refusal ≡ no_refusal → ⊥
some_number SettingOutOfRange none = absurd (zero≢suc (sym none))
some_number PhiBelowEpsilon none = absurd (zero≢suc (sym none))
some_number TooFewCounters none = absurd (zero≢suc (sym none))
some_number MemoryTooShort none = absurd (zero≢suc (sym none))
some_number UnknownSite none = absurd (zero≢suc (sym none))
some_number UnknownItem none = absurd (zero≢suc (sym none))
some_number ValueTooLarge none = absurd (zero≢suc (sym none))
some_number SiteFull none = absurd (zero≢suc (sym none))
some_number MessageNotDue none = absurd (zero≢suc (sym none))
some_number AmountNotDue none = absurd (zero≢suc (sym none))
some_number MemoryInconsistent none = absurd (zero≢suc (sym none))
some_number ListTooShort none = absurd (zero≢suc (sym none))
some_number MalformedLine none = absurd (zero≢suc (sym none))
some_number LogTooShort none = absurd (zero≢suc (sym none))
some_number FileUnreadable none = absurd (zero≢suc (sym none))
some_number ChecksumWrong none = absurd (zero≢suc (sym none))

-- The answer of a chain: that of a part whose call refused.
pub refuse_err : {A : Type 0} {called : Result A Refusal} {refusal : Refusal} {answer : ℕ}
    (first later : ℕ) (so_far : Still answer)
    → so_far.rest ≡ (first or_else later)
    → refusal_told called ≡ first
    → called ≡ Err refusal
    → number_of refusal ≡ answer
refuse_err {refusal = refusal} first later so_far is told_first was =
    refuse_part first later so_far is (sym (refused_by told_first was)) (some_number refusal)

-- ---- A chain that refuses nothing

pub record BothAccepted (first later : ℕ) : Type 0 where
  pub first_accepted : first ≡ no_refusal
  pub later_accepted : later ≡ no_refusal

pub both_accepted : (first later : ℕ) → (first or_else later) ≡ no_refusal → BothAccepted first
    later
both_accepted zero later none = record { first_accepted = refl; later_accepted = none }
both_accepted (suc first) later none = absurd (omega arith)

pub record Passed (test : Bool) (later : ℕ) : Type 0 where
  pub test_failed : test ≡ false
  pub later_accepted : later ≡ no_refusal

-- A row of a chain with a number of its own: were its test true, the chain would give that number.
pub passed : (test : Bool) (refusal later : ℕ)
    → 0 < refusal
    → (when test refusal or_else later) ≡ no_refusal
    → Passed test later
passed true refusal later positive none =
    absurd (omega (arith, (both_accepted refusal later none).first_accepted))
passed false refusal later positive none = record { test_failed = refl; later_accepted = none }

-- ---- What is handed back

module _ {A : Type 0} (refusal : ℕ) (chosen other : A) where
  pub accepts : refusal ≡ no_refusal → chosen ≡ (if is_zero refusal then chosen else other)
  accepts none = rw (eq-eqb refusal 0 none)

  pub refuses : (refusal ≡ no_refusal → ⊥) → other ≡ (if is_zero refusal then chosen else other)
  refuses some = rw (ne_eqb refusal 0 some)

  -- Where the number is known with which it refuses.
  pub refuses_by : (number : ℕ)
      → suc number ≡ refusal
      → other ≡ (if is_zero refusal then chosen else other)
  refuses_by number is = refuses (λ none. zero≢suc (sym (is ∙ none)))
