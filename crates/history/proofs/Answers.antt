-- What a call hands back by whether it accepts, and what its acceptance is worth.
--
--   accepted_choice, refused_choice   what is chosen where a call accepts, and where it refuses
--   taken_choice, left_choice         the same where it takes an arrival, and where it does not
--   or_accepted                       a chain's last row may be left out
--   accepted_long                     memory that a call on a site accepts is long enough
--   words_enough                      and so is a part of so many numbers
use Rattle.std.specs.Prelude.{if◌then◌else◌}
use mathlib.Core.Path.{◌≡◌, refl}
use mathlib.Core.Bool.{Bool, true, false}
use mathlib.Core.List.{List}
use Prim.Native.Nat.{ℕ, zero, suc, ◌≤◌}
use native.Mathlib.Omega.{arith}
use lib.ListN.{length, take, length-take}
use borrow.Author.Tests.{eq-eqb, ne_eqb}
use Rattle.model.specs.declared.Settings.{Settings}
use Rattle.model.specs.declared.SiteRecord.{SiteRecord}
use Rattle.model.specs.Choice.{is_zero}
use Rattle.model.specs.Refusals.{no_refusal, ◌or_else◌}
use Rattle.model.specs.SiteMemory.{site_words, site_memory_refusal}
use Rattle.model.proofs.Thresholds.TestedMemory.{site_tested}

-- ---- Choices

-- An accepted call hands back what it did.
pub accepted_choice : {A : Type 0} (refusal : ℕ) (chosen other : A)
    → refusal ≡ no_refusal
    → (if is_zero refusal then chosen else other) ≡ chosen
accepted_choice refusal chosen other none = rw (eq-eqb refusal 0 none)

-- A refused call hands back what it was given.
pub refused_choice : {A : Type 0} (refusal : ℕ) (chosen other : A)
    → (refusal ≡ no_refusal → ⊥)
    → (if is_zero refusal then chosen else other) ≡ other
refused_choice refusal chosen other refused = rw (ne_eqb refusal 0 refused)

-- By a test: whether an arrival is taken.
pub taken_choice : {A : Type 0} (test : Bool) (chosen other : A)
    → test ≡ true
    → (if test then chosen else other) ≡ chosen
taken_choice test chosen other holds = rw holds

pub left_choice : {A : Type 0} (test : Bool) (chosen other : A)
    → test ≡ false
    → (if test then chosen else other) ≡ other
left_choice test chosen other fails = rw fails

-- A chain ends with `accepted`, which adds no refusal.
pub or_accepted : (refusal : ℕ) → (refusal or_else no_refusal) ≡ refusal
or_accepted zero = refl
or_accepted (suc refusal) = refl

-- ---- Lengths

-- Neither 4 nor 11: so at least the numbers of one site.
pub accepted_long : (settings : Settings) (numbers : SiteRecord) (memory : List ℕ)
    → site_memory_refusal settings numbers memory ≡ no_refusal
    → site_words settings ≤ length memory
accepted_long settings numbers memory none =
    (site_tested settings numbers memory none).memory_long

-- A front as long as that is a front of at least so many numbers.
pub words_enough : (words n : ℕ) (memory : List ℕ) → words ≤ length (take n memory) → words ≤ n
words_enough words n memory long = omega (arith, length-take n memory)
