-- Call by call: the steps of delivery since a first state, and what a call requires.
--
--   Due, due_facts           what it says that a call is due
--   Going                    what holds between two calls: the loop's invariant
--   going_start, going_on    before the first call, and after one more
use mathlib.Core.Path.{◌≡◌, refl, sym, ◌∙◌}
use mathlib.Core.Bool.{Bool, true, false, not, ◌||◌, false≢true}
use mathlib.Core.List.{List}
use Prim.Native.Nat.{ℕ, zero, suc, ◌+◌, ◌-◌, ◌≤◌}
use native.Mathlib.Omega.{arith}
use lib.ListN.{length}
use borrow.Author.Tests.{eqb-true, eqb-false, eq-eqb, not-true}
use Rattle.laws.proofs.Tests.{both_true}
use Rattle.model.specs.declared.Settings.{Settings}
use Rattle.model.specs.Choice.{is_zero}
use Rattle.model.specs.Refusals.{no_refusal}
use Rattle.model.specs.Coordinator.{is_announcing}
use Rattle.history.specs.State.{State}
use Rattle.history.specs.Histories.{no_step, delivered}
use Rattle.single_steps.specs.Progress.{ProgressOutcome, goes_on, may_go_on, is_due, Stands}
use Rattle.single_steps.specs.Steps.{Stepped, goes, stops, CallStepSays, Came}

-- ---- What is due

pub record Due (progress : ProgressOutcome) : Type 0 where
  pub not_refused : progress.refusal ≡ no_refusal
  pub some_left : progress.left ≡ 0 → ⊥
  pub announces : progress.waiting.count ≡ 0
      → is_announcing progress.coordinator.phase ≡ true

second_of_or : (first second : Bool) → (first || second) ≡ true → first ≡ false → second ≡ true
second_of_or true second holds fails = absurd (false≢true (sym fails))
second_of_or false second holds fails = holds

pub positive : (n : ℕ) → (n ≡ 0 → ⊥) → 1 ≤ n
positive zero some = absurd (some refl)
positive (suc n) some = omega arith

pub due_facts : (progress : ProgressOutcome) → is_due progress ≡ true → Due progress
due_facts progress due =
    let both = both_true (may_go_on progress) (goes_on progress) due in
    let may = both_true (is_zero progress.refusal) (not (is_zero progress.left))
    both.first_true in
    record {
      not_refused = eqb-true progress.refusal 0 may.first_true;
      some_left = eqb-false progress.left 0
          (not-true (is_zero progress.left) may.second_true);
      announces = λ none.
          second_of_or (not (is_zero progress.waiting.count))
          (is_announcing progress.coordinator.phase) both.second_true
          (rw (eq-eqb progress.waiting.count 0 none) refl);
    }

-- One call fewer may be made.
abbrev pub counting : ProgressOutcome → ProgressOutcome
counting progress = record {
  sites = progress.sites;
  coordinator = progress.coordinator;
  waiting = progress.waiting;
  carried = progress.carried;
  refusal = progress.refusal;
  left = progress.left - 1;
}

-- ---- Between two calls

pub record Going
    (settings : Settings)
    (site_memory : List ℕ)
    (before : List ℕ)
    (begun : ProgressOutcome)
    (after : List ℕ)
    (now : ProgressOutcome) : Type 0 where
  pub few : now.waiting.count ≤ 2
  pub few_carried : now.carried + now.left ≤ begun.carried + begun.left
  pub same_length : length after ≡ length before
  pub comes : (past : ℕ) (first : State)
      → Stands past first begun site_memory before
      → Came settings past first begun now site_memory after

pub going_start : {settings : Settings} {site_memory before : List ℕ} {begun : ProgressOutcome}
    → begun.waiting.count ≤ 2
    → begun.refusal ≡ no_refusal
    → Going settings site_memory before begun before begun
going_start few none = record {
  few = few;
  few_carried = omega arith;
  same_length = refl;
  comes = λ past first stands. record {
    taken = 0;
    after = first;
    deliveries = no_step;
    stands = stands;
    counted = λ _. omega arith;
    blocked = λ refused. absurd (refused none);
  };
}

module _ {settings : Settings} {site_memory after next : List ℕ} {begun now then : ProgressOutcome}
    (due : Due now) where
  -- A step, or a refusal.
  came_step : {past : ℕ} {first : State}
      → (came : Came settings past first begun now site_memory after)
      → then.left ≡ now.left - 1
      → Stepped settings past came.after then site_memory next
      → Came settings past first begun then site_memory next
  came_step came left_is (goes state step stands none) = record {
    taken = suc came.taken;
    after = state;
    deliveries = delivered came.taken came.after state came.deliveries step;
    stands = stands;
    counted = λ _.
        let some : now.left ≡ 0 → ⊥ = due.some_left in
        let one : 1 ≤ now.left = positive now.left some in
        omega (arith, came.counted due.not_refused, left_is, one);
    blocked = λ refused. absurd (refused none);
  }
  came_step came left_is (stops stands refused blocked) = record {
    taken = came.taken;
    after = came.after;
    deliveries = came.deliveries;
    stands = stands;
    counted = λ none. absurd (refused none);
    blocked = λ _. blocked;
  }

  pub going_on : {before : List ℕ} → Going settings site_memory before begun after now
      → length next ≡ length after
      → CallStepSays settings site_memory after next (counting now) then
      → Going settings site_memory before begun next then
  going_on going same says = record {
    few = says.few;
    few_carried =
        let one = positive now.left due.some_left in
        omega (arith, says.one_more, says.left_is, going.few_carried, one);
    same_length = same ∙ going.same_length;
    comes = λ past first stands.
        let came = going.comes past first stands in
        came_step came says.left_is
        (says.steps past came.after
        (record {
          held_is = came.stands.held_is;
          waiting_are = came.stands.waiting_are;
          carried_are = came.stands.carried_are;
        }));
  }
