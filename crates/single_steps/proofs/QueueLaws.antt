-- Laws of the messages that wait, as code carries them.
--
--   get_d_within                    within a list the default does not matter
--   queued_none, queued_head        nothing waits; the head, and what waits behind it
--   few_without_head                one at most waits behind the head
--   Sends, sends                    the message of an answer waits last, and is counted
--   queue_two, length_queued        the messages of an arrival's answer
use mathlib.Core.Path.{◌≡◌, refl, sym, ap, subst, ◌∙◌}
use mathlib.Core.Bool.{false}
use mathlib.Core.List.{List, [], ◌∷◌, ◌++◌, append-nil}
use Prim.Native.Nat.{ℕ, zero, suc, ◌+◌, ◌≤◌, ◌<◌}
use native.Mathlib.Omega.{arith}
use lib.ListN.{length, get_or, take}
use lib.Seq.{take-nil, length-take-le}
use borrow.Author.Tests.{ne_eqb}
use Rattle.model.specs.declared.Message.{Message}
use Rattle.model.specs.Choice.{is_zero}
use Rattle.tracker_queue.specs.declared.Queue.{Queue}
use Rattle.tracker_queue.specs.Sending.{joined, without_head}
use Rattle.single_steps.specs.Progress.{ProgressOutcome, queued, sent, QueueSays}

pub get_d_within : {A : Type 0} (xs : List A) (i : ℕ) (one other : A)
    → i < length xs
    → get_or xs i one ≡ get_or xs i other
get_d_within [] i one other i< = absurd (omega arith)
get_d_within (x ∷ xs) zero one other i< = refl
get_d_within (x ∷ xs) (suc i) one other i< = get_d_within xs i one other (omega arith)

nonzero : (n : ℕ) → is_zero (suc n) ≡ false
nonzero n = ne_eqb (suc n) 0 (λ zero-it. omega arith)

abbrev queue : ℕ → Message → Message → Queue
queue count first second = record { count = count; first = first; second = second }

-- ---- By how many wait

none_by : (count : ℕ) (first second : Message)
    → count ≡ 0
    → queued (queue count first second) ≡ []
none_by zero first second none = refl
none_by (suc count) first second none = absurd (omega arith)

head_by : (count : ℕ) (first second : Message)
    → (count ≡ 0 → ⊥)
    → count ≤ 2
    → queued (queue count first second)
    ≡ first ∷ queued (without_head (queue count first second))
head_by zero first second some few = absurd (some refl)
head_by (suc zero) first second some few = refl
head_by (suc (suc zero)) first second some few = refl
head_by (suc (suc (suc count))) first second some few = absurd (omega arith)

few_behind_by : (count : ℕ) (first second : Message)
    → count ≤ 2
    → (without_head (queue count first second)).count ≤ 1
few_behind_by zero first second few = omega arith
few_behind_by (suc zero) first second few = omega arith
few_behind_by (suc (suc zero)) first second few = omega arith
few_behind_by (suc (suc (suc count))) first second few = absurd (omega arith)

joined_by : (count : ℕ) (first second m : Message)
    → count ≤ 1
    → queued (joined (queue count first second) m) ≡ queued (queue count first second) ++ (m ∷ [])
joined_by zero first second m few = refl
joined_by (suc zero) first second m few = refl
joined_by (suc (suc count)) first second m few = absurd (omega arith)

few_joined_by : (count : ℕ) (first second m : Message)
    → (joined (queue count first second) m).count ≤ 2
few_joined_by zero first second m = omega arith
few_joined_by (suc count) first second m = rw (nonzero count) (omega arith)

-- ---- Of a queue

module _ (waiting : Queue) where
  pub queued_none : waiting.count ≡ 0 → queued waiting ≡ []
  queued_none = none_by waiting.count waiting.first waiting.second

  module _ (few : waiting.count ≤ 2) where
    pub queued_head : (waiting.count ≡ 0 → ⊥)
        → queued waiting ≡ waiting.first ∷ queued (without_head waiting)
    queued_head some = head_by waiting.count waiting.first waiting.second some few

    pub few_without_head : (without_head waiting).count ≤ 1
    few_without_head = few_behind_by waiting.count waiting.first waiting.second few

-- ---- A message that goes out

-- It waits last and is counted, if there is one; records, refusal and calls left stay.
pub record Sends (count : ℕ) (moved : ProgressOutcome) (m : Message) (after : ProgressOutcome)
    : Type 0 where
  pub same_sites : after.sites ≡ moved.sites
  pub same_coordinator : after.coordinator ≡ moved.coordinator
  pub same_refusal : after.refusal ≡ moved.refusal
  pub same_left : after.left ≡ moved.left
  pub few : after.waiting.count ≤ 2
  pub waits : queued moved.waiting ++ take count (m ∷ []) ≡ queued after.waiting
  pub counts : after.carried ≡ moved.carried + length (take count (m ∷ []))
  pub one_more : after.carried ≤ moved.carried + 1

sends_by : (count : ℕ) (moved : ProgressOutcome) (m : Message)
    → moved.waiting.count ≤ 1
    → Sends count moved m (sent count moved m)
sends_by zero moved m few = record {
  same_sites = refl;
  same_coordinator = refl;
  same_refusal = refl;
  same_left = refl;
  few = omega arith;
  waits = append-nil (queued moved.waiting);
  counts = omega arith;
  one_more = omega arith;
}
sends_by (suc count) moved m few =
    let waiting = moved.waiting in
    let one : take (suc count) (m ∷ []) ≡ m ∷ [] =
    ap (λ (ms : List Message). m ∷ ms) (take-nil count) in
    rw (nonzero count)
    (record {
      same_sites = refl;
      same_coordinator = refl;
      same_refusal = refl;
      same_left = refl;
      few = few_joined_by waiting.count waiting.first waiting.second m;
      waits =
          ap (λ (ms : List Message). queued waiting ++ ms) one
          ∙ sym (joined_by waiting.count waiting.first waiting.second m few);
      counts = omega (arith, ap length one);
      one_more = omega arith;
    })

-- The same of a progress that is known to be that.
pub sends : (count : ℕ) (moved : ProgressOutcome) (m : Message) (after : ProgressOutcome)
    → after ≡ sent count moved m
    → moved.waiting.count ≤ 1
    → Sends count moved m after
sends count moved m after after_is few =
    subst (Sends count moved m) (sym after_is) (sends_by count moved m few)

-- An answer with two messages, or a count that says more.
pub queue_two : (count : ℕ) (first second : Message)
    → 2 ≤ count
    → QueueSays count first second (queue 2 first second)
queue_two zero first second both = absurd (omega arith)
queue_two (suc zero) first second both = absurd (omega arith)
queue_two (suc (suc zero)) first second both = record { messages = refl; few = omega arith }
queue_two (suc (suc (suc count))) first second both =
    record { messages = refl; few = omega arith }

-- As many wait as the queue counts.
pub length_queued : (waiting : Queue) → waiting.count ≤ 2
    → length (queued waiting) ≡ waiting.count
length_queued waiting few =
    length-take-le waiting.count (waiting.first ∷ (waiting.second ∷ [])) few
