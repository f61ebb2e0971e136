-- The entry points: their chains of refusals, and what they hand back by these.
--
--   front_filled                                       a front of zeros, as an overwritten one
--   fresh_memory                                       the fresh coordinator is zeros alone
--   start_long, step_asks, announce_asks               what an accepted call may hand to a step
--   hands_refused, hands_accepted                      the record `ReceivedSays`
use mathlib.Core.Path.{◌≡◌, ap, sym, ◌∙◌}
use mathlib.Core.List.{List, ◌++◌}
use Prim.Native.Nat.{ℕ, ◌≤◌}
use lib.ListN.{length, take, drop, replicate, length-replicate, replicate-append-replicate}
use lib.Seq.{length-take-le}
use Rattle.model.specs.declared.Settings.{Settings}
use Rattle.model.specs.declared.Message.{Message}
use Rattle.model.specs.declared.CoordinatorRecord.{CoordinatorRecord}
use Rattle.model.specs.Choice.{is_zero}
use Rattle.model.specs.Refusals.{no_refusal}
use Rattle.model.specs.Limits.{value_count}
use Rattle.model.specs.Messages.{no_message}
use Rattle.model.specs.SiteMemory.{overwrite}
use Rattle.model.specs.Coordinator.{CoordinatorStep, fresh_coordinator}
use Rattle.model.specs.CoordinatorMemory.{coordinator_memory, coordinator_words, coordinator_memory_refusal}
use Rattle.model.proofs.Thresholds.RefusalLaws.{both_accepted, accepts, refuses}
use Rattle.model.proofs.Thresholds.TestedMemory.{length_tested, coordinator_tested}
use Rattle.coordinator_kinds.specs.declared.Answered.{Answered}
use Rattle.coordinator_kinds.specs.Steps.{answer_of}
use Rattle.coordinator_steps.specs.Ready.{StepAsks, AnnounceAsks}
use Rattle.coordinator.specs.Calls.{Reception, ReceivedSays, start_refusal, receive_refusal, announce_refusal}
use Rattle.coordinator_memory.proofs.ReadyLaws.{ready_of_consistent}

-- ---- The fresh coordinator in memory

-- A front of so many numbers that was filled with zeros.
pub front_filled : (front memory : List ℕ) (n words : ℕ)
    → front ≡ replicate (length (take n memory)) 0
    → n ≡ words
    → words ≤ length memory
    → front ++ drop n memory ≡ overwrite (replicate words 0) memory
front_filled front memory n words zeros is fits =
    rw (zeros, is, length-take-le words memory fits, length-replicate {A = ℕ} words 0)

-- The fresh coordinator is zeros alone.
pub fresh_memory : (before : List ℕ) (settings : Settings)
    → overwrite (replicate (coordinator_words settings) 0) before
    ≡ coordinator_memory (fresh_coordinator settings) before
fresh_memory before settings =
    ap (λ (l : List ℕ). overwrite l before)
    (sym (replicate-append-replicate settings.universe value_count 0))

-- ---- What an accepted call may hand to a step

pub start_long : (settings : Settings) (words : ℕ)
    → start_refusal settings words ≡ no_refusal
    → coordinator_words settings ≤ words
start_long settings words none =
    (length_tested settings (coordinator_words settings) words _ none).memory_long

pub step_asks : (settings : Settings) (numbers : CoordinatorRecord) (m : Message) (memory : List ℕ)
    → receive_refusal settings numbers m memory ≡ no_refusal
    → StepAsks settings numbers m memory
step_asks settings numbers m memory none =
    let rows = both_accepted (coordinator_memory_refusal settings numbers memory) _ none in
    let facts = coordinator_tested settings numbers memory rows.first_accepted in
    record {
      settings_accepted = facts.settings_accepted;
      memory_long = facts.memory_long;
      ready = ready_of_consistent settings numbers memory facts.memory_long
          facts.consistent;
      message_accepted = rows.later_accepted;
    }

pub announce_asks : (settings : Settings) (numbers : CoordinatorRecord) (memory : List ℕ)
    → announce_refusal settings numbers memory ≡ no_refusal
    → AnnounceAsks settings numbers
announce_asks settings numbers memory none =
    let rows = both_accepted (coordinator_memory_refusal settings numbers memory) _ none in
    let facts = coordinator_tested settings numbers memory rows.first_accepted in
    let ready = ready_of_consistent settings numbers memory facts.memory_long
    facts.consistent in
    record {
      settings_accepted = facts.settings_accepted;
      phase_sound = ready.sound.phase_sound;
    }

-- ---- What is handed back

module _ (refusal : ℕ) (given : CoordinatorStep) (numbers : CoordinatorRecord) where
  pub hands_refused : (r : Reception)
      → (refusal ≡ no_refusal → ⊥)
      → r.coordinator ≡ numbers
      → r.count ≡ 0
      → r.out ≡ no_message
      → ReceivedSays (is_zero refusal) given numbers r
  hands_refused r some coordinator count out = record {
    coordinator = coordinator ∙ refuses refusal _ _ some;
    count = count ∙ refuses refusal _ _ some;
    out = out ∙ refuses refusal _ _ some;
  }

  pub hands_accepted : (r : Reception) (answered : Answered)
      → refusal ≡ no_refusal
      → answered ≡ answer_of given
      → r.coordinator ≡ answered.coordinator
      → r.count ≡ answered.count
      → r.out ≡ answered.out
      → ReceivedSays (is_zero refusal) given numbers r
  hands_accepted r answered none is coordinator count out = record {
    coordinator =
        coordinator ∙ ap (λ (x : Answered). x.coordinator) is ∙ accepts refusal _ _ none;
    count = count ∙ ap (λ (x : Answered). x.count) is ∙ accepts refusal _ _ none;
    out = out ∙ ap (λ (x : Answered). x.out) is ∙ accepts refusal _ _ none;
  }
