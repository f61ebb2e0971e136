-- The step by phase and kind: what the function for a kind gives is what `coordinator_receives`
-- says.
--
--   does_item, does_count, does_poll, does_probe, does_nothing
use mathlib.Core.Path.{◌≡◌, sym, subst}
use mathlib.Core.List.{List, []}
use Prim.Native.Nat.{ℕ, ◌≤◌}
use borrow.Author.Tests.{ne_eqb}
use lib.ListN.{length}
use Rattle.model.specs.declared.Settings.{Settings}
use Rattle.model.specs.declared.Message.{Message}
use Rattle.model.specs.declared.Phase.TheVariants.{Idle, Collecting, Probing, Announcing}
use Rattle.model.specs.declared.CoordinatorRecord.{CoordinatorRecord}
use Rattle.model.specs.Coordinator.{Coordinator, CoordinatorStep, step, coordinator_receives, takes_item_report, takes_count_report, takes_poll_answer, takes_probe_answer}
use Rattle.model.specs.CoordinatorMemory.{coordinator_in, coordinator_words}
use Rattle.coordinator_kinds.specs.declared.Answered.{Answered}
use Rattle.coordinator_kinds.specs.Steps.{answer_of, KindSays}
use Rattle.coordinator_kinds.proofs.MemoryLaws.{memory_kept}
use Rattle.coordinator_steps.proofs.StepLaws.{poll_kept, probe_kept, memory_of_kept}

module _ (settings : Settings) (numbers : CoordinatorRecord) (m : Message) (before : List ℕ) where
  abbrev here : Coordinator
  here = coordinator_in settings numbers before

  -- What holds of a step that the message is, holds of what the coordinator does on receiving it.
  does_as : {given : CoordinatorStep} {after : List ℕ} {r : Answered}
      → coordinator_receives settings here m ≡ given
      → KindSays given before after r
      → KindSays (coordinator_receives settings here m) before after r
  does_as {given} {after} {r} same does =
      subst (λ (x : CoordinatorStep). KindSays x before after r) (sym same) does

  pub does_item : {after : List ℕ} {r : Answered}
      → numbers.phase ≡ Idle
      → m.kind ≡ 1
      → KindSays (takes_item_report here m) before after r
      → KindSays (coordinator_receives settings here m) before after r
  does_item idle is does = does_as (rw (idle, is)) does

  pub does_count : {after : List ℕ} {r : Answered}
      → numbers.phase ≡ Idle
      → (m.kind ≡ 1 → ⊥)
      → KindSays (takes_count_report settings here m) before after r
      → KindSays (coordinator_receives settings here m) before after r
  does_count idle other does = does_as (rw (idle, ne_eqb m.kind 1 other)) does

  module _ (long : coordinator_words settings ≤ length before) {r : Answered} where
    pub does_poll : (site : ℕ)
        → numbers.phase ≡ Collecting site
        → r ≡ answer_of (takes_poll_answer settings here site m)
        → KindSays (coordinator_receives settings here m) before before r
    does_poll site collecting answers =
        does_as {given = takes_poll_answer settings here site m} (rw collecting)
        (record {
          answer = answers;
          memory = memory_of_kept settings numbers before _ long (poll_kept settings here site m);
        })

    pub does_probe : (site low high total : ℕ)
        → numbers.phase ≡ Probing site low high total
        → r ≡ answer_of (takes_probe_answer settings here site low high total m)
        → KindSays (coordinator_receives settings here m) before before r
    does_probe site low high total probing answers =
        does_as {given = takes_probe_answer settings here site low high total m} (rw probing)
        (record {
          answer = answers;
          memory = memory_of_kept settings numbers before _ long
              (probe_kept settings here site low high total m);
        })

    pub does_nothing : (site : ℕ)
        → numbers.phase ≡ Announcing site
        → r ≡ answer_of (step here [])
        → KindSays (coordinator_receives settings here m) before before r
    does_nothing site announcing answers =
        does_as {given = step here []} (rw announcing)
        (record { answer = answers; memory = memory_kept settings numbers before long })
