-- A desk that accepts the wish for a kind 7 hands out one: `one_of`.
use Prim.Native.Nat.{ℕ}
use mathlib.Core.Path.{◌≡◌, refl, sym, ◌∙◌}
use mathlib.Core.Bool.{not}
use mathlib.Core.List.{List}
use native.Mathlib.Omega.{arith}
use lib.ListN.{length}
use Rattle.model.specs.declared.Settings.{Settings}
use Rattle.model.specs.declared.Phase.{Phase}
use Rattle.model.specs.declared.Phase.TheVariants.{Idle, Collecting, Probing, Announcing}
use Rattle.model.specs.declared.CoordinatorRecord.{CoordinatorRecord}
use Rattle.model.specs.Refusals.{when, no_refusal, message_not_due}
use Rattle.model.specs.Coordinator.{Coordinator, is_announcing, announced_in, announced}
use Rattle.model.specs.CoordinatorMemory.{coordinator_in, coordinator_memory_refusal}
use Rattle.model.proofs.Thresholds.RefusalLaws.{both_accepted, accepts}
use Rattle.coordinator.specs.Calls.{Reception, announce_refusal, AnnounceSays}

one_message : (settings : Settings) (c : Coordinator) (phase : Phase)
    → when (not (is_announcing phase)) message_not_due ≡ no_refusal
    → length (announced_in settings c phase).messages ≡ 1
one_message settings c Idle none = absurd (omega (arith, none))
one_message settings c (Collecting site) none = absurd (omega (arith, none))
one_message settings c (Probing site low high sum) none = absurd (omega (arith, none))
one_message settings c (Announcing site) none = refl

pub one_of : (settings : Settings) (numbers : CoordinatorRecord) (memory : List ℕ) (r : Reception)
    → AnnounceSays settings numbers memory r
    → r.refusal ≡ no_refusal
    → r.count ≡ 1
one_of settings numbers memory r says accepted =
    let none : announce_refusal settings numbers memory ≡ no_refusal =
    sym says.refusal ∙ accepted in
    let rows = both_accepted (coordinator_memory_refusal settings numbers memory) _ none in
    let c = coordinator_in settings numbers memory in
    says.answer.count
    ∙ sym (accepts (announce_refusal settings numbers memory)
    (length (announced settings c).messages) 0 none)
    ∙ one_message settings c c.phase rows.later_accepted
