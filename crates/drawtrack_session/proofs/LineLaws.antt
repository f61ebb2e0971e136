-- A line of the worklist, by what it is: the call `advance` does what its definition says.
--
--   line_draw, line_malformed, line_end     the three answers
use mathlib.Core.Path.{◌≡◌, sym, ◌∙◌, subst}
use mathlib.Core.Bool.{true, false, false≢true}
use mathlib.Core.List.{List, []}
use Prim.Native.Nat.{ℕ}
use borrow.Author.Tests.{eq-eqb, ne_eqb}
use Rattle.model.specs.Refusals.{no_refusal}
use Rattle.worklist_reader.specs.Walk.{Step}
use Rattle.drawtrack_steps.specs.declared.Session.{Session}
use Rattle.drawtrack_steps.specs.declared.Moved.{Moved}
use Rattle.drawtrack_steps.specs.Outcome.{Buffers, buffers, with_out, with_list, RefuseSays}
use Rattle.drawtrack_steps.specs.Steps.{DrawSays, FinishSays}
use Rattle.drawtrack_session.specs.Advance.{SessionLineSays}

-- `read` is the step that was read, and `step` the one that the definition gives.
module _ (session : Session) (read step : Step) (is : read ≡ step) (given : Buffers) (moved : Moved)
  where
    same_says : (left : Buffers) → SessionLineSays session read given left moved
        → SessionLineSays session step given left moved
    same_says left = subst (λ (found : Step). SessionLineSays session found given left moved) is

    pub line_draw : (site_after coordinator_after logAfter after : List ℕ)
        → read.found ≡ true
        → DrawSays session read (with_list given [])
        (buffers site_after coordinator_after logAfter [] after) moved
        → SessionLineSays session step given
        (buffers site_after coordinator_after logAfter given.list after) moved
    line_draw site_after coordinator_after logAfter after found draw = same_says _ (record {
      is = draw.is given.list ∙ sym (rw found);
      few_bytes = λ _. draw.few_bytes;
    })

    pub line_malformed : (after : List ℕ)
        → read.found ≡ false
        → (read.refusal ≡ no_refusal → ⊥)
        → RefuseSays session read.refusal given.out after moved
        → SessionLineSays session step given (with_out given after) moved
    line_malformed after none refused refuses = same_says _ (record {
      is = refuses.is given ∙ sym (rw (none, ne_eqb read.refusal 0 refused));
      few_bytes = λ found. absurd (false≢true (sym none ∙ found));
    })

    pub line_end : (listAfter after : List ℕ)
        → read.found ≡ false
        → read.refusal ≡ no_refusal
        → FinishSays session given.coordinator_memory given.list given.out listAfter after
        moved
        → SessionLineSays session step given
        (buffers given.site_memory given.coordinator_memory given.log listAfter after) moved
    line_end listAfter after none fine ends = same_says _ (record {
      is =
          ends.is given.site_memory given.log
          ∙ sym (rw (none, eq-eqb read.refusal 0 fine));
      few_bytes = λ found. absurd (false≢true (sym none ∙ found));
    })
