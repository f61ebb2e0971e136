-- `single_steps::deliver` meets its contract: the loop keeps what holds between two calls.
use mathlib.Core.Path.{sym, ◌∙◌}
use native.Mathlib.Omega.{arith}
use Rattle.single_steps.specs.Progress.{progress_outcome}
use Rattle.single_steps.proofs.DeliverLaws.{due_facts, positive, going_start, going_on}
use Rattle.single_steps.proofs.deliver.Goals as goal

pub loop-settings-init : goal.loop-settings-init
loop-settings-init c = going_start c.requires.few c.requires.not_refused

pub overflow_sub-progress : goal.overflow_sub-progress
overflow_sub-progress c =
    let due =
    due_facts (progress_outcome c.loop-settings.progress)
    (sym c.call_due.ensures ∙ c.loop-settings-test.true) in
    positive c.loop-settings.progress.left due.some_left

pub take_step-progress-requires : goal.take_step-progress-requires
take_step-progress-requires c =
    let due =
    due_facts (progress_outcome c.loop-settings.progress)
    (sym c.call_due.ensures ∙ c.loop-settings-test.true) in (
      c.requires.fits,
      record {
        not_refused = due.not_refused;
        few_carried =
            omega (
              arith,
              c.requires.few_carried,
              c.loop-settings.invariant.few_carried,
              positive c.loop-settings.progress.left due.some_left,
            );
        few = c.loop-settings.invariant.few;
        announces = due.announces;
      },
    )

pub loop-settings-smaller : goal.loop-settings-smaller
loop-settings-smaller c =
    let due =
    due_facts (progress_outcome c.loop-settings.progress)
    (sym c.call_due.ensures ∙ c.loop-settings-test.true) in
    omega (
      arith,
      positive c.loop-settings.progress.left due.some_left,
      c.take_step-progress.ensures.left_is,
    )

pub loop-settings-preserved : goal.loop-settings-preserved
loop-settings-preserved c =
    let due =
    due_facts (progress_outcome c.loop-settings.progress)
    (sym c.call_due.ensures ∙ c.loop-settings-test.true) in
    going_on due c.loop-settings.invariant c.take_step-progress.auto.coordinator_memory
    c.take_step-progress.ensures

pub shape_of-coordinator_memory : goal.shape_of-coordinator_memory
shape_of-coordinator_memory c = c.loop-settings.invariant.same_length

pub returns : goal.returns
returns c =
    record {
      none_due = sym c.call_due.ensures ∙ c.loop-settings-test.false;
      comes = c.loop-settings.invariant.comes;
    }
