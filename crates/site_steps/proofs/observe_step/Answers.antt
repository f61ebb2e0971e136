-- `site_steps::observe_step` meets its contract: the arrival stored, and the messages gathered.
use native.Mathlib.Omega.{arith}
use Rattle.site_steps.proofs.StoreLaws.{dropped_small, observed_step}
use Rattle.site_steps.proofs.observe_step.Goals as goal

pub overflow_add-after-2 : goal.overflow_add-after-2
overflow_add-after-2 c =
    let a = c.args in
    omega (
      arith,
      c.store_arrival-stored.ensures.gone_is,
      dropped_small a.settings a.site a.arrival a.memory.now c.requires,
    )

pub shape_of-memory : goal.shape_of-memory
shape_of-memory c =
    c.store_arrival-stored.auto.memory

pub returns : goal.returns
returns c =
    let a = c.args in
    let stored = c.store_arrival-stored in
    observed_step a.settings a.site a.arrival a.memory.now stored.new.memory
    stored.result stored.ensures
    c.pending_after.result c.value_reported-value.result
    c.pending_after.ensures c.value_reported-value.ensures
    c.item_report_of-item_report.result c.count_report_of-count_report.result
    c.gather.result
    c.item_report_of-item_report.ensures c.count_report_of-count_report.ensures
    (rw (← c.then_some.ensures, ← c.then_some-2.ensures) c.gather.ensures)
