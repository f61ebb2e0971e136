-- `site_search::least_counter` meets its contract. The loop's invariant: the scan goes on from
-- place i with the best place so far.
use mathlib.Core.Path.{sym, ◌∙◌}
use borrow.Author.Rules.{rules}
use Rattle.site_search.proofs.Search.{least_start, least_end, least_new, least_old}
use Rattle.site_search.proofs.least_counter.Goals as goal
use Rattle.site_search.proofs.least_counter.Goals.{then-is_before, else-is_before}

pub loop-i-init : goal.loop-i-init
loop-i-init c = least_start c.args.memory.now c.args.used

pub loop-i-preserved : goal.loop-i-preserved
loop-i-preserved c =
    let a = c.args in
    let memory = c.args.memory.now in
    let i = c.loop-i.i in
    let best = c.loop-i.best in
    let scanning = c.loop-i.invariant in
    let order = sym c.is_before.ensures in
    elim c.if-is_before.branch [
      | then-is_before w ↦
          rw w.best-is
          (least_new memory a.used i best scanning (search rules) (order ∙ w.if-is_before.true))
      | else-is_before w ↦
          rw w.best-is
          (least_old memory a.used i best scanning (search rules) (order ∙ w.if-is_before.false))
    ]

pub returns : goal.returns
returns c =
    let a = c.args in
    least_end a.memory.now a.used c.loop-i.i c.loop-i.best
    c.loop-i.invariant (search rules)
