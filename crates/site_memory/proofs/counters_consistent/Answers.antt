-- `site_memory::counters_consistent` meets its contract: the counters before place i are
-- consistent, so it is the one at place i that decides.
use mathlib.Core.Path.{◌∙◌, sym}
use borrow.Author.Rules.{rules}
use Rattle.model.specs.SiteMemory.{site_in}
use Rattle.site_memory.proofs.ConsistencyLaws.{passing_on, passing_fails}
use Rattle.site_memory.proofs.counters_consistent.Goals as goal

pub returns-then-not-counter_consistent : goal.returns-then-not-counter_consistent
returns-then-not-counter_consistent c =
    let a = c.args in
    let site = site_in a.settings a.site a.memory.now in
    passing_fails a.settings site a.memory.now a.used c.loop-i.i c.loop-i.invariant (search rules)
    (sym c.counter_consistent.ensures ∙ c.if-not-counter_consistent.true)

pub loop-i-preserved : goal.loop-i-preserved
loop-i-preserved c =
    let a = c.args in
    let site = site_in a.settings a.site a.memory.now in
    passing_on a.settings site a.memory.now a.used c.loop-i.i c.loop-i.invariant (search rules)
    (sym c.counter_consistent.ensures ∙ c.if-not-counter_consistent.false)
