-- `site::observe` meets its contract: refused, it changes nothing.
use Rattle.site.proofs.CallLaws.{observe_refused}
use Rattle.site.proofs.observe.Goals as goal

pub returns-in_err-test_observe : goal.returns-in_err-test_observe
returns-in_err-test_observe c =
    let a = c.args in
    observe_refused a.settings a.site a.arrival a.memory.now _ c.from_residual.result
    c.from_residual.ensures.1 c.in_err-test_observe.ensures
