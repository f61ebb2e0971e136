-- `tracker_memory::network_consistent` meets its contract: what every network must meet, and that
-- it is at rest.
use mathlib.Core.Path.{sym, ◌∙◌}
use Rattle.tracker_memory.proofs.NetworkLaws.{rest_decides, bench_counts}
use Rattle.tracker_memory.proofs.network_consistent.Goals as goal

pub at_rest-requires : goal.at_rest-requires
at_rest-requires c =
    let a = c.args in
    bench_counts a.settings a.sites a.coordinator a.site_memory.now
    a.coordinator_memory.now c.requires.sites_fit
    (sym c.bench_consistent.ensures ∙ c.if-bench_consistent.true)

pub returns-then-bench_consistent : goal.returns-then-bench_consistent
returns-then-bench_consistent c =
    let a = c.args in
    c.at_rest.ensures.at_rest a.site_memory.now a.coordinator_memory.now
    ∙ rest_decides a.settings a.sites a.coordinator a.site_memory.now
    a.coordinator_memory.now
    (sym c.bench_consistent.ensures ∙ c.if-bench_consistent.true)
