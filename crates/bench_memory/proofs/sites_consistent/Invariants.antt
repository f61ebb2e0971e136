-- `bench_memory::sites_consistent` meets its contract. The invariant: the sites before j are
-- consistent.
use Rattle.bench_memory.proofs.SitesLaws.{Passing}
use Rattle.bench_memory.proofs.sites_consistent.Given as goal

abbrev pub invariant-loop-j : goal.invariant-loop-j
invariant-loop-j l = Passing l.settings.sites l.settings l.sites.records l.memory l.j
