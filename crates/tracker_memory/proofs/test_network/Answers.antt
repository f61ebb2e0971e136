-- `tracker_memory::test_network` meets its contract: what is tested of a network fits.
use mathlib.Core.Path.{refl, sym, ◌∙◌}
use Rattle.model.proofs.Thresholds.RefusalLaws.{accepted_by}
use Rattle.bench_memory.proofs.BenchLaws.{fits_of_long}
use Rattle.tracker_memory.proofs.test_network.Goals as goal

pub network_consistent-requires : goal.network_consistent-requires
network_consistent-requires c =
    let a = c.args in
    fits_of_long a.settings a.site_memory.now a.coordinator_memory.now
    (accepted_by c.test_settings.ensures c.in_ok-test_settings.was)
    (sym (c.memory_short.ensures.too_short a.site_memory.now a.coordinator_memory.now refl refl)
    ∙ c.if-memory_short.false)
