-- `bench_memory::memory_short` meets its contract: the sites' memory, then the coordinator's.
use mathlib.Core.Path.{sym, ap, ◌∙◌}
use Prim.Native.Nat.{ℕ, ◌+◌, ◌*◌}
use native.Mathlib.Omega.{arith}
use lib.Dec.{ltb}
use Rattle.bench_memory.proofs.ShortLaws.{all_words, coordinator_short}
use Rattle.bench_memory.proofs.memory_short.Goals as goal

pub overflow_mul-all : goal.overflow_mul-all
overflow_mul-all c =
    let words = c.site_words in
    omega (arith, all_words c.args.settings words.result c.requires words.ensures)

pub returns-else-site_numbers-all : goal.returns-else-site_numbers-all
returns-else-site_numbers-all c =
    let a = c.args in
    let all = ap (λ (z : ℕ). a.settings.sites * z) c.site_words.ensures in
    record {
      too_short = λ sites coordinator sites_are coordinator_is.
          ap (λ (n : ℕ). ltb n (a.settings.universe + 1024)) (sym coordinator_is)
          ∙ coordinator_short a.settings sites coordinator
          (omega (arith, c.if-site_numbers-all.false, sites_are, all));
    }
