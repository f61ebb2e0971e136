-- `site_start::start_sites` meets its contract: the memory of all sites is a number of 8 bytes.
use Prim.Native.Nat.{ℕ, ◌*◌}
use mathlib.Core.Path.{ap}
use native.Mathlib.Omega.{arith}
use Rattle.model.proofs.Thresholds.RefusalLaws.{accepted_by}
use Rattle.site_start.proofs.StartLaws.{words_fit}
use Rattle.site_start.proofs.start_sites.Goals as goal

pub overflow_mul-words : goal.overflow_mul-words
overflow_mul-words c =
    let a = c.args in
    omega (
      arith,
      ap (λ (n : ℕ). a.settings.sites * n) c.site_words.ensures,
      words_fit a.settings (accepted_by c.test_settings.ensures c.in_ok-test_settings.was),
    )
