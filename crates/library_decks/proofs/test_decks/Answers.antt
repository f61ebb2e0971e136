-- The words of all decks are few where the settings pass.
use Prim.Native.Nat.{ℕ, ◌*◌}
use mathlib.Core.Path.{ap}
use native.Mathlib.Omega.{arith}
use Rattle.model.proofs.Thresholds.RefusalLaws.{accepted_by}
use Rattle.site_start.proofs.StartLaws.{words_fit}
use Rattle.library_decks.proofs.test_decks.Goals as goal

pub overflow_mul-settings : goal.overflow_mul-settings
overflow_mul-settings c =
    let settings = c.args.settings in
    omega (
      arith,
      ap (λ (n : ℕ). settings.sites * n) c.site_words.ensures,
      words_fit settings (accepted_by c.test_settings.ensures c.in_ok-test_settings.was),
    )
