-- Past the settings' test the words decide.
use mathlib.Core.Path.{refl}
use native.Mathlib.Omega.{arith}
use borrow.Author.Tests.{lt-ltb, le-ltb}
use Rattle.model.specs.CoordinatorMemory.{coordinator_words}
use Rattle.model.proofs.Thresholds.RefusalLaws.{begin, pass, pass_part, refuse, end, accepted_by}
use Rattle.model.proofs.BetweenArrivals.ReportLaws.{value_count_is}
use Rattle.coordinator.proofs.test_start.Goals as goal

pub returns-then-words-settings : goal.returns-then-words-settings
returns-then-words-settings c =
    refuse _ _ _ (pass_part _ _ (begin _) refl
    (accepted_by c.test_settings.ensures c.in_ok-test_settings.was)) refl
    (lt-ltb c.args.words (coordinator_words c.args.settings)
    (omega (arith, c.if-words-settings.true, value_count_is)))

pub returns : goal.returns
returns c =
    end (pass _ _ _ (pass_part _ _ (begin _) refl
    (accepted_by c.test_settings.ensures c.in_ok-test_settings.was)) refl
    (le-ltb c.args.words (coordinator_words c.args.settings)
    (omega (arith, c.if-words-settings.false, value_count_is)))) refl
