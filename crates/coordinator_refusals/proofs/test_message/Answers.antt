-- 5 first, then 9, 6, 7, 10.
use mathlib.Core.Path.{refl}
use native.Mathlib.Omega.{arith}
use borrow.Author.Tests.{lt-leb}
use Rattle.model.proofs.Thresholds.RefusalLaws.{begin, pass, end}
use Rattle.coordinator_refusals.proofs.test_message.Goals as goal

pub returns : goal.returns
returns c memory =
    end (pass _ _ _ (begin _) refl (lt-leb c.args.settings.sites c.args.message.site
    (omega (arith, c.if-settings-message.false))))
    (c.test_due.ensures memory)
