-- All of the first k counts pass their test.
use Rattle.std.specs.Prelude.{IsTrue, ◌↔◌}
use Prim.Native.Nat.{◌≤◌}
use mathlib.Core.Path.{◌≡◌}
use native.Mathlib.Omega.{arith}
use lib.ListN.{length, take}
use borrow.Author.Rules.{rules}
use Rattle.std.specs.List.{All}
use Rattle.model.specs.Limits.{message_limit}
use Rattle.model.proofs.Thresholds.SettingsLaws.{settled}
use Rattle.message_counts.proofs.CountsLaws.{all_within}
use Rattle.message_counts.proofs.counts_within.Goals as goal

pub returns : goal.returns
returns c =
    let a = c.args in
    let k = a.settings.sites in
    let all : length a.counts ≡ 32 = search rules in
    let told : IsTrue c.all.result ↔ All (λ n. n ≤ message_limit) (take k a.counts) =
    search rules in
    all_within k a.counts c.all.result
    (omega (arith, all, (settled a.settings c.requires).sites.at_most)) told
