-- The walk stops at the first count above the limit: no count before j is.
use mathlib.Core.Path.{◌≡◌, ◌∙◌, subst}
use Prim.Native.Nat.{ℕ, ◌≤◌, ◌<◌}
use native.Mathlib.Omega.{arith}
use Rattle.model.specs.Limits.{message_limit}
use Rattle.model.specs.MessageCounts.{count_at}
use Rattle.message_counts.proofs.CountsLaws.{counts_start, counts_on, counts_fail, counts_end}
use Rattle.snapshot_file.specs.Reading.{held_in}
use Rattle.snapshot_refusal.proofs.BenchLaws.{count_held}
use Rattle.snapshot_refusal.proofs.counts_within.Goals as goal
use Rattle.snapshot_refusal.proofs.counts_within.Goals.{After-messages_in, In-loop-j}

-- Within the loop j is a deck.
known : (c : In-loop-j)
    → c.loop-j.j < c.args.settings.sites
known c = omega (arith, c.loop-j-test.true)

-- The count that was read is the bench's.
count_is : (c : After-messages_in)
    →
    let a = c.args in
    c.messages_in.result
    ≡ count_at (held_in a.settings a.file.now).sites.messages c.loop-j.j
count_is c =
    let a = c.args in
    c.messages_in.ensures
    ∙ count_held a.settings a.file.now c.loop-j.j ((omega (arith, c.loop-j-test.true)))

pub loop-j-init : goal.loop-j-init
loop-j-init c = counts_start _ _

pub messages_in-requires : goal.messages_in-requires
messages_in-requires c =
    record { whole = c.requires; known = omega (arith, known c) }

pub returns-then-messages_in-gt-MESSAGE_LIMIT : goal.returns-then-messages_in-gt-MESSAGE_LIMIT
returns-then-messages_in-gt-MESSAGE_LIMIT c =
    let a = c.args in
    counts_fail a.settings.sites (held_in a.settings a.file.now).sites.messages
    c.loop-j.j (known (goal.at.returns-then-messages_in-gt-MESSAGE_LIMIT c).In-loop-j)
    (subst (λ (n : ℕ). message_limit < n) (count_is
    (goal.at.returns-then-messages_in-gt-MESSAGE_LIMIT c).After-messages_in)
    c.if-messages_in-gt-MESSAGE_LIMIT.true)

pub loop-j-preserved : goal.loop-j-preserved
loop-j-preserved c =
    let a = c.args in
    counts_on a.settings.sites (held_in a.settings a.file.now).sites.messages
    c.loop-j.j (known (goal.at.loop-j-preserved c).In-loop-j) c.loop-j.invariant
    (subst (λ (n : ℕ). n ≤ message_limit) (count_is (goal.at.loop-j-preserved c).After-messages_in)
    c.if-messages_in-gt-MESSAGE_LIMIT.false)

pub returns : goal.returns
returns c =
    let a = c.args in
    counts_end a.settings.sites (held_in a.settings a.file.now).sites.messages
    c.loop-j.j c.loop-j.invariant (omega (arith, c.loop-j-test.false))
