-- The walk stops at the first number above the limit; until then the numbers left decide.
use mathlib.Core.Path.{sym, subst}
use Prim.Native.Nat.{ℕ, ◌≤◌, ◌<◌}
use native.Mathlib.Omega.{arith}
use Rattle.model.specs.Limits.{coordinator_limit}
use Rattle.coordinator_memory.proofs.NumberLaws.{checked_start, checked_on, checked_off, checked_end}
use Rattle.snapshot_desk.specs.Desk.{numbers_from}
use Rattle.snapshot_desk.proofs.DeskLaws.{numbers_long, number_there}
use Rattle.snapshot_desk.proofs.numbers_within.Goals as goal

pub loop-i-init : goal.loop-i-init
loop-i-init c =
    let a = c.args in
    checked_start coordinator_limit (numbers_from a.file.now a.from a.count)

pub returns-then-read_fixed-gt-COORDINATOR_LIMIT : goal.returns-then-read_fixed-gt-COORDINATOR_LIMIT
returns-then-read_fixed-gt-COORDINATOR_LIMIT c =
    let a = c.args in
    let file = c.args.file.now in
    let i = c.loop-i.i in
    let inside = c.loop-i-test.true in
    let number = number_there file a.from a.count i _ inside
    c.read_fixed.ensures.0 in
    sym (checked_off coordinator_limit (numbers_from file a.from a.count) i
    c.loop-i.invariant
    (omega (arith, inside, numbers_long file a.from a.count))
    (subst (λ (n : ℕ). coordinator_limit < n) number c.if-read_fixed-gt-COORDINATOR_LIMIT.true))

pub loop-i-preserved : goal.loop-i-preserved
loop-i-preserved c =
    let a = c.args in
    let file = c.args.file.now in
    let i = c.loop-i.i in
    let inside = c.loop-i-test.true in
    let number = number_there file a.from a.count i _ inside
    c.read_fixed.ensures.0 in
    checked_on coordinator_limit (numbers_from file a.from a.count) i c.loop-i.invariant
    (omega (arith, inside, numbers_long file a.from a.count))
    (subst (λ (n : ℕ). n ≤ coordinator_limit) number
    c.if-read_fixed-gt-COORDINATOR_LIMIT.false)

pub returns : goal.returns
returns c =
    let a = c.args in
    let file = c.args.file.now in
    sym (checked_end coordinator_limit (numbers_from file a.from a.count) c.loop-i.i
    c.loop-i.invariant
    (omega (arith, c.loop-i-test.false, numbers_long file a.from a.count)))
