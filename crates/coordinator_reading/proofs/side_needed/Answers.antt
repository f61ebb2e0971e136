-- 2p - e is at most 2000, so that the product fits 64 bits.
use native.Mathlib.Nat.{mul-le-mul}
use native.Mathlib.Omega.{arith}
use Prim.Native.Nat.{◌*◌, ◌-◌, ◌≤◌}
use Rattle.coordinator_reading.proofs.side_needed.Goals as goal

pub overflow_mul-result : goal.overflow_mul-result
overflow_mul-result c =
    let settings = c.args.settings in
    let share : 2 * settings.phi - settings.epsilon ≤ 2000 = omega
    (arith, c.requires.phi_small) in
    omega (arith, mul-le-mul share c.requires.total_within)
