-- The four lanes one by one, as they are defined.
use native.Mathlib.Omega.{arith}
use Rattle.checksum_lanes.proofs.lane_sum.Goals as goal

pub returns : goal.returns
returns c = omega arith
