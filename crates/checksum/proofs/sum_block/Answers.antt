-- The lanes so far have the sum of the bytes passed, 255 at most in each for each word; each
-- round is counted.
use mathlib.Core.Path.{◌≡◌, refl, ◌∙◌}
use Prim.Native.Nat.{◌+◌, ◌*◌, ◌/◌, ◌<◌}
use native.Mathlib.Omega.{arith}
use lib.ListN.{take, drop}
use Rattle.little_endian.specs.Numbers.{byte_range}
use Rattle.checksum_lanes.specs.Fields.{lower_halves}
use Rattle.checksum.specs.Sums.{sum_of}
use Rattle.checksum.specs.Rounds.{word_bytes, most_added}
use Rattle.checksum.proofs.LaneLaws.{lane_range, Lanes, no_lanes, fields_fit, lanes_at, one_word_more}
use Rattle.checksum.proofs.sum_block.Goals as goal
use Rattle.checksum.proofs.sum_block.Goals.{After-lower_bytes-lower}

-- A word more is within what a lane holds: at most 256 are taken.
room : (c : After-lower_bytes-lower)
    → most_added * (c.loop-round.round + 1) < lane_range
room c =
    let asked = c.requires in
    omega (arith, asked.lanes_hold)

-- The lanes with those of the word that was read.
lanes_after : (c : After-lower_bytes-lower)
    → Lanes 4 (c.loop-round.lower + c.lower_bytes-lower.result)
    (c.loop-round.upper
    + lower_halves 8 4 (c.read_fixed-word.result / byte_range))
    (most_added * (c.loop-round.round + 1))
    (sum_of
    (take (word_bytes * (c.loop-round.round + 1))
    (drop c.args.first
    c.args.bytes.now)))
lanes_after c =
    let start = c.args in
    let lent = c.shared_slice_known-1.given in
    let asked = c.requires in
    let now = c.loop-round in
    let bytes = c.args.bytes.now in
    let place = start.first + word_bytes * now.round in
    one_word_more bytes start.first now.round (room c) now.invariant.0
    (rw (c.lower_bytes-lower.ensures, c.read_fixed-word.ensures.0)
    (lanes_at bytes place (omega (arith, asked.inside)) (λ i inside. omega (arith, lent i))))

pub loop-round-init : goal.loop-round-init
loop-round-init c = (no_lanes 4, refl)

pub overflow_add-lower : goal.overflow_add-lower
overflow_add-lower c = record { fits = fields_fit _ _ (room c) (lanes_after c).lower_within }

pub overflow_add-upper : goal.overflow_add-upper
overflow_add-upper c =
    let within = (lanes_after (goal.at.overflow_add-upper c).After-lower_bytes-lower).upper_within
    in
    record {
      fits = rw c.upper_bytes-upper.ensures
          (fields_fit _ _ (room (goal.at.overflow_add-upper c).After-lower_bytes-lower) within);
    }

pub loop-round-preserved : goal.loop-round-preserved
loop-round-preserved c = (
  rw c.upper_bytes-upper.ensures
      (lanes_after (goal.at.loop-round-preserved c).After-lower_bytes-lower),
  omega (arith, c.loop-round.invariant.1),
)

-- Each of eight lanes is below 65,536.
pub overflow_add-result : goal.overflow_add-result
overflow_add-result c = record { fits = omega (arith, c.lane_sum.ensures, c.lane_sum-2.ensures) }

pub returns : goal.returns
returns c =
    let now = c.loop-round in
    let rounds = c.args.rounds in
    let all : now.round ≡ rounds = omega arith in
    record {
      sum =
          rw (c.lane_sum.ensures, c.lane_sum-2.ensures, ← all)
          now.invariant.0.total_is;
      turns = now.invariant.1 ∙ all;
    }
