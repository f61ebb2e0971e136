-- The sum so far is that of the words passed.
use mathlib.Core.Path.{◌≡◌, refl}
use Prim.Native.Nat.{◌+◌, ◌*◌, ◌≤◌, ◌<◌}
use native.Mathlib.Omega.{arith}
use lib.ListN.{take, drop}
use Rattle.checksum.specs.Sums.{sum_of}
use Rattle.checksum.specs.Rounds.{word_bytes}
use Rattle.checksum.proofs.SumLaws.{sum_take_add, part_within, add_byte_sum}
use Rattle.checksum.proofs.sum_words.Goals as goal
use Rattle.checksum.proofs.sum_words.Goals.{After-sum_block-block}

-- A block takes a round at least, and none that isn't left.
turns_within : (c : After-sum_block-block)
    → (0 < c.sum_block-block.result.turns)
    × (c.loop-passed.passed + c.sum_block-block.result.turns
    ≤ c.args.rounds)
turns_within c =
    let turns = c.sum_block-block.ensures.turns in
    let block = c.min.ensures in (
      omega (arith, turns, block),
      omega (arith, turns, block),
    )

-- 255 at most for each of a block's bytes, of which there are at most 2,048.
block_within : (c : After-sum_block-block) → c.sum_block-block.result.sum ≤ 522240
block_within c =
    let bytes = c.args.bytes.now in
    let lent = c.shared_slice_known-1.given in
    let asked = c.requires in
    let block = c.min.ensures in
    let place = word_bytes * c.loop-passed.passed in
    omega (
      arith,
      c.sum_block-block.ensures.sum,
      block,
      part_within (word_bytes * c.min.result) place bytes
          (λ i inside. omega (arith, lent i))
          (omega (arith, block, asked)),
    )

pub loop-passed-init : goal.loop-passed-init
loop-passed-init c = (refl, omega arith)

pub sum_block-block-requires : goal.sum_block-block-requires
sum_block-block-requires c =
    let asked = c.requires in
    record {
      inside = omega (arith, c.min.ensures, asked);
      lanes_hold = omega (arith, c.min.ensures);
    }

pub overflow_add-sum : goal.overflow_add-sum
overflow_add-sum c =
    let now = c.loop-passed in
    record {
      fits = omega (
        arith,
        block_within (goal.at.overflow_add-sum c).After-sum_block-block,
        now.invariant.0,
      );
    }

pub overflow_add-passed : goal.overflow_add-passed
overflow_add-passed c = record {
  fits = omega (
    arith,
    (turns_within (goal.at.overflow_add-passed c).After-sum_block-block).1,
  );
}

pub loop-passed-smaller : goal.loop-passed-smaller
loop-passed-smaller c =
    let turns = turns_within (goal.at.loop-passed-smaller c).After-sum_block-block in omega
    (arith, turns.0, turns.1)

pub loop-passed-preserved : goal.loop-passed-preserved
loop-passed-preserved c =
    let now = c.loop-passed in
    let bytes = c.args.bytes.now in
    let block = c.sum_block-block in
    let here = word_bytes * now.passed in
    let more = word_bytes * block.result.turns in
    let both : word_bytes * (now.passed + block.result.turns) ≡ here + more = omega arith in
    let sum : block.result.sum ≡ sum_of (take more (drop here bytes)) =
    rw block.ensures.turns block.ensures.sum in (
      rw (both, sum_take_add here more bytes, ← sum)
          (add_byte_sum now.sum (sum_of (take here bytes)) block.result.sum now.invariant.0),
      (turns_within (goal.at.loop-passed-preserved c).After-sum_block-block).1,
    )

pub returns : goal.returns
returns c =
    let now = c.loop-passed in
    let rounds = c.args.rounds in
    let all : now.passed ≡ rounds = omega arith in
    record { sum = rw (← all) now.invariant.0; turns = all }
