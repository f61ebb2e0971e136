-- The words' bytes and the rest are all bytes.
use Prim.Native.Nat.{◌*◌, ◌/◌}
use native.Mathlib.Omega.{arith}
use lib.ListN.{length, take, drop, length-drop}
use Rattle.little_endian.proofs.NumberLaws.{all_below_drop}
use Rattle.checksum.specs.Sums.{sum_of}
use Rattle.checksum.specs.Rounds.{word_bytes}
use Rattle.checksum.proofs.SumLaws.{sum_split, sum_within, add_byte_sum}
use Rattle.checksum.proofs.sum_taken.Goals as goal

-- Fewer than eight bytes are left.
pub sum_rest-rest-requires : goal.sum_rest-rest-requires
sum_rest-rest-requires c = record { inside = omega arith; few = omega arith }

-- A sum modulo 65,536, and 255 at most for each of seven bytes.
pub overflow_add-result : goal.overflow_add-result
overflow_add-result c =
    let bytes = c.args.bytes.now in
    let lent = c.shared_slice_known-1.given in
    let place = word_bytes * (length bytes / word_bytes) in
    record {
      fits =
          omega (
            arith,
            c.sum_words-words.ensures.sum,
            c.sum_rest-rest.ensures.sum,
            length-drop place bytes,
            sum_within (drop place bytes)
                (all_below_drop place bytes (λ i inside. omega (arith, lent i))),
          );
    }

pub returns : goal.returns
returns c =
    let words = c.sum_words-words in
    let rest = c.sum_rest-rest in
    let bytes = c.args.bytes.now in
    let place = word_bytes * (length bytes / word_bytes) in
    record {
      sum =
          rw (sum_split place bytes, ← rest.ensures.sum)
          (add_byte_sum words.result.sum (sum_of (take place bytes)) rest.result.sum
          words.ensures.sum);
      rounds = words.ensures.turns;
      singles = omega (arith, rest.ensures.turns);
      few = omega (arith, rest.ensures.turns);
    }
