-- Request N4's instances, in one table: how many rounds and single bytes the sum of a file takes,
-- and what the lanes hold at their edges. The theorem `sum-instances` of proofs/Sums.antt proves
-- them all.
--
--   one_to_eight  the word of the bytes 1 to 8
--   most_lanes    the lanes of a word of eight bytes that are all 255
use Rattle.std.specs.Prelude.{◌≡◌, [], ◌∷◌, ℕ, ◌+◌, ◌-◌, ◌*◌, ◌/◌, ◌^◌, replicate}
use Rattle.model.specs.Instances.{settings_a}
use Rattle.little_endian.specs.Numbers.{number_of}
use Rattle.checksum_lanes.specs.Fields.{field_sum, lower_halves}
use Rattle.checksum.specs.Sums.{byte_sum}
use Rattle.checksum.specs.Rounds.{most_rounds, rounds_of, singles_of}
use Rattle.snapshot_file.specs.Layout.{sum_bytes, file_length}
use Rattle.snapshot_examples.specs.Instances.{full_settings}

abbrev pub one_to_eight : ℕ
one_to_eight = number_of (1 ∷ 2 ∷ 3 ∷ 4 ∷ 5 ∷ 6 ∷ 7 ∷ 8 ∷ [])

abbrev pub most_lanes : ℕ
most_lanes = 0x00ff_00ff_00ff_00ff

pub record SumInstances : Type 0 where
  -- "A full bench: 2,200,338 bytes, 275,042 rounds and 2 single bytes", and 31 counts more (N5), of
  -- a round each
  pub full_summed : file_length full_settings - sum_bytes ≡ 2200586
  pub full_rounds : rounds_of 2200586 ≡ 275073
  pub full_singles : singles_of 2200586 ≡ 2
  -- a bench under settings A: 12,632 bytes less the sum
  pub a_rounds : rounds_of (file_length settings_a - sum_bytes) ≡ 1578
  pub a_singles : singles_of (file_length settings_a - sum_bytes) ≡ 6
  -- no bytes; the most without a word; the fewest with one
  pub none_rounds : rounds_of 0 ≡ 0
  pub none_singles : singles_of 0 ≡ 0
  pub seven_rounds : rounds_of 7 ≡ 0
  pub seven_singles : singles_of 7 ≡ 7
  pub eight_rounds : rounds_of 8 ≡ 1
  pub eight_singles : singles_of 8 ≡ 0
  -- a word, its lanes (1, 3, 5, 7 and 2, 4, 6, 8), and their sums
  pub word_is : one_to_eight ≡ 0x0807_0605_0403_0201
  pub word_lower : lower_halves 8 4 one_to_eight ≡ 0x0007_0005_0003_0001
  pub word_upper : lower_halves 8 4 (one_to_eight / 2 ^ 8) ≡ 0x0008_0006_0004_0002
  pub lower_sum : field_sum 16 4 0x0007_0005_0003_0001 ≡ 16
  pub upper_sum : field_sum 16 4 0x0008_0006_0004_0002 ≡ 20
  -- "at most 2040": each lane is 255
  pub most_lower : lower_halves 8 4 (2 ^ 64 - 1) ≡ most_lanes
  pub most_upper : lower_halves 8 4 ((2 ^ 64 - 1) / 2 ^ 8) ≡ most_lanes
  pub most_sum : field_sum 16 4 most_lanes + field_sum 16 4 most_lanes ≡ 2040
  -- 256 such words bring each lane to 65,280, 257 to 65,535; with one more they would run over
  pub block_sum : field_sum 16 4 (most_rounds * most_lanes) ≡ 4 * 65280
  pub last_room : field_sum 16 4 (257 * most_lanes) ≡ 4 * 65535
  pub run_over : field_sum 16 4 (258 * most_lanes) ≡ 1019
  -- "modulo 65,536": 257 bytes of 255, and 258
  pub last_below : byte_sum (replicate 257 255) ≡ 65535
  pub first_above : byte_sum (replicate 258 255) ≡ 254
