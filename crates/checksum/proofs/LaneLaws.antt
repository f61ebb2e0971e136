-- Sums in lanes: words of 64 bits whose fields of 16 bits are sums of bytes.
--
--   lane_range                 how many numbers a lane can be
--   FieldsAdded, add_fields    two words of lanes added, no lane of which runs over
--   fields_fit                 four lanes are a number of 64 bits
--   Lanes                      two words of lanes: each lane within a bound, and the total of all
--   no_lanes, add_lanes        nothing summed, and two such sums added
--   byte_lanes                 the bytes of a word: the lower and the upper one of each lane
--   lanes_at                   the same of the word at a place
--   one_word_more              the lanes of some words, and of one word more
use mathlib.Core.Path.{◌≡◌, refl}
use mathlib.Core.List.{List, [], ◌∷◌}
use Prim.Native.Nat.{ℕ, zero, suc, ◌+◌, ◌*◌, ◌/◌, ◌%◌, ◌^◌, ◌≤◌, ◌<◌}
use native.Mathlib.Omega.{arith}
use lib.ListN.{length, take, drop, length-drop}
use lib.Seq.{length-take-le, drop-drop}
use Rattle.little_endian.specs.Numbers.{byte_range, number_of, number_at, AllBelow}
use Rattle.little_endian.proofs.NumberLaws.{all_below_tail, all_below_take, all_below_drop}
use Rattle.checksum_lanes.specs.Fields.{field_sum, lower_halves, FieldsWithin}
use Rattle.checksum.specs.Sums.{sum_of}
use Rattle.checksum.specs.Rounds.{word_bytes, most_added}
use Rattle.checksum.proofs.SumLaws.{sum_take_add}

-- ---- One word of lanes

abbrev pub lane_range : ℕ
lane_range = 65536

pub record FieldsAdded (count x y bound : ℕ) : Type 0 where
  pub within : FieldsWithin 16 bound count (x + y)
  pub sum_is : field_sum 16 count (x + y) ≡ field_sum 16 count x + field_sum 16 count y

-- Lane by lane from the lowest: none is above 65,535, so nothing is carried.
pub add_fields : (count x y m n : ℕ)
    → m + n < lane_range
    → FieldsWithin 16 m count x
    → FieldsWithin 16 n count y
    → FieldsAdded count x y (m + n)
add_fields zero x y m n room p q = record { within = omega (arith, p, q); sum_is = refl }
add_fields (suc count) x y m n room p q =
    let lowest : x % lane_range + y % lane_range < lane_range = omega (arith, p.0, q.0) in
    let low : (x + y) % lane_range ≡ x % lane_range + y % lane_range = omega arith in
    let high : (x + y) / lane_range ≡ x / lane_range + y / lane_range = omega arith in
    let rest = add_fields count (x / lane_range) (y / lane_range) m n room p.1 q.1 in
    record {
      within = (rw low (omega (arith, p.0, q.0)), rw high rest.within);
      sum_is = rw (low, high) (omega (arith, rest.sum_is));
    }

pub fields_fit : (word bound : ℕ) → bound < lane_range → FieldsWithin 16 bound 4 word → word < 2 ^
    64
fields_fit word bound room p = omega (arith, p.0, p.1.0, p.1.1.0, p.1.1.1)

-- ---- Two words of lanes

pub record Lanes (count lower upper bound total : ℕ) : Type 0 where
  pub lower_within : FieldsWithin 16 bound count lower
  pub upper_within : FieldsWithin 16 bound count upper
  pub total_is : field_sum 16 count lower + field_sum 16 count upper ≡ total

pub no_lanes : (count : ℕ) → Lanes count 0 0 0 0
no_lanes zero = record { lower_within = refl; upper_within = refl; total_is = refl }
no_lanes (suc count) =
    let rest = no_lanes count in
    record {
      lower_within = (omega arith, rest.lower_within);
      upper_within = (omega arith, rest.upper_within);
      total_is = omega (arith, rest.total_is);
    }

pub add_lanes : {x y u v m n s t : ℕ} (count : ℕ)
    → m + n < lane_range
    → Lanes count x u m s
    → Lanes count y v n t
    → Lanes count (x + y) (u + v) (m + n) (s + t)
add_lanes {x} {y} {u} {v} {m} {n} count room p q =
    let lower = add_fields count x y m n room p.lower_within q.lower_within in
    let upper = add_fields count u v m n room p.upper_within q.upper_within in
    record {
      lower_within = lower.within;
      upper_within = upper.within;
      total_is =
          omega (arith, lower.sum_is, upper.sum_is, p.total_is, q.total_is);
    }

-- ---- The lanes of bytes

lowest_byte : (byte rest : ℕ) → byte < byte_range → (byte + byte_range * rest) % byte_range ≡ byte
lowest_byte byte rest small = omega arith

-- Two bytes in the lowest lanes, and so on above.
pub byte_lanes : (count : ℕ) (bytes : List ℕ)
    → length bytes ≡ count + count
    → AllBelow byte_range bytes
    → Lanes count (lower_halves 8 count (number_of bytes))
    (lower_halves 8 count (number_of bytes / byte_range)) most_added (sum_of bytes)
byte_lanes zero [] long below =
    record { lower_within = refl; upper_within = refl; total_is = refl }
byte_lanes zero (x ∷ bytes) long below = absurd (omega arith)
byte_lanes (suc count) [] long below = absurd (omega arith)
byte_lanes (suc count) (x ∷ []) long below = absurd (omega arith)
byte_lanes (suc count) (x ∷ (y ∷ bytes)) long below =
    let x-small : x < byte_range = below 0 (omega arith) in
    let y-small : y < byte_range = below 1 (omega arith) in
    let n = number_of bytes in
    let word : ℕ = x + byte_range * (y + byte_range * n) in
    let first : word % byte_range ≡ x = lowest_byte x (y + byte_range * n) x-small in
    let above : word / lane_range ≡ n = omega arith in
    let behind : word / byte_range ≡ y + byte_range * n = omega arith in
    let second : word / byte_range % byte_range ≡ y = rw behind (lowest_byte y n y-small) in
    let above-behind : word / byte_range / lane_range ≡ n / byte_range = rw behind (omega arith) in
    let rest =
    byte_lanes count bytes (omega arith)
    (all_below_tail y bytes (all_below_tail x (y ∷ bytes) below)) in
    let lowers = lower_halves 8 count n in
    let uppers = lower_halves 8 count (n / byte_range) in
    let low : (lowers * lane_range + x) % lane_range ≡ x = omega arith in
    let low-rest : (lowers * lane_range + x) / lane_range ≡ lowers = omega arith in
    let up : (uppers * lane_range + y) % lane_range ≡ y = omega arith in
    let up_rest : (uppers * lane_range + y) / lane_range ≡ uppers = omega arith in
    record {
      lower_within = rw (first, above, low, low-rest) (omega arith, rest.lower_within);
      upper_within = rw (second, above-behind, up, up_rest) (omega arith, rest.upper_within);
      total_is =
          rw (first, above, low, low-rest, second, above-behind, up, up_rest)
          (omega (arith, rest.total_is));
    }

pub lanes_at : (bytes : List ℕ) (place : ℕ)
    → place + word_bytes ≤ length bytes
    → AllBelow byte_range bytes
    → Lanes 4 (lower_halves 8 4 (number_at word_bytes place bytes))
    (lower_halves 8 4 (number_at word_bytes place bytes / byte_range)) most_added
    (sum_of (take word_bytes (drop place bytes)))
lanes_at bytes place fits below =
    let rest = drop place bytes in
    let long : word_bytes ≤ length rest = omega (arith, length-drop place bytes) in
    byte_lanes 4 (take word_bytes rest) (length-take-le word_bytes rest long)
    (all_below_take word_bytes rest long (all_below_drop place bytes below))

pub one_word_more : {lower upper x y : ℕ} (bytes : List ℕ) (first i : ℕ)
    → most_added * (i + 1) < lane_range
    → Lanes 4 lower upper (most_added * i) (sum_of (take (word_bytes * i) (drop first bytes)))
    → Lanes 4 x y most_added (sum_of (take word_bytes (drop (first + word_bytes * i) bytes)))
    → Lanes 4 (lower + x) (upper + y) (most_added * (i + 1))
    (sum_of (take (word_bytes * (i + 1)) (drop first bytes)))
one_word_more bytes first i room some one =
    let bound : most_added * (i + 1) ≡ most_added * i + most_added = omega arith in
    let size : word_bytes * (i + 1) ≡ word_bytes * i + word_bytes = omega arith in
    rw (bound, size, sum_take_add (word_bytes * i) word_bytes (drop first bytes), drop-drop)
    (add_lanes 4 (omega arith) some one)
