-- Turns of the loops that write and read one number, and numbers of four and eight bytes.
--
--   written_cons       the first byte of a run written, and then the rest of the run
--   written_step       the same for the bytes of a number, at a turn of the writing loop
--   number_cons        the number from a place on, by its first byte and the rest
--   number_step        the same at a turn of the reading loop
--   room_for_byte      a number of fewer than eight bytes has room for one more
--   number_four, number_eight     the number by its bytes, and by its halves
--   eight_halves       the bytes of eight by those of its halves
--   take_little_endian, std_bytes, part_written     a number of a fixed width, as std writes it
--   held_number                                     the same as std reads it
use Rattle.std.specs.Int.{w64, to_le_bytes, from_le_bytes}
use mathlib.Core.Path.{◌≡◌, refl, sym, ap, ◌∙◌}
use mathlib.Core.List.{List, [], ◌∷◌, ◌++◌, append_assoc}
use Prim.Native.Nat.{ℕ, zero, suc, ◌+◌, ◌-◌, ◌*◌, ◌/◌, ◌%◌, ◌^◌, ◌≤◌, ◌<◌}
use native.Mathlib.Nat.{pow-le-pow_right, pow-suc}
use native.Mathlib.Numerals.{add-one}
use native.Mathlib.Omega.{arith}
use lib.ListN.{length, get_or, set, take, drop, replicate, length-append, length-drop, length-replicate}
use lib.Seq.{drop-cons, drop-drop, take_all}
use Rattle.laws.specs.Writing.{written_at}
use Rattle.laws.proofs.Writing.{put_one, written_append}
use Rattle.little_endian.specs.Numbers.{byte_range, little_endian, number_of, number_at}
use Rattle.little_endian.proofs.NumberLaws.{length_little_endian}

pub written_cons : (place byte : ℕ) (written bytes : List ℕ)
    → place + suc (length written) ≤ length bytes
    → written_at (place + 1) written (set bytes place byte)
    ≡ written_at place (byte ∷ written) bytes
written_cons place byte written bytes fits =
    ap (written_at (place + 1) written) (put_one place byte bytes _ (omega arith) refl).out
    ∙ written_append place (byte ∷ []) written bytes (omega arith)

pub written_step : (place width i rest : ℕ) (bytes : List ℕ)
    → i < width
    → place + width ≤ length bytes
    → written_at (place + (i + 1)) (little_endian (width - (i + 1)) (rest / byte_range))
    (set bytes (place + i) (rest % byte_range))
    ≡ written_at (place + i) (little_endian (width - i) rest) bytes
written_step place width i rest bytes within fits =
    let left : width - i ≡ suc (width - (i + 1)) = omega arith in
    let next : place + (i + 1) ≡ place + i + 1 = omega arith in
    let more = little_endian (width - (i + 1)) (rest / byte_range) in
    let long = length_little_endian (width - (i + 1)) (rest / byte_range) in
    rw (left, next) (written_cons (place + i) (rest % byte_range) more bytes (omega arith))

pub number_cons : (width place : ℕ) (bytes : List ℕ)
    → place < length bytes
    → number_at (suc width) place bytes
    ≡ get_or bytes place 0 + byte_range * number_at width (place + 1) bytes
number_cons width place bytes inside =
    rw (drop-cons bytes place 0 inside, add-one place)

pub room_for_byte : (width n byte : ℕ)
    → n < byte_range ^ width
    → width < 8
    → byte < byte_range
    → n * byte_range + byte < 2 ^ 64
room_for_byte width n byte below few small =
    let seven : width ≤ 7 = omega arith in
    let most : byte_range ^ width ≤ byte_range ^ 7 =
    pow-le-pow_right {n = byte_range} (omega arith) seven in
    omega arith

module _ (place width i n byte : ℕ) (bytes : List ℕ)
    (positive : 0 < i)
    (within : i ≤ width)
    (small : byte < byte_range) where
  more_is : width - (i - 1) ≡ suc (width - i)
  more_is = omega arith

  pub number_step : place + width ≤ length bytes
      → n ≡ number_at (width - i) (place + i) bytes
      → byte ≡ get_or bytes (place + (i - 1)) 0
      → n * byte_range + byte ≡ number_at (width - (i - 1)) (place + (i - 1)) bytes
  number_step fits n-is byte-is =
      let next : place + (i - 1) + 1 ≡ place + i = omega arith in
      let here : place + (i - 1) < length bytes = omega arith in
      rw (more_is, number_cons (width - i) (place + (i - 1)) bytes here, next, ← n-is, ← byte-is)
      (omega arith)

  pub number_step_below : n < byte_range ^ (width - i)
      → n * byte_range + byte < byte_range ^ (width - (i - 1))
  number_step_below below = rw (more_is, pow-suc) (omega arith)

-- Byte by byte, and by halves.
pub number_four : (place : ℕ) (bytes : List ℕ)
    → place + 4 ≤ length bytes
    → number_at 4 place bytes
    ≡ get_or bytes place 0 + get_or bytes (place + 1) 0 * 256 + get_or bytes (place + 2) 0 * 65536
    + get_or bytes (place + 3) 0 * 16777216
number_four place bytes fits =
    let second : place + 1 + 1 ≡ place + 2 = omega arith in
    let third : place + 2 + 1 ≡ place + 3 = omega arith in
    rw (
      number_cons 3 place bytes (omega arith),
      number_cons 2 (place + 1) bytes (omega arith),
      second,
      number_cons 1 (place + 2) bytes (omega arith),
      third,
      number_cons 0 (place + 3) bytes (omega arith),
    )
    (omega arith)

pub number_eight : (place : ℕ) (bytes : List ℕ)
    → place + 8 ≤ length bytes
    → number_at 8 place bytes
    ≡ number_at 4 place bytes + number_at 4 (place + 4) bytes * 4294967296
number_eight place bytes fits =
    let second : place + 1 + 1 ≡ place + 2 = omega arith in
    let third : place + 2 + 1 ≡ place + 3 = omega arith in
    let fourth : place + 3 + 1 ≡ place + 4 = omega arith in
    rw (
      number_four place bytes (omega arith),
      number_cons 7 place bytes (omega arith),
      number_cons 6 (place + 1) bytes (omega arith),
      second,
      number_cons 5 (place + 2) bytes (omega arith),
      third,
      number_cons 4 (place + 3) bytes (omega arith),
      fourth,
    )
    (omega arith)

-- The eight bytes of a number are those of its two halves.
pub eight_halves : (n : ℕ)
    → little_endian 4 n ++ little_endian 4 (n / 4294967296) ≡ little_endian 8 n
eight_halves n =
    let high : n / 4294967296 ≡ n / 256 / 256 / 256 / 256 = omega arith in
    ap (λ (h : ℕ). little_endian 4 n ++ little_endian 4 h) high

-- ---- Numbers of a fixed width, by std's eight bytes

-- The lowest bytes of a number are the first of all its bytes.
pub take_little_endian : (width all n : ℕ)
    → width ≤ all
    → take width (little_endian all n) ≡ little_endian width n
take_little_endian zero all n few = refl
take_little_endian (suc width) zero n few = absurd (omega arith)
take_little_endian (suc width) (suc all) n few =
    ap (λ (l : List ℕ). n % byte_range ∷ l)
    (take_little_endian width all (n / byte_range) (omega arith))

pub std_bytes : (n : ℕ) → to_le_bytes w64 n ≡ little_endian 8 n
std_bytes n =
    let two : n / 65536 ≡ n / 256 / 256 = omega arith in
    let three : n / 16777216 ≡ n / 256 / 256 / 256 = omega arith in
    let four : n / 4294967296 ≡ n / 256 / 256 / 256 / 256 = omega arith in
    let five : n / 1099511627776 ≡ n / 256 / 256 / 256 / 256 / 256 = omega arith in
    let six : n / 281474976710656 ≡ n / 256 / 256 / 256 / 256 / 256 / 256 = omega arith in
    let seven : n / 72057594037927936 ≡ n / 256 / 256 / 256 / 256 / 256 / 256 / 256 = omega arith in
    λ i. n % 256
    ∷ (n / 256 % 256
    ∷ (two i % 256
    ∷ (three i % 256 ∷ (four i % 256 ∷ (five i % 256 ∷ (six i % 256 ∷ (seven i % 256 ∷ [])))))))

-- A part of the bytes overwritten, as std says it.
pub part_written : (place width : ℕ) (piece bytes : List ℕ)
    → length piece ≡ width
    → take place bytes ++ (piece ++ drop (place + width - place) (drop place bytes))
    ≡ written_at place piece bytes
part_written place width piece bytes long =
    let all : place + width - place ≡ length piece = omega arith in
    ap (λ (n : ℕ). take place bytes ++ (piece ++ drop n (drop place bytes))) all
    ∙ ap (λ (l : List ℕ). take place bytes ++ (piece ++ l)) (drop-drop (length piece) place bytes)
    ∙ sym (append_assoc (take place bytes) piece (drop (place + length piece) bytes))

-- Zeros behind add nothing to what bytes say.
zeros_say : (k n : ℕ) → number_of (drop k (replicate n 0)) ≡ 0
zeros_say zero zero = refl
zeros_say zero (suc n) = omega (arith, zeros_say zero n)
zeros_say (suc k) zero = refl
zeros_say (suc k) (suc n) = zeros_say k n

number_ends : (bytes behind : List ℕ)
    → number_of behind ≡ 0
    → number_of (bytes ++ behind) ≡ number_of bytes
number_ends [] behind none = none
number_ends (byte ∷ bytes) behind none =
    ap (λ (n : ℕ). byte + byte_range * n) (number_ends bytes behind none)

std_number : (bytes : List ℕ) → length bytes ≡ 8 → from_le_bytes w64 bytes ≡ number_of bytes
std_number bytes long =
    let low = number_four 0 bytes (omega arith) in
    let high = number_four 4 bytes (omega arith) in
    let both = number_eight 0 bytes (omega arith) in
    omega (arith, low, high, both, ap number_of (take_all 8 bytes (omega arith)))

-- Some bytes held in eight.
pub held_number : (width : ℕ) (bytes : List ℕ)
    → length bytes ≡ width
    → width ≤ 8
    → from_le_bytes w64 (bytes ++ drop width (replicate 8 0)) ≡ number_of bytes
held_number width bytes long few =
    let eight : length (bytes ++ drop width (replicate 8 0)) ≡ 8 =
    omega (
      arith,
      long,
      length-append bytes (drop width (replicate 8 0)),
      length-drop {A = ℕ} width (replicate 8 0),
      length-replicate {A = ℕ} 8 0,
    ) in
    std_number _ eight ∙ number_ends bytes _ (zeros_say width 8)
