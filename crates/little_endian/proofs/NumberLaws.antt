-- Numbers as bytes: what is written is read back, and what is read is written again.
--
--   length_little_endian, length_numbers_bytes, length_numbers_in
--   read_of_written, written_of_read                   one number
--   numbers_read_of_written, numbers_written_of_read   numbers one after another
--   number_below                                       what bytes say fits so many bytes
--   number_in, numbers_drop, numbers_take              some of many numbers
--   Each, each_below                                   a list that is written out
--   all_below_cons, -append, -tail, -take, -drop       lists below a bound, and their parts
use mathlib.Core.Path.{◌≡◌, refl, ap, ◌∙◌, subst}
use mathlib.Core.List.{List, [], ◌∷◌, ◌++◌, append_assoc}
use Prim.Native.Nat.{ℕ, zero, suc, ◌+◌, ◌*◌, ◌/◌, ◌%◌, ◌^◌, ◌≤◌, ◌<◌}
use native.Mathlib.Nat.{pow-suc, div-lt_iff_lt-mul, mul-suc}
use native.Mathlib.Omega.{arith}
use lib.ListN.{length, get_or, take, drop, length-append, length-drop}
use lib.Seq.{take_at, drop_at, length-take-le, take-add, drop-drop, get_or-take, get_or-drop}
use Rattle.little_endian.specs.Numbers.{byte_range, little_endian, number_of, number_at, numbers_bytes, numbers_in, AllBelow}

-- ---- One number

pub length_little_endian : (width n : ℕ) → length (little_endian width n) ≡ width
length_little_endian zero n = refl
length_little_endian (suc width) n = ap suc (length_little_endian width (n / byte_range))

-- The lowest byte goes, and with it a factor.
rest_below : (width n : ℕ) → n < byte_range ^ suc width → n / byte_range < byte_range ^ width
rest_below width n below =
    (div-lt_iff_lt-mul {k = byte_range} (omega arith)).1 (rw pow-suc at below)

pub read_of_written : (width n : ℕ) → n < byte_range ^ width → number_of (little_endian width n) ≡ n
read_of_written zero n below = omega arith
read_of_written (suc width) n below =
    let rest : number_of (little_endian width (n / byte_range)) ≡ n / byte_range =
    read_of_written width (n / byte_range) (rest_below width n below) in
    omega arith

pub all_below_tail : {bound : ℕ} (x : ℕ) (xs : List ℕ)
    → AllBelow bound (x ∷ xs)
    → AllBelow bound xs
all_below_tail x xs below i inside = below (suc i) (omega arith)

pub written_of_read : (bytes : List ℕ)
    → AllBelow byte_range bytes
    → little_endian (length bytes) (number_of bytes) ≡ bytes
written_of_read [] below = refl
written_of_read (byte ∷ bytes) below =
    let small : byte < byte_range = below 0 (omega arith) in
    let low : (byte + byte_range * number_of bytes) % byte_range ≡ byte = omega arith in
    let high : (byte + byte_range * number_of bytes) / byte_range ≡ number_of bytes = omega arith in
    rw (low, high)
    (ap (λ (l : List ℕ). byte ∷ l)
    (written_of_read bytes (all_below_tail byte bytes below)))

pub number_below : (bytes : List ℕ)
    → AllBelow byte_range bytes
    → number_of bytes < byte_range ^ length bytes
number_below [] below = omega arith
number_below (byte ∷ bytes) below =
    let small : byte < byte_range = below 0 (omega arith) in
    let rest : number_of bytes < byte_range ^ length bytes =
    number_below bytes (all_below_tail byte bytes below) in
    rw pow-suc (omega arith)

-- ---- Parts of a list that is below a bound

-- Element by element, for lists that are written out.
abbrev pub Each : ℕ → List ℕ → Type 0
Each bound [] = Unit
Each bound (x ∷ xs) = (x < bound) × Each bound xs

module _ {bound : ℕ} where
  pub all_below_take : (count : ℕ) (xs : List ℕ)
      → count ≤ length xs
      → AllBelow bound xs
      → AllBelow bound (take count xs)
  all_below_take count xs fits below i inside =
      let length_is = length-take-le count xs fits in
      rw (get_or-take count xs i 0 (omega arith)) (below i (omega arith))

  pub all_below_drop : (count : ℕ) (xs : List ℕ)
      → AllBelow bound xs
      → AllBelow bound (drop count xs)
  all_below_drop count xs below i inside =
      rw get_or-drop (below (count + i) (omega (arith, length-drop count xs)))

  pub all_below_cons : (x : ℕ) (xs : List ℕ)
      → x < bound
      → AllBelow bound xs
      → AllBelow bound (x ∷ xs)
  all_below_cons x xs first others zero inside = first
  all_below_cons x xs first others (suc i) inside = others i (omega arith)

  pub each_below : (xs : List ℕ) → Each bound xs → AllBelow bound xs
  each_below [] each = λ i inside. absurd (omega arith)
  each_below (x ∷ xs) each = all_below_cons x xs each.0 (each_below xs each.1)

  pub all_below_append : (xs ys : List ℕ)
      → AllBelow bound xs
      → AllBelow bound ys
      → AllBelow bound (xs ++ ys)
  all_below_append [] ys first second = second
  all_below_append (x ∷ xs) ys first second =
      all_below_cons x (xs ++ ys) (first 0 (omega arith))
      (all_below_append xs ys (all_below_tail x xs first) second)

-- ---- Many numbers

pub length_numbers_bytes : (width : ℕ) (numbers : List ℕ)
    → length (numbers_bytes width numbers) ≡ width * length numbers
length_numbers_bytes width [] = omega arith
length_numbers_bytes width (n ∷ numbers) =
    simp (length-append, length_little_endian, length_numbers_bytes width numbers, mul-suc)
    (omega arith)

pub length_numbers_in : (width count : ℕ) (bytes : List ℕ)
    → length (numbers_in width count bytes) ≡ count
length_numbers_in width zero bytes = refl
length_numbers_in width (suc count) bytes =
    ap suc (length_numbers_in width count (drop width bytes))

-- Numbers that fit are read back, whatever follows them.
pub numbers_read_of_written : (width : ℕ) (numbers rest : List ℕ)
    → AllBelow (byte_range ^ width) numbers
    → numbers_in width (length numbers) (numbers_bytes width numbers ++ rest) ≡ numbers
numbers_read_of_written width [] rest below = refl
numbers_read_of_written width (n ∷ numbers) rest below =
    let bytes = little_endian width n in
    let more = numbers_bytes width numbers ++ rest in
    let front : take width (bytes ++ more) ≡ bytes =
    take_at bytes more width (length_little_endian width n) in
    let back : drop width (bytes ++ more) ≡ more =
    drop_at bytes more width (length_little_endian width n) in
    rw (append_assoc, front, back, read_of_written width n (below 0 (omega arith)))
    (ap (λ (l : List ℕ). n ∷ l)
    (numbers_read_of_written width numbers rest (all_below_tail n numbers below)))

-- Bytes are written again as they were read.
pub numbers_written_of_read : (width count : ℕ) (bytes : List ℕ)
    → AllBelow byte_range bytes
    → width * count ≤ length bytes
    → numbers_bytes width (numbers_in width count bytes) ≡ take (width * count) bytes
numbers_written_of_read width zero bytes below fits =
    let none : width * 0 ≡ 0 = omega arith in rw none
numbers_written_of_read width (suc count) bytes below fits =
    let more : width * suc count ≡ width + width * count = omega arith in
    let front : width ≤ length bytes = omega arith in
    let long : length (take width bytes) ≡ width = length-take-le width bytes front in
    let first : little_endian width (number_of (take width bytes)) ≡ take width bytes =
    subst (λ (w : ℕ). little_endian w (number_of (take width bytes)) ≡ take width bytes) long
    (written_of_read (take width bytes) (all_below_take width bytes front below)) in
    let rest =
    numbers_written_of_read width count (drop width bytes) (all_below_drop width bytes below)
    (omega (arith, length-drop width bytes)) in
    rw (more, take-add, first, rest)

-- ---- Some of many numbers

-- One of them, by its place.
pub number_in : (width count i : ℕ) (bytes : List ℕ)
    → i < count
    → get_or (numbers_in width count bytes) i 0 ≡ number_at width (width * i) bytes
number_in width zero i bytes inside = absurd (omega arith)
number_in width (suc count) zero bytes inside =
    let none : width * 0 ≡ 0 = omega arith in rw none
number_in width (suc count) (suc i) bytes inside =
    let next : width + width * i ≡ width * suc i = omega arith in
    number_in width count i (drop width bytes) (omega arith)
    ∙ ap (λ (l : List ℕ). number_of (take width l)) (drop-drop (width * i) width bytes)
    ∙ ap (λ (n : ℕ). number_at width n bytes) next

-- Those behind the first n.
pub numbers_drop : (width n m : ℕ) (bytes : List ℕ)
    → drop n (numbers_in width (n + m) bytes) ≡ numbers_in width m (drop (width * n) bytes)
numbers_drop width zero m bytes =
    let none : width * 0 ≡ 0 = omega arith in
    let all : 0 + m ≡ m = omega arith in rw (none, all)
numbers_drop width (suc n) m bytes =
    let next : width + width * n ≡ width * suc n = omega arith in
    let count : suc n + m ≡ suc (n + m) = omega arith in
    rw count
    (numbers_drop width n m (drop width bytes)
    ∙ ap (numbers_in width m) (drop-drop (width * n) width bytes)
    ∙ ap (λ (k : ℕ). numbers_in width m (drop k bytes)) next)

-- The first n.
pub numbers_take : (width n m : ℕ) (bytes : List ℕ)
    → take n (numbers_in width (n + m) bytes) ≡ numbers_in width n bytes
numbers_take width zero m bytes = refl
numbers_take width (suc n) m bytes =
    let count : suc n + m ≡ suc (n + m) = omega arith in
    rw count
    (ap (λ (l : List ℕ). number_of (take width bytes) ∷ l)
    (numbers_take width n m (drop width bytes)))
