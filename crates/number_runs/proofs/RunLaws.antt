-- Numbers written and read one after another, at the turns of the loops, over the width.
--
--   WrittenTo, written_none, written_next, written_all      the first numbers stand written
--   ReadTo, read_none, read_next, read_all                  the first numbers are read
use mathlib.Core.Path.{◌≡◌, refl, sym, ap, ◌∙◌}
use mathlib.Core.List.{List, [], ◌∷◌, ◌++◌, append_assoc, append-nil}
use Prim.Native.Nat.{ℕ, zero, suc, ◌+◌, ◌*◌, ◌≤◌, ◌<◌}
use native.Mathlib.Nat.{mul-le-mul_left}
use native.Mathlib.Numerals.{add-one}
use native.Mathlib.Omega.{arith}
use lib.ListN.{length, get_or, take, drop, set, length-set, drop_of_length-le}
use lib.Seq.{take-suc, take_all, drop-drop, drop-cons, set_at, append_snoc, length-take-le}
use Rattle.laws.specs.Writing.{written_at}
use Rattle.laws.proofs.Writing.{written_append, written_nothing}
use Rattle.little_endian.specs.Numbers.{little_endian, number_of, number_at, numbers_bytes, numbers_in}
use Rattle.little_endian.proofs.NumberLaws.{length_little_endian, length_numbers_bytes, length_numbers_in}

bytes_more : (width : ℕ) (xs : List ℕ) (n : ℕ)
    → numbers_bytes width (xs ++ (n ∷ [])) ≡ numbers_bytes width xs ++ little_endian width n
bytes_more width [] n = append-nil (little_endian width n)
bytes_more width (x ∷ xs) n =
    rw (bytes_more width xs n, append_assoc)

-- One number more, right after those written.
numbers_written_more : (width place i : ℕ) (numbers bytes : List ℕ)
    → i < length numbers
    → place + width * length numbers ≤ length bytes
    → written_at (place + width * i) (little_endian width (get_or numbers i 0))
    (written_at place (numbers_bytes width (take i numbers)) bytes)
    ≡ written_at place (numbers_bytes width (take (i + 1) numbers)) bytes
numbers_written_more width place i numbers bytes inside fits =
    let front = numbers_bytes width (take i numbers) in
    let next = little_endian width (get_or numbers i 0) in
    let long : length front ≡ width * i =
    length_numbers_bytes width (take i numbers)
    ∙ ap (λ (n : ℕ). width * n) (length-take-le i numbers (omega arith)) in
    let some : suc i ≤ length numbers = omega arith in
    let room : place + length front + length next ≤ length bytes =
    omega (
      arith,
      long,
      length_little_endian width (get_or numbers i 0),
      mul-le-mul_left width some,
    ) in
    rw (
      ← long,
      written_append place front next bytes room,
      add-one,
      take-suc numbers i 0 inside,
      bytes_more,
    )

-- The first numbers stand written from a place on, and the rest of the bytes as they were.
abbrev pub WrittenTo : ℕ → ℕ → List ℕ → List ℕ → List ℕ → ℕ → Type 0
WrittenTo width place numbers bytes₀ bytes i =
    (i ≤ length numbers)
    × (length bytes ≡ length bytes₀)
    × (bytes ≡ written_at place (numbers_bytes width (take i numbers)) bytes₀)

module _ (width place : ℕ) (numbers bytes₀ : List ℕ) where
  pub written_none : WrittenTo width place numbers bytes₀ bytes₀ 0
  written_none = (omega arith, refl, sym (written_nothing place bytes₀))

  -- A turn: `after` is what the number's bytes make of `bytes`.
  pub written_next : (i : ℕ) (bytes after : List ℕ)
      → WrittenTo width place numbers bytes₀ bytes i
      → i < length numbers
      → place + width * length numbers ≤ length bytes₀
      → length after ≡ length bytes
      → after ≡ written_at (place + width * i) (little_endian width (get_or numbers i 0)) bytes
      → WrittenTo width place numbers bytes₀ after (i + 1)
  written_next i bytes after so_far inside fits kept written = (
    omega arith,
    kept ∙ so_far.1,
    written
        ∙ ap (written_at (place + width * i) (little_endian width (get_or numbers i 0))) so_far.2
        ∙ numbers_written_more width place i numbers bytes₀ inside fits,
  )

  pub written_all : (i : ℕ) (bytes : List ℕ)
      → WrittenTo width place numbers bytes₀ bytes i
      → length numbers ≤ i
      → bytes ≡ written_at place (numbers_bytes width numbers) bytes₀
  written_all i bytes so_far all = rw (take_all i numbers all) at so_far.2

-- One number more, right after those read.
read_more : (width count : ℕ) (bytes : List ℕ)
    → numbers_in width (suc count) bytes
    ≡ numbers_in width count bytes ++ (number_of (take width (drop (width * count) bytes)) ∷ [])
read_more width zero bytes =
    let none : width * 0 ≡ 0 = omega arith in rw none
read_more width (suc count) bytes =
    let more : width * suc count ≡ width + width * count = omega arith in
    rw (more, ← drop-drop (width * count) width bytes)
    (ap (λ (l : List ℕ). number_of (take width bytes) ∷ l)
    (read_more width count (drop width bytes)))

numbers_read_more : (width place i n : ℕ) (bytes numbers : List ℕ)
    → i < length numbers
    → n ≡ number_at width (place + width * i) bytes
    → set (numbers_in width i (drop place bytes) ++ drop i numbers) i n
    ≡ numbers_in width (i + 1) (drop place bytes) ++ drop (i + 1) numbers
numbers_read_more width place i n bytes numbers inside n-is =
    let front = numbers_in width i (drop place bytes) in
    let rest = drop (suc i) numbers in
    rw (drop-cons numbers i 0 inside, add-one)
    (set_at front (get_or numbers i 0) rest n i (length_numbers_in width i (drop place bytes))
    ∙ sym (append_snoc front n rest)
    ∙ ap (λ (m : ℕ). front ++ (m ∷ []) ++ rest)
    (n-is ∙ ap (λ (l : List ℕ). number_of (take width l)) (sym (drop-drop (width * i) place bytes)))
    ∙ ap (λ (l : List ℕ). l ++ rest) (sym (read_more width i (drop place bytes))))

-- The first numbers are read from a place on, and the rest of the memory as it was.
abbrev pub ReadTo : ℕ → ℕ → List ℕ → List ℕ → List ℕ → ℕ → Type 0
ReadTo width place bytes numbers₀ numbers i =
    (i ≤ length numbers)
    × (length numbers ≡ length numbers₀)
    × (numbers ≡ numbers_in width i (drop place bytes) ++ drop i numbers₀)

module _ (width place : ℕ) (bytes numbers₀ : List ℕ) where
  pub read_none : ReadTo width place bytes numbers₀ numbers₀ 0
  read_none = (omega arith, refl, refl)

  pub read_next : (i n : ℕ) (numbers : List ℕ)
      → ReadTo width place bytes numbers₀ numbers i
      → i < length numbers
      → n ≡ number_at width (place + width * i) bytes
      → ReadTo width place bytes numbers₀ (set numbers i n) (i + 1)
  read_next i n numbers so_far inside n-is = (
    simp length-set (omega arith),
    simp length-set so_far.1,
    rw so_far.2
        (numbers_read_more width place i n bytes numbers₀ (omega (arith, so_far.1, inside)) n-is),
  )

  pub read_all : (i : ℕ) (numbers : List ℕ)
      → ReadTo width place bytes numbers₀ numbers i
      → length numbers ≤ i
      → numbers ≡ numbers_in width (length numbers₀) (drop place bytes)
  read_all i numbers so_far all =
      let whole : i ≡ length numbers₀ = omega (arith, so_far.0, so_far.1, all) in
      let none : drop i numbers₀ ≡ [] = drop_of_length-le numbers₀ {i = i} (omega arith) in
      so_far.2
      ∙ ap (λ (l : List ℕ). numbers_in width i (drop place bytes) ++ l) none
      ∙ append-nil _
      ∙ ap (λ (n : ℕ). numbers_in width n (drop place bytes)) whole
