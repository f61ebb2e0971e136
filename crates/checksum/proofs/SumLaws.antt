-- Laws of the sum of bytes.
--
--   sum_append            the sum of two runs of bytes
--   sum_take_more         one byte more
--   sum_take_add          some bytes more
--   sum_split             the bytes before a place, and those from it on
--   sum_within            each byte adds 255 at most
--   part_within           the same of a part
--   add_byte_sum          a sum added modulo 65,536, at a turn of a loop
use mathlib.Core.Path.{◌≡◌, sym, ap, ◌∙◌}
use mathlib.Core.List.{List, [], ◌∷◌, ◌++◌}
use Prim.Native.Nat.{ℕ, ◌+◌, ◌*◌, ◌%◌, ◌≤◌, ◌<◌}
use native.Mathlib.Nat.{mod-add-mod}
use native.Mathlib.Numerals.{add-one}
use native.Mathlib.Omega.{arith}
use lib.ListN.{length, get_or, take, drop, length-drop, take-append-drop}
use lib.Seq.{take-suc, take-add, length-take-le}
use Rattle.little_endian.specs.Numbers.{byte_range, AllBelow}
use Rattle.little_endian.proofs.NumberLaws.{all_below_tail, all_below_take, all_below_drop}
use Rattle.checksum.specs.Sums.{sum_range, sum_of}

pub sum_append : (xs ys : List ℕ) → sum_of (xs ++ ys) ≡ sum_of xs + sum_of ys
sum_append [] ys = omega arith
sum_append (x ∷ xs) ys = omega (arith, sum_append xs ys)

pub sum_take_more : (i : ℕ) (xs : List ℕ)
    → i < length xs
    → sum_of (take (i + 1) xs) ≡ sum_of (take i xs) + get_or xs i 0
sum_take_more i xs inside =
    rw (add-one, take-suc xs i 0 inside, sum_append) (omega arith)

pub sum_take_add : (n m : ℕ) (xs : List ℕ)
    → sum_of (take (n + m) xs) ≡ sum_of (take n xs) + sum_of (take m (drop n xs))
sum_take_add n m xs = rw (take-add, sum_append)

pub sum_split : (n : ℕ) (xs : List ℕ) → sum_of xs ≡ sum_of (take n xs) + sum_of (drop n xs)
sum_split n xs = ap sum_of (sym (take-append-drop n xs)) ∙ sum_append (take n xs) (drop n xs)

pub sum_within : (xs : List ℕ) → AllBelow byte_range xs → sum_of xs ≤ 255 * length xs
sum_within [] below = omega arith
sum_within (x ∷ xs) below =
    let small : x < byte_range = below 0 (omega arith) in
    let rest : sum_of xs ≤ 255 * length xs = sum_within xs (all_below_tail x xs below) in
    omega arith

pub part_within : (n place : ℕ) (xs : List ℕ)
    → AllBelow byte_range xs
    → place + n ≤ length xs
    → sum_of (take n (drop place xs)) ≤ 255 * n
part_within n place xs below fits =
    let rest = drop place xs in
    let long : n ≤ length rest = omega (arith, length-drop place xs) in
    let rest_below = all_below_take n rest long (all_below_drop place xs below) in
    omega (arith, length-take-le n rest long, sum_within (take n rest) rest_below)

pub add_byte_sum : (x y z : ℕ) → x ≡ y % sum_range → (x + z) % sum_range ≡ (y + z) % sum_range
add_byte_sum x y z x-is = rw x-is (mod-add-mod y sum_range z)
