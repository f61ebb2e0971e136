-- Laws of a memory of two parts, n numbers and k after them, and what lies past them: one number of
-- a part set and both parts written over the memory, and the parts read back.
--
--   overwritten_kept            both parts as they are: the memory as it is
--   overwritten_set_first       a number of the first part set: that number of the memory set
--   overwritten_set_second      the same for the second part
--   first_written, second_written   the parts of a memory that two parts were written over
use mathlib.Core.Path.{◌≡◌, refl, ap, sym, ◌∙◌}
use mathlib.Core.List.{List, ◌++◌, append_assoc}
use Prim.Native.Nat.{ℕ, ◌+◌, ◌≤◌, ◌<◌}
use native.Mathlib.Omega.{arith}
use lib.ListN.{length, set, take, drop}
use lib.Seq.{set-append_left, length-take-le, take-add, take_at, drop_at}
use Rattle.laws.proofs.FlatMemory.{overwritten, overwritten_set, overwritten_take, set_append_add}

module _ {A : Type 0} (n k : ℕ) (memory : List A) (fits : n + k ≤ length memory) where
  pub overwritten_kept : overwritten (take n memory ++ take k (drop n memory)) memory ≡ memory
  overwritten_kept = rw (← take-add n k memory) (overwritten_take (n + k) memory fits)

  -- The two parts with a number of the first set are the first n + k numbers with it set.
  pub overwritten_set_first : (i : ℕ) (x : A)
      → i < n
      → overwritten (set (take n memory) i x ++ take k (drop n memory)) memory ≡ set memory i x
  overwritten_set_first i x within =
      let front : n ≤ length memory = omega arith in
      let inside : i < length (take n memory) = rw (length-take-le n memory front) within in
      let both : set (take n memory) i x ++ take k (drop n memory) ≡ set (take (n + k) memory) i x =
      sym (set-append_left (take n memory) (take k (drop n memory)) i x inside)
      ∙ ap (λ (l : List A). set l i x) (sym (take-add n k memory)) in
      rw both (overwritten_set (n + k) memory i x (omega arith) fits)

  pub overwritten_set_second : (i : ℕ) (x : A)
      → i < k
      → overwritten (take n memory ++ set (take k (drop n memory)) i x) memory ≡ set memory (n + i)
      x
  overwritten_set_second i x within =
      let front : n ≤ length memory = omega arith in
      let both : take n memory ++ set (take k (drop n memory)) i x ≡ set (take (n + k) memory)
      (n + i) x =
      sym (set_append_add (take n memory) (take k (drop n memory)) i x)
      ∙ ap (λ (l : List A). set l (length (take n memory) + i) x) (sym (take-add n k memory))
      ∙ ap (λ (j : ℕ). set (take (n + k) memory) (j + i) x) (length-take-le n memory front) in
      rw both (overwritten_set (n + k) memory (n + i) x (omega arith) fits)

module _ {A : Type 0} (first second memory : List A) where
  pub first_written : take (length first) (overwritten (first ++ second) memory) ≡ first
  first_written = rw append_assoc (take_at first _ (length first) refl)

  pub second_written : take (length second) (drop (length first)
      (overwritten (first ++ second) memory)) ≡ second
  second_written =
      rw (
        append_assoc,
        drop_at first (second ++ drop (length (first ++ second)) memory)
            (length first) refl,
      )
      (take_at second _ (length second) refl)
