-- Laws of flat memory: a list of numbers that holds records of four numbers one after another, and
-- after them another part. What overwriting the front, and setting one place, does to each part.
--
--   overwritten xs memory     the memory with its front overwritten by xs
--   length_overwritten, get_d_overwritten, overwritten_front, overwritten_set
--   two_parts                 the front overwritten and one place of the second part set
--   set_append_add            a place past the first list of two
--   four                      a memory of at least four numbers, taken apart
--   four_suc                  a place one record of four further on
use Prim.Native.Nat.{ℕ, suc, ◌+◌, ◌-◌, ◌*◌, ◌<◌, ◌≤◌}
use mathlib.Core.Path.{◌≡◌, refl, ap, sym, ◌∙◌}
use mathlib.Core.List.{List, [], ◌∷◌, ◌++◌, append_assoc}
use native.Mathlib.Omega.{arith}
use lib.ListN.{length, get_or, set, take, drop, length-append, length-drop, length-set, take-append-drop}
use lib.Seq.{set-append_left, drop-append-le, get_or-append-add, get_or-drop, length-take-le}

module _ {A : Type 0} where
  -- ---- Two lists, one after the other

  -- A place past the first list is a place of the second.
  pub set_append_add : (xs ys : List A) (n : ℕ) (a : A)
      → set (xs ++ ys) (length xs + n) a ≡ xs ++ set ys n a
  set_append_add [] ys n a = let e : 0 + n ≡ n = omega arith in rw e
  set_append_add (x ∷ xs) ys n a =
      let e : suc (length xs) + n ≡ suc (length xs + n) = omega arith in
      rw e (ap (λ (l : List A). x ∷ l) (set_append_add xs ys n a))

  -- ---- The front overwritten

  abbrev pub overwritten : List A → List A → List A
  overwritten xs memory = xs ++ drop (length xs) memory

  pub length_overwritten : (xs memory : List A)
      → length xs ≤ length memory
      → length (overwritten xs memory) ≡ length memory
  length_overwritten xs memory fits = simp (length-append, length-drop) (omega arith)

  -- Past the front, a memory is as it was.
  pub get_d_overwritten : (xs memory : List A) (i : ℕ) (d : A)
      → length xs ≤ i
      → get_or (overwritten xs memory) i d ≡ get_or memory i d
  get_d_overwritten xs memory i d past =
      let e : i ≡ length xs + (i - length xs) = omega arith in
      let n = i - length xs in
      rw e (get_or-append-add xs (drop (length xs) memory) n d ∙ get_or-drop (length xs) memory n d)

  -- Overwriting a front of the first n numbers leaves those after them.
  pub overwritten_front : (xs memory : List A) (n : ℕ)
      → length xs ≤ n
      → n ≤ length memory
      → overwritten xs memory ≡ overwritten xs (take n memory) ++ drop n memory
  overwritten_front xs memory n within fits =
      let short : length xs ≤ length (take n memory) = rw (length-take-le n memory fits) within in
      rw (
        append_assoc,
        ← drop-append-le (length xs) (take n memory) (drop n memory) short,
        take-append-drop,
      )

  -- The first n numbers with one of them set, written over the memory, are the memory with it set.
  pub overwritten_set : (n : ℕ) (memory : List A) (i : ℕ) (a : A)
      → i < n
      → n ≤ length memory
      → overwritten (set (take n memory) i a) memory ≡ set memory i a
  overwritten_set n memory i a within fits =
      let same : length (set (take n memory) i a) ≡ n =
      length-set (take n memory) i a ∙ length-take-le n memory fits in
      let short : i < length (take n memory) = rw (length-take-le n memory fits) within in
      rw same
      (sym (set-append_left (take n memory) (drop n memory) i a short)
      ∙ ap (λ (l : List A). set l i a) (take-append-drop n memory))

  -- The first n numbers written over the memory are the memory.
  pub overwritten_take : (n : ℕ) (memory : List A)
      → n ≤ length memory
      → overwritten (take n memory) memory ≡ memory
  overwritten_take n memory fits = rw (length-take-le n memory fits) (take-append-drop n memory)

  -- Numbers over the front of the first n, and one of the k after these n set: the same as all
  -- numbers over the front, and then that place set.
  pub two_parts : (n k : ℕ) (xs memory : List A) (i : ℕ) (a : A)
      → length xs ≤ n
      → n + k ≤ length memory
      → i < k
      → overwritten xs (take n memory)
      ++ overwritten (set (take k (drop n memory)) i a) (drop n memory)
      ≡ set (overwritten xs memory) (n + i) a
  two_parts n k xs memory i a within fits inside =
      let front : n ≤ length memory = omega arith in
      let back : k ≤ length (drop n memory) = rw (length-drop n memory) (omega arith) in
      let short : length xs ≤ length (take n memory) = rw (length-take-le n memory front) within in
      let width : length (overwritten xs (take n memory)) ≡ n =
      length_overwritten xs (take n memory) short ∙ length-take-le n memory front in
      ap (λ (l : List A). overwritten xs (take n memory) ++ l)
      (overwritten_set k (drop n memory) i a inside back)
      ∙ sym (set_append_add (overwritten xs (take n memory)) (drop n memory) i a)
      ∙ ap (λ (x : ℕ). set (overwritten xs (take n memory) ++ drop n memory) (x + i) a) width
      ∙ ap (λ (l : List A). set l (n + i) a) (sym (overwritten_front xs memory n within front))

  -- ---- Records of four

  -- A memory of at least one record of four, taken apart.
  pub record Four (memory : List A) : Type 0 where
    pub first : A
    pub second : A
    pub third : A
    pub fourth : A
    pub rest : List A
    pub whole : memory ≡ first ∷ (second ∷ (third ∷ (fourth ∷ rest)))

  pub four : (memory : List A) → 4 ≤ length memory → Four memory
  four [] fits = absurd (omega arith)
  four (a ∷ []) fits = absurd (omega arith)
  four (a ∷ (b ∷ [])) fits = absurd (omega arith)
  four (a ∷ (b ∷ (c ∷ []))) fits = absurd (omega arith)
  four (a ∷ (b ∷ (c ∷ (d ∷ memory)))) fits =
      record { first = a; second = b; third = c; fourth = d; rest = memory; whole = refl }

-- A place one record of four further on.
pub four_suc : (i k : ℕ) → 4 * suc i + k ≡ suc (suc (suc (suc (4 * i + k))))
four_suc i k = omega arith
