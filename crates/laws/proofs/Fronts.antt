-- The front of a list written over, element after element.
--
--   front_sets          stores from place 0 on are an overwritten front
--   overwritten_sets    a piece stored right behind an overwritten front extends the front
--   stores_from, row_stores  stores in a row, as code counts their places
--   Growing, growing_begins, -on, -ends   a loop that extends the front turn by turn
--   Filling, filling_on                   the same with one element at every place
use Prim.Native.Nat.{ℕ, suc, ◌+◌, ◌<◌, ◌≤◌}
use mathlib.Core.Path.{◌≡◌, refl, sym, ap, ◌∙◌}
use mathlib.Core.List.{List, [], ◌∷◌, ◌++◌}
use native.Mathlib.Nat.{zero-add}
use native.Mathlib.Omega.{arith}
use lib.ListN.{length, set, drop, replicate, length-replicate, replicate-append-replicate}
use lib.Seq.{sets, length-sets}
use Rattle.laws.specs.Writing.{written_at}
use Rattle.laws.proofs.FlatMemory.{overwritten, length_overwritten}
use Rattle.laws.proofs.Writing.{written_sets, written_append}

module _ {A : Type 0} where
  -- The front is what is written from place 0 on.
  front_written : (front list : List A) → written_at 0 front list ≡ overwritten front list
  front_written front list = ap (λ (n : ℕ). front ++ drop n list) (zero-add (length front))

  -- Stores from place 0 on.
  pub front_sets : (front list : List A)
      → length front ≤ length list
      → sets list 0 front ≡ overwritten front list
  front_sets front list fits =
      sym (written_sets 0 front list (omega arith)) ∙ front_written front list

  pub overwritten_sets : (front piece list : List A) (n : ℕ)
      → length front ≡ n
      → n + length piece ≤ length list
      → sets (overwritten front list) n piece ≡ overwritten (front ++ piece) list
  overwritten_sets front piece list n width fits =
      let place : n ≡ 0 + length front = omega arith in
      let same = length_overwritten front list (omega arith) in
      sym (written_sets n piece (overwritten front list) (omega (arith, same)))
      ∙ (λ i. written_at (place i) piece (sym (front_written front list) i))
      ∙ written_append 0 front piece list (omega arith)
      ∙ front_written (front ++ piece) list

  -- Stores at n + i, n + (i + 1) and so on.
  abbrev pub stores_from : List A → ℕ → ℕ → List A → List A
  stores_from list n i [] = list
  stores_from list n i (x ∷ xs) = stores_from (set list (n + i) x) n (i + 1) xs

  stores_from_sets : (list : List A) (n i : ℕ) (xs : List A)
      → stores_from list n i xs ≡ sets list (n + i) xs
  stores_from_sets list n i [] = refl
  stores_from_sets list n i (x ∷ xs) =
      let next : n + (i + 1) ≡ suc (n + i) = omega arith in
      stores_from_sets (set list (n + i) x) n (i + 1) xs
      ∙ ap (λ (m : ℕ). sets (set list (n + i) x) m xs) next

  -- A row of stores, the first at n itself.
  pub row_stores : (list : List A) (n : ℕ) (x : A) (xs : List A)
      → stores_from (set list n x) n 1 xs ≡ sets list n (x ∷ xs)
  row_stores list n x xs =
      let next : n + 1 ≡ suc n = omega arith in
      stores_from_sets (set list n x) n 1 xs ∙ ap (λ (m : ℕ). sets (set list n x) m xs) next

-- ---- A front that grows turn by turn

module _ {A : Type 0} (front : ℕ → List A) (before : List A) (count : ℕ) where
  -- After i turns of so many, this front is written and the rest is as before.
  pub record Growing (now : List A) (i : ℕ) : Type 0 where
    pub within : i ≤ count
    pub same_length : length now ≡ length before
    pub grown : now ≡ overwritten (front i) before

  pub growing_begins : front 0 ≡ [] → Growing before 0
  growing_begins none = record {
    within = omega arith;
    same_length = refl;
    grown = sym (ap (λ (l : List A). overwritten l before) none);
  }

  module _ (now : List A) (i : ℕ) (growing : Growing now i) where
    -- A turn stores a piece behind the front.
    pub growing_on : (n : ℕ) (piece : List A)
        → i < count
        → length (front i) ≡ n
        → n + length piece ≤ length before
        → front i ++ piece ≡ front (i + 1)
        → {after : List A}
        → after ≡ sets now n piece
        → Growing after (i + 1)
    growing_on n piece more width fits next stored = record {
      within = omega arith;
      same_length = ap length stored ∙ length-sets now n piece ∙ growing.same_length;
      grown =
          stored
          ∙ ap (λ (l : List A). sets l n piece) growing.grown
          ∙ overwritten_sets (front i) piece before n width fits
          ∙ ap (λ (l : List A). overwritten l before) next;
    }

    pub growing_ends : count ≤ i → now ≡ overwritten (front count) before
    growing_ends past =
        let all : i ≡ count = omega (arith, growing.within) in
        growing.grown ∙ ap (λ (n : ℕ). overwritten (front n) before) all

-- One element at every place.
module _ {A : Type 0} (a : A) (before : List A) (count : ℕ) where
  abbrev pub Filling : List A → ℕ → Type 0
  Filling = Growing (λ (i : ℕ). replicate i a) before count

  pub filling_on : (now : List A) (i : ℕ)
      → Filling now i
      → i < count
      → count ≤ length before
      → Filling (set now i a) (i + 1)
  filling_on now i filling more fits =
      growing_on (λ (i : ℕ). replicate i a) before count now i filling i (a ∷ []) more
      (length-replicate i a) (omega arith) (replicate-append-replicate i 1 a) refl
