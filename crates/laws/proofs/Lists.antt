-- Laws of lists of any elements: one element changed or added, and what then holds of every place.
--
--   length_snoc, get_d_snoc_old, get_d_snoc_new  one element added at the end
--   all_set, all_snoc, all_cons                 a property of all places, after a change
--   at_set                                      a property of one place, after a change
--   get_d_replicate_default                     a list of the default, read at any place
--   read_at, read_take                          elements read one by one, as one part of the list
use mathlib.Core.Path.{◌≡◌, refl, sym, ap, ◌∙◌}
use mathlib.Core.List.{List, [], ◌∷◌, ◌++◌}
use Prim.Native.Nat.{ℕ, zero, suc, ◌+◌, ◌≤◌, ◌<◌}
use native.Mathlib.Omega.{arith}
use native.Mathlib.Decide.{ℕ_discrete, dec_lt}
use lib.ListN.{length, get_or, set, take, drop, replicate, length-append, length-set, get_or-append}
use lib.Seq.{get_or-set_same, get_or-set_other, get_or-append_seam, drop-cons}

module _ {A : Type 0} where
  -- ---- One element added at the end

  -- One element more.
  pub length_snoc : (xs : List A) (x : A) → length (xs ++ (x ∷ [])) ≡ length xs + 1
  length_snoc xs x = length-append xs (x ∷ [])

  -- The elements before it stay at their places.
  pub get_d_snoc_old : (default : A) (xs : List A) (x : A) (i : ℕ)
      → i < length xs
      → get_or (xs ++ (x ∷ [])) i default ≡ get_or xs i default
  get_d_snoc_old default xs x i inside = get_or-append xs (x ∷ []) default i inside

  -- It stands last.
  pub get_d_snoc_new : (default : A) (xs : List A) (x : A)
      → get_or (xs ++ (x ∷ [])) (length xs) default ≡ x
  get_d_snoc_new default xs x = get_or-append_seam xs x [] default

  -- Within the list and past its end the same element is read.
  pub get_d_replicate_default : (default : A) (n i : ℕ)
      → get_or (replicate n default) i default ≡ default
  get_d_replicate_default default zero i = refl
  get_d_replicate_default default (suc n) zero = refl
  get_d_replicate_default default (suc n) (suc i) = get_d_replicate_default default n i

  -- ---- A property of places

  -- Of place j after place i was set: of the new element if it is place i, else as before.
  pub at_set : (P : ℕ → A → Type 0) (default : A) (xs : List A) (i : ℕ) (x : A)
      → i < length xs
      → P i x
      → (j : ℕ)
      → ((j ≡ i → ⊥) → P j (get_or xs j default))
      → P j (get_or (set xs i x) j default)
  at_set P default xs i x inside new j old = by_place (ℕ_discrete j i)
    where
      by_place : Dec (j ≡ i) → P j (get_or (set xs i x) j default)
      by_place (yes here) = rw (here, get_or-set_same xs i x default inside) new
      by_place (no elsewhere) = rw (get_or-set_other xs i j x default elsewhere) (old elsewhere)

  -- Of every place after one was set.
  pub all_set : (P : A → Type 0) (default : A) (xs : List A) (i : ℕ) (x : A)
      → i < length xs
      → P x
      → ((j : ℕ) → j < length xs → (j ≡ i → ⊥) → P (get_or xs j default))
      → (j : ℕ) → j < length (set xs i x)
      → P (get_or (set xs i x) j default)
  all_set P default xs i x inside new old j below =
      let was_inside : j < length xs = omega (arith, length-set xs i x) in
      at_set (λ _ y. P y) default xs i x inside new j (old j was_inside)

  -- Of every place after one was added at the end.
  pub all_snoc : (P : A → Type 0) (default : A) (xs : List A) (x : A)
      → P x
      → ((j : ℕ) → j < length xs → P (get_or xs j default))
      → (j : ℕ) → j < length (xs ++ (x ∷ []))
      → P (get_or (xs ++ (x ∷ [])) j default)
  all_snoc P default xs x new old j below = by_place (dec_lt j (length xs))
    where
      by_place : Dec (j < length xs) → P (get_or (xs ++ (x ∷ [])) j default)
      by_place (yes inside) = rw (get_d_snoc_old default xs x j inside) (old j inside)
      by_place (no outside) =
          let last : j ≡ length xs = omega (arith, length_snoc xs x) in
          rw (last, get_d_snoc_new default xs x) new

  -- Of every place after one was added in front.
  pub all_cons : (P : A → Type 0) (default : A) (x : A) (xs : List A)
      → P x
      → ((j : ℕ) → j < length xs → P (get_or xs j default))
      → (j : ℕ) → j < length (x ∷ xs)
      → P (get_or (x ∷ xs) j default)
  all_cons P default x xs new old zero below = new
  all_cons P default x xs new old (suc j) below = old j (omega arith)

  -- ---- Elements read one by one

  -- So many elements from a place on, each read by its place.
  abbrev pub read_at : A → ℕ → ℕ → List A → List A
  read_at default zero i xs = []
  read_at default (suc n) i xs = get_or xs i default ∷ read_at default n (suc i) xs

  pub read_take : (default : A) (n i : ℕ) (xs : List A)
      → i + n ≤ length xs
      → read_at default n i xs ≡ take n (drop i xs)
  read_take default zero i xs fits = refl
  read_take default (suc n) i xs fits =
      ap (λ (l : List A). get_or xs i default ∷ l) (read_take default n (suc i) xs (omega arith))
      ∙ ap (take (suc n)) (sym (drop-cons xs i default (omega arith)))
