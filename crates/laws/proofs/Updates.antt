-- Lists whose places are changed one after another from the first on: what a loop over the sites
-- does, with its closed form.
--
--   change_first default change n xs  the first n places of xs changed, in order; a place past the
--                                     end is passed over
--   get_d_change_first_after          a place from n on is as it was
--   get_d_change_first_before         a place below n, within the list, is changed
--   change_first_keeps                a part of every element that no change touches
--   sum_below_length                  a sum by place is the sum along the list
use mathlib.Core.Path.{◌≡◌, refl, sym, ap, ◌∙◌}
use mathlib.Core.List.{List, [], ◌∷◌}
use Prim.Native.Nat.{ℕ, zero, suc, ◌+◌, ◌≤◌, ◌<◌}
use native.Mathlib.Omega.{arith}
use native.Mathlib.Decide.{ℕ_discrete}
use lib.ListN.{length, get_or, set, length-set}
use lib.Seq.{get_or-set_same, get_or-set_other}
use Rattle.laws.proofs.Sums.{sum_below}

-- ---- Places changed in order

-- The places 0 to n - 1, one after another.
abbrev pub change_first : {A : Type 0} → A → (A → A) → ℕ → List A → List A
change_first default change zero xs = xs
change_first default change (suc n) xs =
    set (change_first default change n xs) n
    (change (get_or (change_first default change n xs) n default))

module _ {A : Type 0} (default : A) (change : A → A) where
  -- The length stays.
  pub length_change_first : (n : ℕ) (xs : List A)
      → length (change_first default change n xs) ≡ length xs
  length_change_first zero xs = refl
  length_change_first (suc n) xs =
      length-set (change_first default change n xs) n _ ∙ length_change_first n xs

  -- A place that the loop has not reached is as it was.
  pub get_d_change_first_after : (n i : ℕ) (xs : List A)
      → n ≤ i
      → get_or (change_first default change n xs) i default ≡ get_or xs i default
  get_d_change_first_after zero i xs reached = refl
  get_d_change_first_after (suc n) i xs reached =
      get_or-set_other (change_first default change n xs) n i _ default (λ same. omega arith)
      ∙ get_d_change_first_after n i xs (omega arith)

  -- A place that the loop has passed is changed once.
  pub get_d_change_first_before : (n i : ℕ) (xs : List A)
      → i < n
      → i < length xs
      → get_or (change_first default change n xs) i default ≡ change (get_or xs i default)
  get_d_change_first_before zero i xs passed inside = absurd (omega arith)
  get_d_change_first_before (suc n) i xs passed inside =
      by_place (ℕ_discrete i n) (λ before. get_d_change_first_before n i xs before inside)
    where
      within : i < length (change_first default change n xs)
      within = omega (arith, length_change_first n xs)

      by_place : Dec (i ≡ n)
          → (i < n → get_or (change_first default change n xs) i default ≡ change
          (get_or xs i default))
          → get_or (change_first default change (suc n) xs) i default ≡ change (get_or xs i default)
      by_place (yes same) earlier =
          rw (← same)
          (get_or-set_same (change_first default change i xs) i _ default (rw (← same) at within)
          ∙ ap change (get_d_change_first_after i i xs (omega arith)))
      by_place (no other) earlier =
          get_or-set_other (change_first default change n xs) n i _ default other
          ∙ earlier (omega arith)

  -- A part that the change keeps is as it was, at every place, past the end too.
  module _ {B : Type 0} (part : A → B) (kept : (x : A) → part (change x) ≡ part x) where
    change_keeps : (xs : List A) (n i : ℕ)
        → part (get_or (set xs n (change (get_or xs n default))) i default) ≡ part
        (get_or xs i default)
    change_keeps [] n i = refl
    change_keeps (x ∷ xs) zero zero = kept x
    change_keeps (x ∷ xs) zero (suc i) = refl
    change_keeps (x ∷ xs) (suc n) zero = refl
    change_keeps (x ∷ xs) (suc n) (suc i) = change_keeps xs n i

    -- After n places were changed.
    pub change_first_keeps : (n i : ℕ) (xs : List A)
        → part (get_or (change_first default change n xs) i default) ≡ part (get_or xs i default)
    change_first_keeps zero i xs = refl
    change_first_keeps (suc n) i xs =
        change_keeps (change_first default change n xs) n i ∙ change_first_keeps n i xs

-- ---- Sums by place and along the list

sum_below_front : (f : ℕ → ℕ) (n : ℕ) → sum_below f (suc n) ≡ f 0 + sum_below (λ i. f (suc i)) n
sum_below_front f zero = omega arith
sum_below_front f (suc n) = omega (arith, sum_below_front f n)

-- A sum that is defined along the list is the sum by place over all its places.
pub sum_below_length : {A : Type 0} (f : A → ℕ) (default : A) (total : List A → ℕ)
    → total [] ≡ 0
    → ((x : A) (xs : List A) → total (x ∷ xs) ≡ f x + total xs)
    → (xs : List A)
    → sum_below (λ i. f (get_or xs i default)) (length xs) ≡ total xs
sum_below_length f default total none more [] = sym none
sum_below_length f default total none more (x ∷ xs) =
    omega (
      arith,
      more x xs,
      sum_below_front (λ i. f (get_or (x ∷ xs) i default)) (length xs),
      sum_below_length f default total none more xs,
    )
