-- Sums: of a function over 0 .. k - 1, and of a function over the elements of a list.
--
--   sum_below f k           f 0 + .. + f (k - 1); 0 at k 0
--   sum_below_change        one place changed, without minus
--   sum_below_set           the same for a sum over the elements of a list by place
--   sum_of f xs              f of each element, summed; 0 of no element
--   sum_of_set, sum_of_snoc  one element changed or added
--   sum_of_least            as many times the least as there are elements
use mathlib.Core.Path.{◌≡◌, refl, ap}
use mathlib.Core.List.{List, [], ◌∷◌, ◌++◌}
use Prim.Native.Nat.{ℕ, zero, suc, ◌+◌, ◌*◌, ◌≤◌, ◌<◌}
use native.Mathlib.Omega.{arith}
use native.Mathlib.Decide.{ℕ_discrete}
use lib.ListN.{length, get_or, set}
use lib.Seq.{get_or-set_same, get_or-set_other}

-- ---- Over the numbers below k

-- f 0 + .. + f (k - 1).
abbrev pub sum_below : (ℕ → ℕ) → ℕ → ℕ
sum_below f zero = 0
sum_below f (suc k) = sum_below f k + f k

-- Functions that agree below k have the same sum.
pub sum_below_same : (f g : ℕ → ℕ) (k : ℕ)
    → ((i : ℕ) → i < k → f i ≡ g i)
    → sum_below f k ≡ sum_below g k
sum_below_same f g zero same = refl
sum_below_same f g (suc k) same =
    let front : sum_below f k ≡ sum_below g k = sum_below_same f g k
    (λ i i<k. same i (omega arith)) in
    omega (arith, same k (omega arith))

-- A function that is nowhere larger has no larger sum.
pub sum_below_le : (f g : ℕ → ℕ) (k : ℕ)
    → ((i : ℕ) → i < k → f i ≤ g i)
    → sum_below f k ≤ sum_below g k
sum_below_le f g zero less = omega arith
sum_below_le f g (suc k) less =
    let front : sum_below f k ≤ sum_below g k = sum_below_le f g k (λ i i<k. less i (omega arith))
    in
    omega (arith, less k (omega arith))

-- The same number k times.
pub sum_below_const : (c k : ℕ) → sum_below (λ i. c) k ≡ k * c
sum_below_const c zero = omega arith
sum_below_const c (suc k) = omega (arith, sum_below_const c k)

-- A function that is 0 below k.
pub sum_below_zero : (f : ℕ → ℕ) (k : ℕ) → ((i : ℕ) → i < k → f i ≡ 0) → sum_below f k ≡ 0
sum_below_zero f k zeros =
    omega (arith, sum_below_same f (λ i. 0) k zeros, sum_below_const 0 k)

-- The sum of two functions.
pub sum_below_add : (f g : ℕ → ℕ) (k : ℕ)
    → sum_below (λ i. f i + g i) k ≡ sum_below f k + sum_below g k
sum_below_add f g zero = refl
sum_below_add f g (suc k) = omega (arith, sum_below_add f g k)

-- A common factor.
pub sum_below_mul : (m : ℕ) (f : ℕ → ℕ) (k : ℕ) → sum_below (λ i. m * f i) k ≡ m * sum_below f k
sum_below_mul m f zero = omega arith
sum_below_mul m f (suc k) = omega (arith, sum_below_mul m f k)

-- A sum where g differs from f at place j alone.
pub sum_below_change : (f g : ℕ → ℕ) (k j : ℕ)
    → j < k
    → ((i : ℕ) → i < k → (i ≡ j → ⊥) → g i ≡ f i)
    → sum_below g k + f j ≡ sum_below f k + g j
sum_below_change f g zero j j<k same = absurd (omega arith)
sum_below_change f g (suc k) j j<k same =
    by_place (ℕ_discrete k j)
    (λ j<k'. sum_below_change f g k j j<k' (λ i i<k other. same i (omega arith) other))
  where
    by_place : Dec (k ≡ j)
        → (j < k → sum_below g k + f j ≡ sum_below f k + g j)
        → sum_below g (suc k) + f j ≡ sum_below f (suc k) + g j
    by_place (yes last) front =
        let others : sum_below g k ≡ sum_below f k =
        sum_below_same g f k (λ i i<k. same i (omega arith) (λ i≡j. omega arith)) in
        omega (arith, ap f last, ap g last)
    by_place (no before) front = omega (arith, same k (omega arith) before, front (omega arith))

module _ {A : Type 0} where
  -- A sum over the elements of a list by place, after place i was set.
  pub sum_below_set : (f : A → ℕ) (default : A) (xs : List A) (i k : ℕ) (x : A)
      → i < length xs
      → i < k
      → sum_below (λ j. f (get_or (set xs i x) j default)) k + f (get_or xs i default)
      ≡ sum_below (λ j. f (get_or xs j default)) k + f x
  sum_below_set f default xs i k x inside i<k =
      rw (ap f (get_or-set_same xs i x default inside)) at
      (sum_below_change
      (λ j. f (get_or xs j default)) (λ j. f (get_or (set xs i x) j default)) k i i<k
      (λ j j<k other. ap f (get_or-set_other xs i j x default other)))

  -- ---- Over the elements of a list

  -- f of each element, summed.
  pub sum_of : (A → ℕ) → List A → ℕ
  sum_of f [] = 0
  sum_of f (x ∷ xs) = f x + sum_of f xs

  -- No element.
  pub sum_of_nil : (f : A → ℕ) → sum_of f [] ≡ 0
  unfolding sum_of
  sum_of_nil f = refl

  -- One element in front.
  pub sum_of_cons : (f : A → ℕ) (x : A) (xs : List A) → sum_of f (x ∷ xs) ≡ f x + sum_of f xs
  unfolding sum_of
  sum_of_cons f x xs = refl

  -- One element set, without minus.
  pub sum_of_set : (f : A → ℕ) (default : A) (xs : List A) (i : ℕ) (x : A)
      → i < length xs
      → sum_of f (set xs i x) + f (get_or xs i default) ≡ sum_of f xs + f x
  unfolding sum_of
  sum_of_set f default [] i x inside = absurd (omega arith)
  sum_of_set f default (y ∷ ys) zero x inside = omega arith
  sum_of_set f default (y ∷ ys) (suc i) x inside =
      omega (arith, sum_of_set f default ys i x (omega arith))

  -- One element added at the end.
  pub sum_of_snoc : (f : A → ℕ) (xs : List A) (x : A) → sum_of f (xs ++ (x ∷ [])) ≡ sum_of f xs + f
      x
  unfolding sum_of
  sum_of_snoc f [] x = omega arith
  sum_of_snoc f (y ∷ ys) x = omega (arith, sum_of_snoc f ys x)

  -- If no element is below the least, the sum is at least as many times the least.
  pub sum_of_least : (f : A → ℕ) (default : A) (xs : List A) (least : ℕ)
      → ((j : ℕ) → j < length xs → least ≤ f (get_or xs j default))
      → length xs * least ≤ sum_of f xs
  unfolding sum_of
  sum_of_least f default [] least each = omega arith
  sum_of_least f default (y ∷ ys) least each =
      omega (
        arith,
        each 0 (omega arith),
        sum_of_least f default ys least (λ j j<. each (suc j) (omega arith)),
      )
