-- Binary digits: "as many as the halvings, each rounded down, that bring n to 0" (PROOF.md, 6).
--
--   digits_half      a positive number has one digit more than its half
--   digits_double    twice a positive number has one digit more
--   digits_le        a greater number has no fewer digits
--   digits_twice     a number at least twice another has a digit more than that
--   digits_bound     a number below 2 ^ m has at most m digits
use mathlib.Core.Path.{◌≡◌, refl, ap, ◌∙◌}
use Prim.Native.Nat.{ℕ, zero, suc, ◌*◌, ◌/◌, ◌^◌, ◌≤◌, ◌<◌}
use native.Mathlib.Nat.{pow-suc}
use native.Mathlib.Omega.{arith}
use lib.Dec.{eqb-suc-zero}
use Rattle.model.specs.Settings.{digits, digits_within}

-- ---- Within a number of halvings

digits_within_suc : (more n : ℕ)
    → digits_within (suc more) (suc n) ≡ suc (digits_within more (suc n / 2))
digits_within_suc more n = rw (eqb-suc-zero n, digits_within)

digits_within_zero : (more : ℕ) → digits_within more 0 ≡ 0
digits_within_zero zero = refl
digits_within_zero (suc more) = refl

-- More halvings allowed, or a greater number: no fewer digits.
digits_within_le : (l l' m n : ℕ) → l ≤ l' → m ≤ n → digits_within l m ≤ digits_within l' n
digits_within_le zero l' m n h k = omega arith
digits_within_le (suc l) zero m n h k = absurd (omega arith)
digits_within_le (suc l) (suc l') zero n h k = omega arith
digits_within_le (suc l) (suc l') (suc m) zero h k = absurd (omega arith)
digits_within_le (suc l) (suc l') (suc m) (suc n) h k =
    rw (digits_within_suc l m, digits_within_suc l' n)
    (omega (arith, digits_within_le l l' (suc m / 2) (suc n / 2) (omega arith) (omega arith)))

-- With n halvings or more the number alone decides.
digits_within_enough : (l l' n : ℕ) → n ≤ l → n ≤ l' → digits_within l n ≡ digits_within l' n
digits_within_enough zero l' zero h k = rw (digits_within_zero l')
digits_within_enough zero l' (suc n) h k = absurd (omega arith)
digits_within_enough (suc l) l' zero h k = rw (digits_within_zero l')
digits_within_enough (suc l) zero (suc n) h k = absurd (omega arith)
digits_within_enough (suc l) (suc l') (suc n) h k =
    rw (digits_within_suc l n, digits_within_suc l' n)
    (ap suc (digits_within_enough l l' (suc n / 2) (omega arith) (omega arith)))

-- ---- Digits

pub digits_le : {m n : ℕ} → m ≤ n → digits m ≤ digits n
digits_le {m} {n} h = digits_within_le m n m n h h

pub digits_half : (n : ℕ) → 1 ≤ n → digits n ≡ suc (digits (n / 2))
digits_half zero h = absurd (omega arith)
digits_half (suc n) h =
    digits_within_suc n n
    ∙ ap suc (digits_within_enough n (suc n / 2) (suc n / 2) (omega arith) (omega arith))

pub digits_double : (n : ℕ) → 1 ≤ n → digits (2 * n) ≡ suc (digits n)
digits_double n h =
    let half : 2 * n / 2 ≡ n = omega arith in
    digits_half (2 * n) (omega arith) ∙ ap (λ (x : ℕ). suc (digits x)) half

pub digits_twice : {m n : ℕ} → 1 ≤ m → 2 * m ≤ n → suc (digits m) ≤ digits n
digits_twice {m} {n} h k = omega (arith, digits_double m h, digits_le k)

pub digits_bound : (m n : ℕ) → n < 2 ^ m → digits n ≤ m
digits_bound zero zero h = omega arith
digits_bound zero (suc n) h = absurd (omega arith)
digits_bound (suc m) zero h = omega arith
digits_bound (suc m) (suc n) h =
    let half : suc n / 2 < 2 ^ m = omega (arith, pow-suc 2 m) in
    omega (arith, digits_half (suc n) (omega arith), digits_bound m (suc n / 2) half)
