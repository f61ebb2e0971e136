-- Laws of products and quotients that `omega` does not find by itself: it multiplies products out
-- and takes monomials as unknowns, so these hand it the facts that join two monomials.
--
--   mul_gap             (c - a) * (t' - t) is no less than 0, written without minus
--   bound_of_larger     a bound a * t + u ≤ c * t holds at every larger t
--   bound_rescaled      m * x ≤ m * y + n, with another factor in the place of m
--   two_thirds_of_div   a quotient of 2 or more is at least two thirds of the unrounded one
--   div_mono            a larger dividend has no smaller quotient
use mathlib.Core.Path.{◌≡◌, ap, subst₂}
use Prim.Native.Nat.{ℕ, ◌+◌, ◌-◌, ◌*◌, ◌/◌, ◌≤◌, ◌<◌}
use native.Mathlib.Nat.{mul-le-mul_left, mul-le-mul_right, lt-div-mul-add, div-mul-le_self, le-div_iff_mul-le, le_of_mul-le-mul_right}
use native.Mathlib.Omega.{arith}
use native.Mathlib.Decide.{dec_lt}

-- ---- Products

gap_of_sums : (a x t y : ℕ) → a * (t + y) + (a + x) * t ≤ a * t + (a + x) * (t + y)
gap_of_sums a x t y = omega arith

-- (c - a) * (t' - t) ≥ 0, multiplied out and with every minus on the other side.
pub mul_gap : {a c t t' : ℕ} → a ≤ c → t ≤ t' → a * t' + c * t ≤ a * t + c * t'
mul_gap {a} {c} {t} {t'} a≤c t≤t' =
    let c-is : a + (c - a) ≡ c = omega arith in
    let t'-is : t + (t' - t) ≡ t' = omega arith in
    subst₂ (λ (x y : ℕ). a * y + x * t ≤ a * t + x * y) c-is t'-is
    (gap_of_sums a (c - a) t (t' - t))

-- From a * t + u ≤ c * t follows a ≤ c, and then u ≤ (c - a) * t ≤ (c - a) * t'.
pub bound_of_larger : (a u c t t' : ℕ)
    → 1 ≤ t
    → a * t + u ≤ c * t
    → t ≤ t'
    → a * t' + u ≤ c * t'
bound_of_larger a u c t t' positive bound t≤t' =
    let a≤c : a ≤ c = le_of_mul-le-mul_right {k = t} (omega arith) positive in
    omega (arith, mul_gap a≤c t≤t')

rescaled_at : (m e l x y n gap : ℕ)
    → x ≡ y + gap
    → m * x ≤ m * y + n
    → l ≤ m * e
    → l * x ≤ l * y + e * n
rescaled_at m e l x y n gap x-is bound large =
    let few : m * gap ≤ n = omega (arith, ap (λ (z : ℕ). m * z) x-is) in
    let times : l * x ≡ l * y + l * gap = omega (arith, ap (λ (z : ℕ). l * z) x-is) in
    omega (arith, mul-le-mul_left e few, mul-le-mul_right gap large)

-- l * (x - y) ≤ m * e * (x - y) ≤ e * n.
pub bound_rescaled : (m e l x y n : ℕ)
    → m * x ≤ m * y + n
    → l ≤ m * e
    → l * x ≤ l * y + e * n
bound_rescaled m e l x y n bound large = by_order (dec_lt x y)
  where
    by_order : Dec (x < y) → l * x ≤ l * y + e * n
    by_order (yes x<y) = let x≤y : x ≤ y = omega arith in omega (arith, mul-le-mul_left l x≤y)
    by_order (no y≤x) = rescaled_at m e l x y n (x - y) (omega arith) bound large

-- ---- Quotients

-- a < (a / b + 1) * b, and a / b + 1 ≤ 3 * (a / b) / 2 once a / b is 2 or more.
pub two_thirds_of_div : (a b : ℕ) → 1 ≤ b → 2 ≤ a / b → 2 * a ≤ 3 * (a / b * b)
two_thirds_of_div a b positive two =
    omega (arith, lt-div-mul-add {a = a} {b = b} positive, mul-le-mul_right b two)

-- A larger dividend has no smaller quotient.
pub div_mono : (a a' b : ℕ) → 1 ≤ b → a ≤ a' → a / b ≤ a' / b
div_mono a a' b positive a≤a' =
    (le-div_iff_mul-le {k = b} positive).1 (omega (arith, div-mul-le_self a b))
