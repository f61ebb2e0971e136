-- The signed difference of two numbers below 2 ^ 62 (document 01: the margin): what the subtraction
-- of two casts to 64 signed bits gives, and that it fits.
--
--   subtraction_is_difference    of integers
--   difference_fits              64 signed bits hold it
--   casts_subtracted             of the machine's casts
use mathlib.Core.Path.{◌≡◌, refl, ap}
use mathlib.Core.Bool.{Bool, true, false}
use Prim.Native.Nat.{ℕ, zero, suc, ◌≤◌, ◌<◌}
use native.Mathlib.Omega.{arith}
use lib.Dec.{leb}
use lib.IntN.{pos, negsuc, ◌-ℤ◌}
use mir.Syntax.{w64}
use mir.Val.{SFits, to_z}
use mir.Facts.{to_z_pos}
use borrow.Author.Tests.{le-leb, leb-true, leb-false, lt-ltb, le-ltb}
use Rattle.model.specs.Reading.{difference}

pub subtraction_is_difference : (x y : ℕ) → pos x -ℤ pos y ≡ difference x y
subtraction_is_difference x zero = simp (le-leb 0 x (omega arith)) (ap pos (omega arith))
subtraction_is_difference x (suc y) = by_order (leb (suc y) x) refl
  where
    by_order : (test : Bool)
        → leb (suc y) x ≡ test
        → pos x -ℤ pos (suc y) ≡ difference x (suc y)
    by_order true above =
        let order : suc y ≤ x = leb-true _ _ above in
        simp (le-ltb x (suc y) order, above)
    by_order false below =
        let order : x < suc y = leb-false _ _ below in
        simp (lt-ltb x (suc y) order, below) (ap negsuc (omega arith))

module _ (x y : ℕ) (x-small : x < 4611686018427387904) (y-small : y < 4611686018427387904) where
  pub difference_fits : SFits w64 (difference x y)
  difference_fits = by_order (leb y x) refl
    where
      by_order : (test : Bool) → leb y x ≡ test → SFits w64 (difference x y)
      by_order true above = rw above (record { sfits = omega arith })
      by_order false below =
          let order : x < y = leb-false _ _ below in
          rw below (record { sfits = omega arith })

  pub casts_subtracted : to_z w64 x -ℤ to_z w64 y ≡ difference x y
  casts_subtracted =
      rw (to_z_pos w64 {n = x} (omega arith), to_z_pos w64 {n = y} (omega arith))
      (subtraction_is_difference x y)
