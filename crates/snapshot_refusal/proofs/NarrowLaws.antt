-- Settings whose numbers are narrowed to four bytes: no others come to pass, and those that pass
-- are as they were ("taken whole").
--
--   in_range_same       the ranges are told alike
--   settings_same       settings that pass are as they were
--   refusal_same        the number is the same
use mathlib.Core.Path.{◌≡◌, refl, sym, ap, ◌∙◌}
use mathlib.Core.Bool.{Bool, true, false, ◌&&◌}
use Prim.Native.Nat.{ℕ, ◌≤◌, ◌<◌}
use native.Mathlib.Omega.{arith}
use native.Mathlib.Decide.{dec_le}
use lib.Dec.{leb}
use borrow.Author.Tests.{lt-leb}
use Rattle.laws.proofs.Tests.{both_true, and_false}
use Rattle.model.specs.declared.Settings.{Settings}
use Rattle.model.specs.Choice.{between}
use Rattle.model.specs.Refusals.{no_refusal}
use Rattle.model.specs.Settings.{in_range, settings_with, settings_refusal}
use Rattle.model.proofs.Thresholds.SettingsLaws.{within_of_between, settled}
use Rattle.record_numbers.specs.Numbers.{greatest_narrow, narrowed}
use Rattle.snapshot_header.specs.Header.{narrowed_settings}

-- A number that fits is as it was.
narrowed_fits : (x : ℕ) → x ≤ greatest_narrow → narrowed x ≡ x
narrowed_fits x fits = omega arith

between_same : (low x high : ℕ)
    → high < greatest_narrow
    → between low (narrowed x) high ≡ between low x high
between_same low x high few = by_size (dec_le x greatest_narrow)
  where
    by_size : Dec (x ≤ greatest_narrow) → between low (narrowed x) high ≡ between low x high
    by_size (yes fits) = ap (λ (n : ℕ). between low n high) (narrowed_fits x fits)
    by_size (no wide) =
        let greatest : narrowed x ≡ greatest_narrow = omega (arith, wide) in
        ap (λ (n : ℕ). between low n high) greatest
        ∙ ap (λ (b : Bool). leb low greatest_narrow && b)
        (lt-leb greatest_narrow high few)
        ∙ and_false (leb low greatest_narrow)
        ∙ sym (ap (λ (b : Bool). leb low x && b) (lt-leb x high (omega (arith, wide)))
        ∙ and_false (leb low x))

module _ (s : Settings) where
  in_range_same : in_range (narrowed_settings s) ≡ in_range s
  in_range_same =
      λ i. between_same 1 s.sites 32 (omega arith) i
      && between_same 2 s.epsilon 1000 (omega arith) i
      && between_same 1 s.phi 1000 (omega arith) i
      && between_same 1 s.rank 1000 (omega arith) i
      && between_same 1 s.capacity 3000 (omega arith) i
      && between_same 1 s.universe 65536 (omega arith) i

  -- In their ranges all numbers fit.
  as_they_were : in_range s ≡ true → narrowed_settings s ≡ s
  as_they_were holds =
      let six = both_true _ _ holds in
      let five = both_true _ _ six.first_true in
      let four = both_true _ _ five.first_true in
      let three = both_true _ _ four.first_true in
      let two = both_true _ _ three.first_true in
      let sites = within_of_between 1 s.sites 32 two.first_true in
      let epsilon = within_of_between 2 s.epsilon 1000 two.second_true in
      let phi = within_of_between 1 s.phi 1000 three.second_true in
      let rank = within_of_between 1 s.rank 1000 four.second_true in
      let capacity = within_of_between 1 s.capacity 3000 five.second_true in
      let universe = within_of_between 1 s.universe 65536 six.second_true in
      λ i. settings_with
      (narrowed_fits s.sites (omega (arith, sites.at_most)) i)
      (narrowed_fits s.epsilon (omega (arith, epsilon.at_most)) i)
      (narrowed_fits s.phi (omega (arith, phi.at_most)) i)
      (narrowed_fits s.rank (omega (arith, rank.at_most)) i)
      (narrowed_fits s.capacity (omega (arith, capacity.at_most)) i)
      (narrowed_fits s.universe (omega (arith, universe.at_most)) i)

  pub refusal_same : settings_refusal (narrowed_settings s) ≡ settings_refusal s
  refusal_same = by_range (in_range s) refl
    where
      by_range : (holds : Bool) → in_range s ≡ holds
          → settings_refusal (narrowed_settings s) ≡ settings_refusal s
      by_range true holds = ap settings_refusal (as_they_were holds)
      by_range false fails = rw (in_range_same, fails)

  pub settings_same : settings_refusal (narrowed_settings s) ≡ no_refusal → narrowed_settings s ≡ s
  settings_same none =
      let passes = settled s (sym refusal_same ∙ none) in
      λ i. settings_with
      (narrowed_fits s.sites (omega (arith, passes.sites.at_most)) i)
      (narrowed_fits s.epsilon (omega (arith, passes.epsilon.at_most)) i)
      (narrowed_fits s.phi (omega (arith, passes.phi.at_most)) i)
      (narrowed_fits s.rank (omega (arith, passes.rank.at_most)) i)
      (narrowed_fits s.capacity (omega (arith, passes.capacity.at_most)) i)
      (narrowed_fits s.universe (omega (arith, passes.universe.at_most)) i)
