-- What accepted settings are worth: document 01's ranges and its refusals 2 and 3, as facts.
--
--   Settled settings     the record of those facts
--   settled              accepted settings have them
--   site_known           a number that row 5 lets pass is that of a site
use mathlib.Core.Path.{◌≡◌}
use mathlib.Core.Bool.{true, not}
use Prim.Native.Nat.{ℕ, ◌*◌, ◌≤◌, ◌<◌}
use lib.Dec.{leb, ltb}
use native.Mathlib.Omega.{arith}
use borrow.Author.Tests.{leb-true, leb-false, ltb-false, not-false}
use Rattle.laws.proofs.Tests.{both_true}
use Rattle.model.specs.declared.Settings.{Settings}
use Rattle.model.specs.Choice.{between}
use Rattle.model.specs.Limits.{most_sites, most_capacity, most_universe}
use Rattle.model.specs.Refusals.{when, ◌or_else◌, no_refusal, unknown_site}
use Rattle.model.specs.Settings.{in_range, settings_refusal}
use Rattle.model.proofs.Thresholds.RefusalLaws.{passed}

-- A number within a range.
pub record Within (low x high : ℕ) : Type 0 where
  pub at_least : low ≤ x
  pub at_most : x ≤ high

pub within_of_between : (low x high : ℕ) → between low x high ≡ true → Within low x high
within_of_between low x high holds =
    let both = both_true (leb low x) (leb x high) holds in
    record {
      at_least = leb-true low x both.first_true;
      at_most = leb-true x high both.second_true;
    }

pub record Settled (settings : Settings) : Type 0 where
  pub sites : Within 1 settings.sites most_sites
  pub epsilon : Within 2 settings.epsilon 1000
  pub phi : Within 1 settings.phi 1000
  pub rank : Within 1 settings.rank 1000
  pub capacity : Within 1 settings.capacity most_capacity
  pub universe : Within 1 settings.universe most_universe
  pub phi_epsilon : settings.epsilon ≤ settings.phi
  pub enough_counters : 6000 ≤ settings.capacity * settings.epsilon

-- The rows of the settings test, one after another, and the six ranges of the first.
pub settled : (settings : Settings) → settings_refusal settings ≡ no_refusal → Settled settings
settled settings none =
    let row-1 = passed (not (in_range settings)) 1 _ (omega arith) none in
    let row-2 = passed (ltb settings.phi settings.epsilon) 2 _ (omega arith)
    row-1.later_accepted in
    let row-3 = passed (ltb (settings.capacity * settings.epsilon) 6000) 3 _ (omega arith)
    row-2.later_accepted in
    let six = both_true _ _ (not-false (in_range settings) row-1.test_failed) in
    let five = both_true _ _ six.first_true in
    let four = both_true _ _ five.first_true in
    let three = both_true _ _ four.first_true in
    let two = both_true _ _ three.first_true in
    record {
      sites = within_of_between _ _ _ two.first_true;
      epsilon = within_of_between _ _ _ two.second_true;
      phi = within_of_between _ _ _ three.second_true;
      rank = within_of_between _ _ _ four.second_true;
      capacity = within_of_between _ _ _ five.second_true;
      universe = within_of_between _ _ _ six.second_true;
      phi_epsilon = ltb-false _ _ row-2.test_failed;
      enough_counters = ltb-false _ _ row-3.test_failed;
    }

-- A chain of refusals that begins with row 5 and refuses nothing names one of the k sites.
pub site_known : (settings : Settings) (which later : ℕ)
    → (when (leb settings.sites which) unknown_site or_else later) ≡ no_refusal
    → which < settings.sites
site_known settings which later none =
    leb-false settings.sites which
    (passed (leb settings.sites which) unknown_site later (omega arith) none).test_failed
