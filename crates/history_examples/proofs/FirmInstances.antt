-- Request N10's instances hold. The batch of seven draws is a call that keeps its contract; that
-- its listed codes have a firm share is the theorem's word, not a computation.
--
--   seven_reached      the history
--   firm_instances     the table
use mathlib.Core.Path.{◌≡◌, refl, ap}
use Prim.Native.Nat.{ℕ, ◌+◌, ◌-◌, ◌*◌}
use native.Mathlib.Omega.{arith}
use lib.ListN.{replicate}
use Rattle.model.specs.Limits.{value_count}
use Rattle.model.specs.Draws.{is_taken}
use Rattle.model.specs.Claims.{counted}
use Rattle.model.specs.Instances.{settings_a}
use Rattle.model.proofs.Thresholds.SettingsLaws.{settled}
use Rattle.history.specs.Histories.{Reachable}
use Rattle.history_examples.specs.OneBatch.{answer_for}
use Rattle.demands.specs.Reading.{ListRight}
use Rattle.history_examples.specs.FirmInstances.{seven_draws, after_seven, three_before, three_after, answer_of_two, settings400, forty_four, FirmInstances}
use Rattle.demands.proofs.FirmShares.{listed_firm}
use Rattle.demands.proofs.Theorem.{demands}
use Rattle.history_examples.proofs.OneBatch.{reached_by_batch}

-- Seven draws in one batch, with a log of 75 records.
seven_reached : Reachable settings_a after_seven
unfolding value_count is_taken
seven_reached =
    reached_by_batch seven_draws (replicate 300 8) (answer_for after_seven (replicate 100 8))
    (record {
      refusal = refl;
      accepted = refl;
      written = refl;
      sites = refl;
      coordinator = refl;
      site_memory = refl;
      coordinator_memory = refl;
      log = refl;
    })

-- What is promised of the list there.
list_right : ListRight settings_a after_seven three_before three_after answer_of_two
unfolding value_count is_taken
list_right =
    ((demands.second settings_a after_seven refl seven_reached
    ).at_rest (record { nothing_waits = refl; idle = refl })
    ).reads_right.list 1034 _ _ _ (omega arith)
    (record { refusal = refl; count = refl; list = refl })

pub firm_instances : FirmInstances
unfolding value_count is_taken
firm_instances = record {
  seven_reached = seven_reached;
  total_6 = refl;
  two_listed = record { refusal = refl; count = refl; list = refl };
  three_of_code_0 = refl;
  seven_in_all = refl;
  firm_0 = list_right.listed_firm refl 0 refl;
  firm_1 = list_right.listed_firm refl 1 refl;
  one_listed = refl;
  thirty_two = refl;
  forty_four_lem = refl;
  firm_32 = listed_firm settings400 refl forty_four 0 refl;
  not_four = omega arith;
  within_leeway = λ settings item arrivals passes firm.
      let whole : settings.phi - settings.epsilon + settings.epsilon ≡ settings.phi =
      omega (arith, (settled settings passes).phi_epsilon) in
      omega (arith, firm, ap (λ (z : ℕ). z * counted arrivals) whole);
  a_quarter = λ item arrivals firm. omega (arith, firm);
}
