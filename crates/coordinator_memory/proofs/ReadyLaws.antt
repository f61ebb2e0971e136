-- The consistency test decides what a step asks: a consistent coordinator is sound, and its numbers
-- are within document 01's limit, which is below the one that the steps need.
--
--   within_more                     a greater limit serves as well
--   within_of_consistent            numbers within the limit
--   ready_of_consistent             ready for a step
use mathlib.Core.Path.{◌≡◌}
use mathlib.Core.Bool.{true}
use mathlib.Core.List.{List}
use Prim.Native.Nat.{ℕ, ◌≤◌}
use native.Mathlib.Omega.{arith}
use lib.ListN.{length}
use Rattle.model.specs.declared.Settings.{Settings}
use Rattle.model.specs.declared.CoordinatorRecord.{CoordinatorRecord}
use Rattle.model.specs.Limits.{coordinator_limit}
use Rattle.model.specs.Coordinator.{Coordinator}
use Rattle.model.specs.CoordinatorMemory.{coordinator_in, coordinator_words, coordinator_consistent}
use Rattle.model.proofs.Soundness.ConsistentCoordinator.{coordinator_sound_of, coordinator_within_of}
use Rattle.coordinator_steps.specs.Ready.{NumbersWithin, CoordinatorReady, ready_limit}
use Rattle.coordinator_kinds.proofs.MemoryLaws.{estimates_long, histogram_long}

-- ---- The consistency test

-- A greater limit serves as well.
pub within_more : (limit more : ℕ) (c : Coordinator)
    → limit ≤ more
    → NumbersWithin limit c
    → NumbersWithin more c
within_more limit more c rises within = record {
  total_within = omega (arith, within.total_within);
  estimates_within = λ item. omega (arith, within.estimates_within item);
  histogram_within = λ value. omega (arith, within.histogram_within value);
  sum_within = omega (arith, within.sum_within);
}

pub within_of_consistent : (settings : Settings) (c : Coordinator)
    → coordinator_consistent settings c ≡ true
    → NumbersWithin coordinator_limit c
within_of_consistent settings c holds =
    let within = coordinator_within_of settings c holds in
    record {
      total_within = within.total_within;
      estimates_within = within.estimates_within;
      histogram_within = within.values_within;
      sum_within = within.sum_within;
    }

-- The law of the steps: what the public test accepts, they can take.
pub ready_of_consistent : (settings : Settings) (numbers : CoordinatorRecord) (memory : List ℕ)
    → coordinator_words settings ≤ length memory
    → coordinator_consistent settings (coordinator_in settings numbers memory) ≡ true
    → CoordinatorReady settings (coordinator_in settings numbers memory)
ready_of_consistent settings numbers memory long holds =
    let here = coordinator_in settings numbers memory in
    record {
      sound = coordinator_sound_of settings here (estimates_long settings numbers memory long)
          (histogram_long settings numbers memory long) holds;
      within = within_more coordinator_limit ready_limit here (omega arith)
          (within_of_consistent settings here holds);
    }
