-- Request N1's history: the batch of twelve draws is a call that keeps its contract; that every
-- draw of it is accounted for is the theorem's word, not a computation.
--
--   twelve_reached      the history
--   dropped_history     what holds there
use mathlib.Core.Path.{refl}
use native.Mathlib.Omega.{arith}
use lib.ListN.{replicate}
use Rattle.model.specs.Limits.{value_count}
use Rattle.model.specs.Draws.{is_taken}
use Rattle.model.specs.Instances.{settings_a}
use Rattle.forgotten.specs.DroppedInstances.{twelve_draws}
use Rattle.history.specs.Histories.{Reachable}
use Rattle.history_examples.specs.OneBatch.{answer_for}
use Rattle.history_examples.specs.DroppedHistory.{after_twelve, DroppedHistory}
use Rattle.demands.proofs.Theorem.{demands}
use Rattle.history_examples.proofs.OneBatch.{reached_by_batch}

-- Twelve draws in one batch, with a log of 150 records.
twelve_reached : Reachable settings_a after_twelve
unfolding value_count is_taken
twelve_reached =
    reached_by_batch twelve_draws (replicate 600 8) (answer_for after_twelve (replicate 208 8))
    (record {
      refusal = refl;
      accepted = refl;
      written = refl;
      sites = refl;
      coordinator = refl;
      site_memory = refl;
      coordinator_memory = refl;
      log = refl;
    })

pub dropped_history : DroppedHistory
unfolding value_count is_taken
dropped_history = record {
  twelve_reached = twelve_reached;
  many_messages = refl;
  one_forgotten = refl;
  who_left = refl;
  accounted_there =
      (demands.dropped settings_a after_twelve refl twelve_reached).accounted 0 (omega arith);
}
