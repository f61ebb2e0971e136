-- The call so far, with the arrivals from the loop's index on still to come. Until one is refused
-- nothing has stopped it.
use mathlib.Core.Path.{◌≡◌}
use Rattle.std.specs.Prelude.{None}
use Rattle.model.specs.Held.{held_by}
use Rattle.tracker_steps.specs.Steps.{batch_outcome, batch_held}
use Rattle.tracker.proofs.Turning.{with_counts, Standing}
use Rattle.tracker.proofs.run_batch.Given as goal

abbrev pub invariant-loop-arrival : goal.invariant-loop-arrival
invariant-loop-arrival l = record {
  goes_on : l.answer.refusal ≡ None;
  standing : Standing (record {
    settings = l.settings;
    held = held_by l.fn.sites l.fn.coordinator l.fn.site_memory l.fn.coordinator_memory;
    arrivals = l.arrivals;
    log = l.fn.log;
  }) l.arrival-index
      (batch_held (with_counts (batch_outcome l.answer) l.counts) l.site_memory
      l.coordinator_memory l.log);
}
