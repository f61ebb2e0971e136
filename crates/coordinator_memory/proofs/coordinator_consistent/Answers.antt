-- The base is known to be small when the threshold is computed.
use native.Mathlib.Omega.{arith}
use mathlib.Core.Path.{sym, ◌∙◌}
use Rattle.coordinator_memory.proofs.ConsistencyLaws.{record_facts}
use Rattle.coordinator_steps.proofs.StepLaws.{settings_fit}
use Rattle.coordinator_memory.proofs.coordinator_consistent.Goals as goal

pub threshold_of-requires : goal.threshold_of-requires
threshold_of-requires c =
    let facts = record_facts c.args.settings c.args.coordinator
    (sym c.record_consistent.ensures ∙ c.if-record_consistent.true) in
    record {
      settings_fit = settings_fit c.args.settings c.requires.settings_accepted;
      base_small = omega (arith, facts.base_within, facts.total_within);
    }
