-- The claims on forgotten draws, put together.
use Rattle.forgotten.specs.Departures.{DroppedClaims}
use Rattle.model.proofs.Thresholds.SettingsLaws.{settled}
use Rattle.model.proofs.Thresholds.TestedMemory.{site_tested}
use Rattle.model.proofs.Soundness.ConsistentSites.{sound_of_consistent}
use Rattle.model.specs.SiteMemory.{site_in}
use Rattle.model.proofs.Soundness.SoundSites.{taken_of_no_refusal}
use Rattle.model.proofs.Soundness.NeverFewer.{counters_kept, arrivals_kept, dropped_kept}
use Rattle.forgotten.proofs.Reported.{told_none}
use Rattle.forgotten.proofs.Accounting.{one_more}
use Rattle.forgotten.proofs.RunsAccounted.{accounted_run}

pub dropped_claims : DroppedClaims
dropped_claims = record {
  one_more = λ settings numbers memory arrival accepted taken.
      let tested = site_tested settings numbers memory accepted in
      one_more (settled settings tested.settings_accepted).capacity.at_least
      (taken_of_no_refusal settings (site_in settings numbers memory) arrival taken)
      (sound_of_consistent settings numbers memory tested.memory_long tested.consistent);
  left_alone = λ which site m. record {
    same_counters = counters_kept.by_message site m;
    same_dropped = dropped_kept.by_message site m;
    same_arrivals = arrivals_kept.by_message site m;
    none_reported = told_none which site m;
  };
  run_accounted = λ settings arrivals passes. (accounted_run settings passes arrivals).accounted;
}
