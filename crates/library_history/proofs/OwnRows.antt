-- The rows of what a history holds are read back as they are: there are 32 records and counts, and
-- the desk's numbers fit. By crate `history`'s invariant.
--
--   sites_own           the decks' row
--   coordinator_own     the desk's row
use mathlib.Core.Path.{◌≡◌, sym, ap, ◌∙◌}
use mathlib.Core.List.{[], append-nil}
use Prim.Native.Nat.{ℕ, max, ◌≤◌}
use native.Mathlib.Omega.{arith}
use lib.ListN.{length}
use Rattle.model.specs.declared.Settings.{Settings}
use Rattle.model.specs.declared.Phase.{Phase}
use Rattle.model.specs.declared.Phase.TheVariants.{Idle, Collecting, Probing, Announcing}
use Rattle.model.specs.Limits.{most_sites, top_value}
use Rattle.model.specs.SoundNetwork.{SoundPhase}
use Rattle.model.proofs.Thresholds.SettingsLaws.{settled}
use Rattle.record_numbers.specs.Numbers.{greatest_narrow, phase_numbers, sites_numbers, sites_from, coordinator_numbers, coordinator_read}
use Rattle.record_numbers.proofs.Inverse.{sites_back}
use Rattle.coordinator_numbers.proofs.Rows.{row_claims}
use Rattle.history.specs.State.{State}
use Rattle.history.specs.Histories.{Reachable}
use Rattle.history.proofs.LoggedCounts.{length_of_log}
use Rattle.history.proofs.Accepted.{held_sound}
use Rattle.history.proofs.Arisen.{arisen}
use Rattle.single_outcome.proofs.HistoryLaws.{passes_of_reachable}

-- Signals are at most k, a class at most 1023; a phase's deck is below k, its interval within 1023.
narrow_phase : (settings : Settings) (signals quantile : ℕ) (phase : Phase)
    → settings.sites ≤ most_sites
    → quantile ≤ top_value
    → SoundPhase settings signals phase
    → let p = phase_numbers phase in
    max (max signals quantile) (max p.site (max p.low p.high)) ≤ greatest_narrow
narrow_phase settings signals quantile Idle few class below = omega (arith, few, class, below)
narrow_phase settings signals quantile (Collecting site) few class closing =
    omega (arith, few, class, closing.all_signals, closing.site_known)
narrow_phase settings signals quantile (Probing site low high sum) few class halving =
    omega (
      arith,
      few,
      class,
      halving.closing.all_signals,
      halving.closing.site_known,
      halving.interval.low_below,
      halving.interval.high_within,
    )
narrow_phase settings signals quantile (Announcing site) few class closing =
    omega (arith, few, class, closing.all_signals, closing.site_known)

module _ {settings : Settings} (state : State) (reachable : Reachable settings state) where
  pub sites_own : sites_from (sites_numbers state.held.sites) ≡ state.held.sites
  sites_own =
      let passes = passes_of_reachable state reachable in
      let ok = (arisen passes state reachable).ok in
      ap sites_from (sym (append-nil (sites_numbers state.held.sites)))
      ∙ sites_back state.held.sites [] ok.lengths.all_records
      (ap length ok.counts_are ∙ length_of_log state.log)

  pub coordinator_own :
      coordinator_read (coordinator_numbers state.held.coordinator) ≡ state.held.coordinator
  coordinator_own =
      let passes = passes_of_reachable state reachable in
      let sound = (held_sound passes (arisen passes state reachable).ok).coordinator_sound in
      let c = state.held.coordinator in
      row_claims.own_row c
      (narrow_phase settings c.signals c.quantile c.phase
      (settled settings passes).sites.at_most sound.numbers.quantile_within
      sound.phase_sound)
