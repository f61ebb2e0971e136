-- The stages that a close goes through next: the announcements begin, a halving begins, or what a
-- halving left decides between the two.
--
--   announcing_begins, halving_begins   the coordinator is in the first phase of either
--   narrowed_stage                      the stage for an interval of at most 2 ^ h values
--   same_together                       a coordinator with another phase or quantile
use mathlib.Core.Path.{◌≡◌, refl}
use mathlib.Core.Bool.{Bool, true, false}
use mathlib.Core.List.{[], ◌∷◌}
use Prim.Native.Nat.{ℕ, ◌+◌, ◌*◌, ◌^◌, ◌≤◌, ◌<◌}
use native.Mathlib.Omega.{arith}
use lib.Dec.{eqb, ltb}
use borrow.Author.Tests.{lt-ltb, eqb-false}
use Rattle.model.specs.declared.Settings.{Settings}
use Rattle.model.specs.declared.Phase.TheVariants.{Probing, Announcing}
use Rattle.model.specs.Limits.{top_value}
use Rattle.model.specs.Messages.{probe}
use Rattle.model.specs.Coordinator.{Coordinator, with_phase, with_quantile, middle, narrowed}
use Rattle.model.specs.Network.{Network, with_coordinator}
use Rattle.model.specs.SoundNetwork.{SoundNumbers}
use Rattle.model.proofs.Thresholds.SettingsLaws.{Settled}
use Rattle.mid_delivery.proofs.Soundness.CoordinatorSound.{numbers_phase, numbers_quantile}
use Rattle.mid_delivery.proofs.Soundness.Together.{Together, together_coordinator}
use Rattle.mid_delivery.proofs.Stages.Stages.{Stage, StageAfter, halving, announcing}

module _ {settings : Settings} {network : Network}
    (fit : Settled settings)
    (together : Together settings network 0 0)
    (all_signals : network.coordinator.signals ≡ settings.sites) where
  -- No announcement was asked for yet.
  pub announcing_begins : (left : ℕ)
      → network.coordinator.phase ≡ Announcing 0
      → 2 * settings.sites ≤ left
      → Stage settings network [] left
  announcing_begins left phase_is steps =
      let some : ltb 0 settings.sites ≡ true =
      lt-ltb 0 settings.sites (omega (arith, fit.sites.at_least)) in
      announcing (record {
        i = 0;
        w = 0;
        j = 0;
        waits = refl;
        reached = refl;
        within = omega arith;
        phase_is = rw some phase_is;
        signals_are = rw some all_signals;
        together = together;
        steps_left = omega arith;
      })

  -- Site 0 is asked for the middle of the interval.
  pub halving_begins : (left h low high : ℕ)
      → network.coordinator.phase ≡ Probing 0 low high 0
      → low < high
      → high ≤ top_value
      → high < low + 2 ^ h
      → 2 * (settings.sites * h) + 2 * settings.sites ≤ left
      → Stage settings network (probe 0 (middle low high) ∷ []) left
  halving_begins left h low high phase_is wide within narrow steps = halving (record {
    answered = false;
    j = 0;
    low = low;
    high = high;
    sum = 0;
    count = 0;
    h = h;
    waits = refl;
    phase_is = phase_is;
    halving = record {
      closing = record {
        all_signals = all_signals;
        site_known = omega (arith, fit.sites.at_least);
      };
      interval = record { low_below = wide; high_within = within };
    };
    narrow = narrow;
    count_within = omega arith;
    sum_within = omega arith;
    together = together;
    steps_left = omega arith;
  })

module _ {settings : Settings} {network : Network}
    (fit : Settled settings)
    (together : Together settings network 0 0)
    (all_signals : network.coordinator.signals ≡ settings.sites) where
  abbrev c : Coordinator
  c = network.coordinator

  -- The coordinator's phase, or its quantile with it, is all that changes.
  pub same_together : (c' : Coordinator)
      → SoundNumbers settings c'
      → c.threshold ≤ c'.threshold
      → c'.total ≡ c.total
      → Together settings (with_coordinator network c') 0 0
  same_together c' numbers rises same =
      together_coordinator together c' 0 0 numbers rises (λ j none. absurd (omega arith))
      (omega arith)

  -- One value is left, or another halving begins.
  pub narrowed_stage : (left h low high : ℕ)
      → low ≤ high
      → high ≤ top_value
      → high < low + 2 ^ h
      → 2 * (settings.sites * h) + 2 * settings.sites ≤ left
      → StageAfter settings network [] left (narrowed c low high)
  narrowed_stage left h low high ordered within narrow steps = by_width (eqb low high) refl
    where
      one_value : Together settings
          (with_coordinator network (with_quantile c low (Announcing 0))) 0 0
      one_value =
          same_together _ (numbers_quantile together.numbers low (Announcing 0) (omega arith))
          (omega arith) refl

      more_values : Together settings
          (with_coordinator network (with_phase c (Probing 0 low high 0))) 0 0
      more_values =
          same_together _ (numbers_phase together.numbers (Probing 0 low high 0)) (omega arith)
          refl

      by_width : (done : Bool) → eqb low high ≡ done
          → StageAfter settings network [] left (narrowed c low high)
      by_width true same =
          rw same (announcing_begins fit one_value all_signals left refl (omega arith))
      by_width false differ =
          rw differ
          (halving_begins fit more_values all_signals left h low high refl
          (omega (arith, eqb-false low high differ)) within narrow steps)
