-- The coordinator's numbers stay sound whichever message it takes, for a coordinator of any
-- content. PROOF.md section 8.
--
--   numbers_fresh, numbers_phase, numbers_rest     a fresh one; another phase; at rest again
--   numbers_item, numbers_count                    kinds 1 and 2
--   numbers_total, numbers_base, numbers_quantile  kinds 4 and 6
use Rattle.std.specs.Prelude.{if◌then◌else◌}
use mathlib.Core.Path.{◌≡◌, refl, sym, ◌∙◌}
use mathlib.Core.Bool.{Bool, true, false}
use mathlib.Core.List.{List}
use Prim.Native.Nat.{ℕ, ◌+◌, ◌≤◌, ◌<◌}
use native.Mathlib.Omega.{arith}
use lib.Dec.{eqb}
use lib.ListN.{length, get_or, set, length-set, length-replicate}
use borrow.Author.Tests.{eq-eqb}
use Rattle.model.specs.declared.Settings.{Settings}
use Rattle.model.specs.declared.Phase.{Phase}
use Rattle.model.specs.Limits.{top_value, value_count}
use Rattle.model.specs.Settings.{threshold_of}
use Rattle.model.specs.Site.{one_more_at}
use Rattle.model.specs.SiteMemory.{sum}
use Rattle.model.specs.Coordinator.{Coordinator, fresh_coordinator, with_phase, with_total, with_base, with_quantile, at_rest}
use Rattle.model.specs.SoundNetwork.{SoundNumbers}
use Rattle.model.proofs.Thresholds.Threshold.{threshold_mono, threshold_of_zero}
use Rattle.model.proofs.Soundness.SoundSites.{sum_zeros, sum_one_more}
use Rattle.model.proofs.BetweenArrivals.ReportLaws.{value_counted}

-- A fresh coordinator has sound numbers.
pub numbers_fresh : (settings : Settings) → SoundNumbers settings (fresh_coordinator settings)
numbers_fresh settings = record {
  estimates_length = length-replicate {A = ℕ} settings.universe 0;
  histogram_length = length-replicate {A = ℕ} value_count 0;
  threshold_of_base = sym (threshold_of_zero settings);
  base_within = omega arith;
  quantile_within = omega arith;
  histogram_sum = λ one. sum_zeros value_count;
}

module _ {settings : Settings} {c : Coordinator} (sound : SoundNumbers settings c) where
  -- ---- Only the phase changes, or the signals with it

  -- Another phase.
  pub numbers_phase : (phase : Phase) → SoundNumbers settings (with_phase c phase)
  numbers_phase phase = record {
    estimates_length = sound.estimates_length;
    histogram_length = sound.histogram_length;
    threshold_of_base = sound.threshold_of_base;
    base_within = sound.base_within;
    quantile_within = sound.quantile_within;
    histogram_sum = sound.histogram_sum;
  }

  -- At rest: signals are 0 and the phase is idle.
  pub numbers_rest : SoundNumbers settings (at_rest c)
  numbers_rest = record {
    estimates_length = sound.estimates_length;
    histogram_length = sound.histogram_length;
    threshold_of_base = sound.threshold_of_base;
    base_within = sound.base_within;
    quantile_within = sound.quantile_within;
    histogram_sum = sound.histogram_sum;
  }

  -- ---- Kinds 4 and 6

  -- A poll's answer is below the threshold, so at threshold 1 it is 0.
  pub numbers_total : (amount : ℕ) (phase : Phase)
      → amount < c.threshold
      → SoundNumbers settings (with_total c (c.total + amount) phase)
  numbers_total amount phase below = record {
    estimates_length = sound.estimates_length;
    histogram_length = sound.histogram_length;
    threshold_of_base = sound.threshold_of_base;
    base_within = omega (arith, sound.base_within);
    quantile_within = sound.quantile_within;
    histogram_sum = λ one. omega (arith, sound.histogram_sum one);
  }

  -- The threshold only rises with the base: if it is 1 now, it was 1 before.
  pub numbers_base : (amount : ℕ) (phase : Phase)
      → 1 ≤ settings.sites
      → amount < c.threshold
      → SoundNumbers settings
      (with_base c (c.total + amount) (threshold_of settings (c.total + amount)) phase)
  numbers_base amount phase some below = record {
    estimates_length = sound.estimates_length;
    histogram_length = sound.histogram_length;
    threshold_of_base = refl;
    base_within = omega arith;
    quantile_within = sound.quantile_within;
    histogram_sum = λ one.
        let rises : threshold_of settings c.base ≤ threshold_of settings (c.total + amount) =
        threshold_mono settings some (omega (arith, sound.base_within)) in
        let was-one : c.threshold ≡ 1 = omega (arith, sound.threshold_of_base) in
        omega (arith, sound.histogram_sum was-one);
  }

  -- A quantile that a halving left.
  pub numbers_quantile : (quantile : ℕ) (phase : Phase)
      → quantile ≤ top_value
      → SoundNumbers settings (with_quantile c quantile phase)
  numbers_quantile quantile phase within = record {
    estimates_length = sound.estimates_length;
    histogram_length = sound.histogram_length;
    threshold_of_base = sound.threshold_of_base;
    base_within = sound.base_within;
    quantile_within = within;
    histogram_sum = sound.histogram_sum;
  }

  -- ---- Kinds 1 and 2

  -- Kind 1 adds to one estimate.
  pub numbers_item : (item amount : ℕ) (phase : Phase)
      → SoundNumbers settings (record {
        estimates = set c.estimates item (get_or c.estimates item 0 + amount);
        histogram = c.histogram;
        total = c.total;
        base = c.base;
        threshold = c.threshold;
        signals = c.signals;
        quantile = c.quantile;
        phase = phase;
      })
  numbers_item item amount phase = record {
    estimates_length = length-set c.estimates item _ ∙ sound.estimates_length;
    histogram_length = sound.histogram_length;
    threshold_of_base = sound.threshold_of_base;
    base_within = sound.base_within;
    quantile_within = sound.quantile_within;
    histogram_sum = sound.histogram_sum;
  }

  -- The histogram once the value is counted, if it is.
  abbrev with_value : ℕ → List ℕ
  with_value value = if eqb c.threshold 1 then one_more_at c.histogram value else c.histogram

  with_value_length : (value : ℕ) → length (with_value value) ≡ value_count
  with_value_length value = by_threshold (eqb c.threshold 1)
    where
      by_threshold : (one : Bool)
          → length (if one then one_more_at c.histogram value else c.histogram) ≡ value_count
      by_threshold true = length-set c.histogram value _ ∙ sound.histogram_length
      by_threshold false = sound.histogram_length

  with_value_sum : (value : ℕ) → value ≤ top_value → c.threshold ≡ 1
      → sum (with_value value) ≡ c.total + c.threshold
  with_value_sum value known one =
      let inside : value < value_count = value_counted value known in
      rw (eq-eqb c.threshold 1 one)
      (omega (
        arith,
        sound.histogram_sum one,
        sum_one_more c.histogram value (omega (arith, sound.histogram_length)),
      ))

  -- Kind 2 adds to the total, and at threshold 1 to a value count: both by 1 then.
  pub numbers_count : (value signals : ℕ) (phase : Phase)
      → value ≤ top_value
      → SoundNumbers settings (record {
        estimates = c.estimates;
        histogram = if eqb c.threshold 1 then one_more_at c.histogram value else c.histogram;
        total = c.total + c.threshold;
        base = c.base;
        threshold = c.threshold;
        signals = signals;
        quantile = c.quantile;
        phase = phase;
      })
  numbers_count value signals phase known = record {
    estimates_length = sound.estimates_length;
    histogram_length = with_value_length value;
    threshold_of_base = sound.threshold_of_base;
    base_within = omega (arith, sound.base_within);
    quantile_within = sound.quantile_within;
    histogram_sum = with_value_sum value known;
  }
