-- Refusal 11 of the coordinator means `SoundCoordinator` within the limit: it passes the test
-- exactly if it is sound and no number is above the limit. Document 01, "Inconsistent".
--
--   CoordinatorWithin              its numbers within the limit
--   coordinator_sound_of, coordinator_within_of   of one that passes, with its lists' lengths
--   coordinator_consistent_of      a sound one within the limit passes
use mathlib.Core.Path.{◌≡◌, refl}
use mathlib.Core.Bool.{Bool, true, ◌&&◌, ◌||◌, not}
use mathlib.Core.List.{List, [], ◌∷◌}
use Prim.Native.Nat.{ℕ, zero, suc, ◌≤◌}
use native.Mathlib.Omega.{arith}
use native.Mathlib.Decide.{ℕ_discrete}
use lib.Dec.{eqb, ltb, leb}
use lib.ListN.{length, get_or}
use borrow.Author.Tests.{leb-true, ltb-true, eqb-true, le-leb, lt-ltb, eq-eqb, ne_eqb}
use Rattle.laws.proofs.Tests.{both_true}
use Rattle.model.specs.declared.Settings.{Settings}
use Rattle.model.specs.declared.Phase.{Phase}
use Rattle.model.specs.declared.Phase.TheVariants.{Idle, Collecting, Probing, Announcing}
use Rattle.model.specs.Limits.{top_value, value_count, coordinator_limit}
use Rattle.model.specs.Settings.{threshold_of}
use Rattle.model.specs.SiteMemory.{sum}
use Rattle.model.specs.Coordinator.{Coordinator}
use Rattle.model.specs.CoordinatorMemory.{all_within, phase_consistent, coordinator_consistent}
use Rattle.model.specs.SoundNetwork.{SoundPhase, sum_of_phase, SoundCoordinator}

-- "a number of the desk's memory or record, or the sum in its phase, above 100,000,000,000",
-- denied.
pub record CoordinatorWithin (c : Coordinator) : Type 0 where
  pub estimates_within : (item : ℕ) → get_or c.estimates item 0 ≤ coordinator_limit
  pub values_within : (value : ℕ) → get_or c.histogram value 0 ≤ coordinator_limit
  pub total_within : c.total ≤ coordinator_limit
  pub sum_within : sum_of_phase c.phase ≤ coordinator_limit

-- ---- Lists within a limit

within_of : (limit : ℕ) (numbers : List ℕ)
    → all_within limit numbers ≡ true
    → (place : ℕ) → get_or numbers place 0 ≤ limit
within_of limit [] passes place = omega arith
within_of limit (x ∷ xs) passes zero =
    leb-true x limit (both_true (leb x limit) _ passes).first_true
within_of limit (x ∷ xs) passes (suc place) =
    within_of limit xs (both_true (leb x limit) _ passes).second_true place

all_within_lem : (limit : ℕ) (numbers : List ℕ)
    → ((place : ℕ) → get_or numbers place 0 ≤ limit)
    → all_within limit numbers ≡ true
all_within_lem limit [] each = refl
all_within_lem limit (x ∷ xs) each =
    rw (le-leb x limit (each 0), all_within_lem limit xs (λ place. each (suc place)))

-- ---- The phase

phase_sound : (settings : Settings) (signals : ℕ) (phase : Phase)
    → phase_consistent settings signals phase ≡ true
    → SoundPhase settings signals phase
phase_sound settings signals Idle passes = ltb-true _ _ passes
phase_sound settings signals (Collecting site) passes =
    let rows = both_true _ _ passes in
    record {
      all_signals = eqb-true _ _ rows.first_true;
      site_known = ltb-true _ _ rows.second_true;
    }
phase_sound settings signals (Probing site low high sum) passes =
    let row-5 = both_true _ _ passes in
    let row-4 = both_true _ _ row-5.first_true in
    let row-3 = both_true _ _ row-4.first_true in
    let row-2 = both_true _ _ row-3.first_true in
    record {
      closing = record {
        all_signals = eqb-true _ _ row-2.first_true;
        site_known = ltb-true _ _ row-2.second_true;
      };
      interval = record {
        low_below = ltb-true _ _ row-3.second_true;
        high_within = leb-true _ _ row-4.second_true;
      };
    }
phase_sound settings signals (Announcing site) passes =
    let rows = both_true _ _ passes in
    record {
      all_signals = eqb-true _ _ rows.first_true;
      site_known = ltb-true _ _ rows.second_true;
    }

phase_sum : (settings : Settings) (signals : ℕ) (phase : Phase)
    → phase_consistent settings signals phase ≡ true
    → sum_of_phase phase ≤ coordinator_limit
phase_sum settings signals Idle passes = omega arith
phase_sum settings signals (Collecting site) passes = omega arith
phase_sum settings signals (Probing site low high sum) passes =
    let others : Bool =
    eqb signals settings.sites && ltb site settings.sites && ltb low high
    && leb high top_value in
    leb-true sum coordinator_limit
    (both_true others (leb sum coordinator_limit) passes).second_true
phase_sum settings signals (Announcing site) passes = omega arith

phase_consistent_lem : (settings : Settings) (signals : ℕ) (phase : Phase)
    → SoundPhase settings signals phase
    → sum_of_phase phase ≤ coordinator_limit
    → phase_consistent settings signals phase ≡ true
phase_consistent_lem settings signals Idle few within = lt-ltb signals settings.sites few
phase_consistent_lem settings signals (Collecting site) closing within =
    rw (
      eq-eqb signals settings.sites closing.all_signals,
      lt-ltb site settings.sites closing.site_known,
    )
phase_consistent_lem settings signals (Probing site low high sum) halving within =
    rw (
      eq-eqb signals settings.sites halving.closing.all_signals,
      lt-ltb site settings.sites halving.closing.site_known,
      lt-ltb low high halving.interval.low_below,
      le-leb high top_value halving.interval.high_within,
      le-leb sum coordinator_limit within,
    )
phase_consistent_lem settings signals (Announcing site) closing within =
    rw (
      eq-eqb signals settings.sites closing.all_signals,
      lt-ltb site settings.sites closing.site_known,
    )

-- ---- The coordinator

module _ (settings : Settings) (c : Coordinator) where
  -- At threshold 1 the sums are tested; at another nothing is asked of them.
  sums_sound : (not (eqb c.threshold 1) || eqb (sum c.histogram) c.total) ≡ true
      → c.threshold ≡ 1
      → sum c.histogram ≡ c.total
  sums_sound passes one = eqb-true _ _ (rw (eq-eqb c.threshold 1 one) at passes)

  sums_consistent : (c.threshold ≡ 1 → sum c.histogram ≡ c.total)
      → (not (eqb c.threshold 1) || eqb (sum c.histogram) c.total) ≡ true
  sums_consistent same = by_threshold (ℕ_discrete c.threshold 1)
    where
      by_threshold : Dec (c.threshold ≡ 1)
          → (not (eqb c.threshold 1) || eqb (sum c.histogram) c.total) ≡ true
      by_threshold (yes one) =
          rw (eq-eqb c.threshold 1 one, eq-eqb (sum c.histogram) c.total (same one))
      by_threshold (no more) = rw (ne_eqb c.threshold 1 more)

  -- The rows of the test that pass.
  record Rows : Type 0 where
    phase_row : phase_consistent settings c.signals c.phase ≡ true
    threshold_row : eqb c.threshold (threshold_of settings c.base) ≡ true
    base_row : leb c.base c.total ≡ true
    quantile_row : leb c.quantile top_value ≡ true
    sums_row : (not (eqb c.threshold 1) || eqb (sum c.histogram) c.total) ≡ true
    estimates_row : all_within coordinator_limit c.estimates ≡ true
    values_row : all_within coordinator_limit c.histogram ≡ true
    total_row : leb c.total coordinator_limit ≡ true

  rows_of : coordinator_consistent settings c ≡ true → Rows
  rows_of passes =
      let row-8 = both_true _ (leb c.total coordinator_limit) passes in
      let row-7 = both_true _ _ row-8.first_true in
      let row-6 = both_true _ _ row-7.first_true in
      let row-5 = both_true _ _ row-6.first_true in
      let row-4 = both_true _ _ row-5.first_true in
      let row-3 = both_true _ _ row-4.first_true in
      let row-2 = both_true _ _ row-3.first_true in
      record {
        phase_row = row-2.first_true;
        threshold_row = row-2.second_true;
        base_row = row-3.second_true;
        quantile_row = row-4.second_true;
        sums_row = row-5.second_true;
        estimates_row = row-6.second_true;
        values_row = row-7.second_true;
        total_row = row-8.second_true;
      }

  -- What passes is sound.
  pub coordinator_sound_of : length c.estimates ≡ settings.universe
      → length c.histogram ≡ value_count
      → coordinator_consistent settings c ≡ true
      → SoundCoordinator settings c
  coordinator_sound_of estimates_long histogram_long passes =
      let rows : Rows = rows_of passes in
      record {
        numbers = record {
          estimates_length = estimates_long;
          histogram_length = histogram_long;
          threshold_of_base = eqb-true _ _ rows.threshold_row;
          base_within = leb-true _ _ rows.base_row;
          quantile_within = leb-true _ _ rows.quantile_row;
          histogram_sum = sums_sound rows.sums_row;
        };
        phase_sound = phase_sound settings c.signals c.phase rows.phase_row;
      }

  -- What passes is within the limit.
  pub coordinator_within_of : coordinator_consistent settings c ≡ true → CoordinatorWithin c
  coordinator_within_of passes =
      let rows : Rows = rows_of passes in
      record {
        estimates_within = within_of coordinator_limit c.estimates rows.estimates_row;
        values_within = within_of coordinator_limit c.histogram rows.values_row;
        total_within = leb-true _ _ rows.total_row;
        sum_within = phase_sum settings c.signals c.phase rows.phase_row;
      }

  -- What is sound and within the limit passes.
  pub coordinator_consistent_of : SoundCoordinator settings c
      → CoordinatorWithin c
      → coordinator_consistent settings c ≡ true
  coordinator_consistent_of sound within =
      rw (
        phase_consistent_lem settings c.signals c.phase sound.phase_sound
            within.sum_within,
        eq-eqb c.threshold (threshold_of settings c.base) sound.numbers.threshold_of_base,
        le-leb c.base c.total sound.numbers.base_within,
        le-leb c.quantile top_value sound.numbers.quantile_within,
        sums_consistent sound.numbers.histogram_sum,
        all_within_lem coordinator_limit c.estimates within.estimates_within,
        all_within_lem coordinator_limit c.histogram within.values_within,
        le-leb c.total coordinator_limit within.total_within,
      )
