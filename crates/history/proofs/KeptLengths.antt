-- A message at the coordinator changes numbers, never how many estimates and value counts there
-- are: of any kind, in any phase, whatever the coordinator.
--
--   SameLengths, length_received
use Rattle.std.specs.Prelude.{if◌then◌else◌}
use mathlib.Core.Path.{◌≡◌, refl, ap}
use mathlib.Core.Bool.{Bool, true, false}
use mathlib.Core.List.{List}
use Prim.Native.Nat.{ℕ, ◌+◌}
use lib.Dec.{eqb, ltb, leb}
use lib.ListN.{length, length-set}
use Rattle.model.specs.declared.Settings.{Settings}
use Rattle.model.specs.declared.Message.{Message}
use Rattle.model.specs.declared.Phase.{Phase}
use Rattle.model.specs.declared.Phase.TheVariants.{Idle, Collecting, Probing, Announcing}
use Rattle.model.specs.Settings.{threshold_of}
use Rattle.model.specs.Messages.{is_item_report}
use Rattle.model.specs.Site.{one_more_at}
use Rattle.model.specs.Coordinator.{Coordinator, CoordinatorStep, closed, enough, narrowed, halved, middle, receives_in, coordinator_receives}

-- As many estimates and value counts as before.
pub record SameLengths (c after : Coordinator) : Type 0 where
  pub estimates : length after.estimates ≡ length c.estimates
  pub values : length after.histogram ≡ length c.histogram

module _ (settings : Settings) (c : Coordinator) where
  abbrev Same : CoordinatorStep → Type 0
  Same after = SameLengths c after.coordinator

  -- What holds of both branches holds of the choice.
  either : {A : Type 0} (P : A → Type 0) (test : Bool) (x y : A) → P x → P y
      → P (if test then x else y)
  either P true x y of-x of-y = of-x
  either P false x y of-x of-y = of-y

  untouched : (after : Coordinator)
      → after.estimates ≡ c.estimates
      → after.histogram ≡ c.histogram
      → SameLengths c after
  untouched after same-estimates same-values = record {
    estimates = ap length same-estimates;
    values = ap length same-values;
  }

  closed_same : (total : ℕ) → Same (closed settings c total)
  closed_same total =
      either Same (leb 2 (threshold_of settings total)) _ _ (untouched _ refl refl)
      (untouched _ refl refl)

  narrowed_same : (low high : ℕ) → Same (narrowed c low high)
  narrowed_same low high =
      either Same (eqb low high) _ _ (untouched _ refl refl) (untouched _ refl refl)

  halved_same : (low high count : ℕ) → Same (halved settings c low high count)
  halved_same low high count =
      either Same (enough settings.rank c.base count) _ _
      (narrowed_same low (middle low high)) (narrowed_same (middle low high + 1) high)

  received_in : (phase : Phase) (m : Message) → Same (receives_in settings c phase m)
  received_in Idle m =
      either Same (is_item_report m) _ _
      (record { estimates = length-set c.estimates m.a _; values = refl })
      (record {
        estimates = refl;
        values = either (λ (counts : List ℕ). length counts ≡ length c.histogram)
            (eqb c.threshold 1) (one_more_at c.histogram m.b) c.histogram
            (length-set c.histogram m.b _) refl;
      })
  received_in (Collecting site) m =
      either Same (ltb (site + 1) settings.sites) _ _ (untouched _ refl refl)
      (closed_same (c.total + m.a))
  received_in (Probing site low high sum) m =
      either Same (ltb (site + 1) settings.sites) _ _ (untouched _ refl refl)
      (halved_same low high (sum + m.b))
  received_in (Announcing site) m = untouched _ refl refl

  -- A message of any kind, in any phase.
  pub length_received : (m : Message) → Same (coordinator_receives settings c m)
  length_received m = received_in c.phase m
