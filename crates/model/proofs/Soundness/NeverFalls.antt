-- No step of a delivery lowers an estimate or a value count of the coordinator, whatever the
-- network and whatever waits: so in mid-delivery they are at most what the delivery comes to.
--
--   NoLess c c'        each number of c' is at least that of c
--   received_no_less   after any message; asked-no-less after an announcement
--   steps_no_less      after any number of steps
use Rattle.std.specs.Prelude.{if◌then◌else◌}
use mathlib.Core.Path.{◌≡◌, refl}
use mathlib.Core.Bool.{Bool, true, false}
use mathlib.Core.List.{List, [], ◌∷◌}
use Prim.Native.Nat.{ℕ, zero, suc, ◌+◌, ◌≤◌}
use native.Mathlib.Omega.{arith}
use lib.Dec.{eqb, ltb, leb}
use lib.ListN.{get_or, set}
use Rattle.model.specs.declared.Settings.{Settings}
use Rattle.model.specs.declared.Message.{Message}
use Rattle.model.specs.declared.Phase.{Phase}
use Rattle.model.specs.declared.Phase.TheVariants.{Idle, Collecting, Probing, Announcing}
use Rattle.model.specs.Settings.{threshold_of}
use Rattle.model.specs.Messages.{to_coordinator, is_item_report}
use Rattle.model.specs.Site.{one_more_at}
use Rattle.model.specs.Coordinator.{Coordinator, CoordinatorStep, with_phase, at_rest, takes_item_report, takes_count_report, closed, enough, narrowed, halved, middle, receives_in, coordinator_receives, is_announcing, announced_in, announced}
use Rattle.model.specs.Network.{Network, Delivered, hand_over, hand_to_coordinator, hand_to_site}
use Rattle.model.specs.DeliveryClaims.{Delivery, delivery, delivery_step, delivery_steps}

-- Every estimate and value count is as large or larger.
pub record NoLess (c c' : Coordinator) : Type 0 where
  pub estimates : (item : ℕ) → get_or c.estimates item 0 ≤ get_or c'.estimates item 0
  pub values : (value : ℕ) → get_or c.histogram value 0 ≤ get_or c'.histogram value 0

no_less_self : (c : Coordinator) → NoLess c c
no_less_self c = record { estimates = λ item. omega arith; values = λ value. omega arith }

-- Only other numbers differ.
no_less_same : (c c' : Coordinator)
    → c'.estimates ≡ c.estimates
    → c'.histogram ≡ c.histogram
    → NoLess c c'
no_less_same c c' same-estimates same-values = record {
  estimates = λ item. rw same-estimates (omega arith);
  values = λ value. rw same-values (omega arith);
}

no_less_then : {c c' c'' : Coordinator} → NoLess c c' → NoLess c' c'' → NoLess c c''
no_less_then first second = record {
  estimates = λ item. omega (arith, first.estimates item, second.estimates item);
  values = λ value. omega (arith, first.values value, second.values value);
}

-- A place that gained an amount.
gained_no_less : (numbers : List ℕ) (place amount x : ℕ)
    → get_or numbers x 0 ≤ get_or (set numbers place (get_or numbers place 0 + amount)) x 0
gained_no_less [] place amount x = omega arith
gained_no_less (y ∷ ys) zero amount zero = omega arith
gained_no_less (y ∷ ys) zero amount (suc x) = omega arith
gained_no_less (y ∷ ys) (suc place) amount zero = omega arith
gained_no_less (y ∷ ys) (suc place) amount (suc x) = gained_no_less ys place amount x

-- ---- A message at the coordinator

-- What holds of both branches holds of the choice.
pub either : {A : Type 0} (P : A → Type 0) (test : Bool) (x y : A) → P x → P y
    → P (if test then x else y)
either P true x y of-x of-y = of-x
either P false x y of-x of-y = of-y

module _ (settings : Settings) (c : Coordinator) where
  abbrev NoLessAfter : CoordinatorStep → Type 0
  NoLessAfter after = NoLess c after.coordinator

  -- Kinds 4 and 6 touch neither list.
  closed_same : (total : ℕ) → NoLessAfter (closed settings c total)
  closed_same total =
      either NoLessAfter (leb 2 (threshold_of settings total)) _ _ (no_less_same c _ refl refl)
      (no_less_same c _ refl refl)

  narrowed_same : (low high : ℕ) → NoLessAfter (narrowed c low high)
  narrowed_same low high =
      either NoLessAfter (eqb low high) _ _ (no_less_same c _ refl refl)
      (no_less_same c _ refl refl)

  halved_same : (low high count : ℕ) → NoLessAfter (halved settings c low high count)
  halved_same low high count =
      either NoLessAfter (enough settings.rank c.base count) _ _
      (narrowed_same low (middle low high)) (narrowed_same (middle low high + 1) high)

  -- Kinds 1 and 2 add to one place.
  item_no_less : (m : Message) → NoLessAfter (takes_item_report c m)
  item_no_less m = record {
    estimates = gained_no_less c.estimates m.a m.b;
    values = λ value. omega arith;
  }

  count_no_less : (m : Message) → NoLessAfter (takes_count_report settings c m)
  count_no_less m = record {
    estimates = λ item. omega arith;
    values = λ value.
        either (λ (counts : List ℕ). get_or c.histogram value 0 ≤ get_or counts value 0)
        (eqb c.threshold 1) (one_more_at c.histogram m.b) c.histogram
        (gained_no_less c.histogram m.b 1 value) (omega arith);
  }

  received_in : (phase : Phase) (m : Message) → NoLessAfter (receives_in settings c phase m)
  received_in Idle m =
      either NoLessAfter (is_item_report m) _ _ (item_no_less m) (count_no_less m)
  received_in (Collecting site) m =
      either NoLessAfter (ltb (site + 1) settings.sites) _ _ (no_less_same c _ refl refl)
      (closed_same (c.total + m.a))
  received_in (Probing site low high sum) m =
      either NoLessAfter (ltb (site + 1) settings.sites) _ _ (no_less_same c _ refl refl)
      (halved_same low high (sum + m.b))
  received_in (Announcing site) m = no_less_self c

  -- A message of any kind, in any phase.
  pub received_no_less : (m : Message) → NoLessAfter (coordinator_receives settings c m)
  received_no_less m = received_in c.phase m

  asked_in : (phase : Phase) → NoLessAfter (announced_in settings c phase)
  asked_in Idle = no_less_self c
  asked_in (Collecting site) = no_less_self c
  asked_in (Probing site low high sum) = no_less_self c
  asked_in (Announcing site) =
      either (NoLess c) (ltb (site + 1) settings.sites)
      (with_phase c (Announcing (site + 1))) (at_rest c)
      (no_less_same c _ refl refl) (no_less_same c _ refl refl)

  -- An announcement that is asked for.
  pub asked_no_less : NoLessAfter (announced settings c)
  asked_no_less = asked_in c.phase

-- ---- The steps of a delivery

handed_no_less : (settings : Settings) (network : Network) (m : Message)
    → NoLess network.coordinator (hand_over settings network m).network.coordinator
handed_no_less settings network m =
    either (λ (after : Delivered). NoLess network.coordinator after.network.coordinator)
    (to_coordinator m) (hand_to_coordinator settings network m) (hand_to_site network m)
    (received_no_less settings network.coordinator m) (no_less_self network.coordinator)

step_no_less : (settings : Settings) (network : Network) (waiting log : List Message)
    → NoLess network.coordinator
    (delivery_step settings (delivery network waiting log)).network.coordinator
step_no_less settings network [] log =
    either (λ (d : Delivery). NoLess network.coordinator d.network.coordinator)
    (is_announcing network.coordinator.phase) _ _
    (asked_no_less settings network.coordinator) (no_less_self network.coordinator)
step_no_less settings network (m ∷ waiting) log = handed_no_less settings network m

-- Any number of steps of any delivery.
pub steps_no_less : (fuel : ℕ) (settings : Settings) (d : Delivery)
    → NoLess d.network.coordinator (delivery_steps fuel settings d).network.coordinator
steps_no_less zero settings d = no_less_self d.network.coordinator
steps_no_less (suc fuel) settings d =
    no_less_then (step_no_less settings d.network d.waiting d.log)
    (steps_no_less fuel settings (delivery_step settings d))
