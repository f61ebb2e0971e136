-- The amounts of kind 1 messages: an arrival sends at most one, and no answer is one. So a delivery
-- changes neither them nor what its sites have counted and forgotten.
--
--   reported_at_append    over two lists of messages
--   received_none, told_none, asked_none   no call that takes or asks for a message sends one
--   steps_report          any steps of a delivery; arrival-reports a whole one
--   observed_reports      what an arrival sends
use Rattle.std.specs.Prelude.{if◌then◌else◌}
use mathlib.Core.Path.{◌≡◌, refl, ap, ◌∙◌}
use mathlib.Core.Bool.{Bool, true, false}
use mathlib.Core.List.{List, [], ◌∷◌, ◌++◌}
use Prim.Native.Nat.{ℕ, zero, suc, ◌+◌}
use native.Mathlib.Omega.{arith}
use lib.Dec.{eqb, ltb, leb}
use Rattle.model.specs.declared.Settings.{Settings}
use Rattle.model.specs.declared.Arrival.{Arrival}
use Rattle.model.specs.declared.Message.{Message}
use Rattle.model.specs.declared.Phase.{Phase}
use Rattle.model.specs.declared.Phase.TheVariants.{Idle, Collecting, Probing, Announcing}
use Rattle.model.specs.Settings.{threshold_of}
use Rattle.model.specs.Messages.{to_coordinator, is_item_report, is_poll, is_probe, item_report, count_report}
use Rattle.model.specs.Site.{Site, SiteStep, reports_item, reports_count, reported_value, observed, site_receives}
use Rattle.model.specs.Coordinator.{Coordinator, CoordinatorStep, closes_round, closed, narrowed, halved, middle, enough, receives_in, is_announcing, announced_in, announced}
use Rattle.model.specs.Network.{Network, Delivered, site_at, hand_to_coordinator, hand_to_site, delivery_fuel, after_arrival}
use Rattle.model.specs.DeliveryClaims.{Delivery, delivery, delivery_step, delivery_steps, delivery_of}
use Rattle.forgotten.specs.Departures.{reported_at}
use Rattle.model.proofs.Deliveries.DeliveryTheorem.{delivery_claims}
use Rattle.model.proofs.Soundness.NeverFalls.{either}

pub reported_at_append : (which : ℕ) (first second : List Message)
    → reported_at which (first ++ second) ≡ reported_at which first + reported_at which second
reported_at_append which [] second = omega arith
reported_at_append which (m ∷ first) second = omega (arith, reported_at_append which first second)

-- ---- No answer is a kind 1

module _ (which : ℕ) where
  -- Of two lists, whichever the test chooses.
  none_of : (test : Bool) (first second : List Message)
      → reported_at which first ≡ 0
      → reported_at which second ≡ 0
      → reported_at which (if test then first else second) ≡ 0
  none_of test first second =
      either (λ (messages : List Message). reported_at which messages ≡ 0) test first second

  -- The same of two steps of the coordinator.
  none_after : (test : Bool) (first second : CoordinatorStep)
      → reported_at which first.messages ≡ 0
      → reported_at which second.messages ≡ 0
      → reported_at which (if test then first else second).messages ≡ 0
  none_after test first second =
      either (λ (after : CoordinatorStep). reported_at which after.messages ≡ 0) test first
      second

  narrowed_none : (c : Coordinator) (low high : ℕ)
      → reported_at which (narrowed c low high).messages ≡ 0
  narrowed_none c low high = none_after (eqb low high) _ _ refl refl

  -- The coordinator polls, probes, or says nothing.
  pub received_none : (settings : Settings) (c : Coordinator) (phase : Phase) (m : Message)
      → reported_at which (receives_in settings c phase m).messages ≡ 0
  received_none settings c Idle m =
      none_after (is_item_report m) _ _ refl (none_of (closes_round settings c) _ _ refl refl)
  received_none settings c (Collecting site) m =
      none_after (ltb (site + 1) settings.sites) _ (closed settings c (c.total + m.a)) refl
      (none_after (leb 2 (threshold_of settings (c.total + m.a))) _ _ refl refl)
  received_none settings c (Probing site low high sum) m =
      none_after (ltb (site + 1) settings.sites) _ (halved settings c low high (sum + m.b))
      refl
      (none_after (enough settings.rank c.base (sum + m.b)) _ _
      (narrowed_none c low (middle low high)) (narrowed_none c (middle low high + 1) high))
  received_none settings c (Announcing site) m = refl

  -- It announces.
  pub asked_none : (settings : Settings) (c : Coordinator) (phase : Phase)
      → reported_at which (announced_in settings c phase).messages ≡ 0
  asked_none settings c Idle = refl
  asked_none settings c (Collecting site) = refl
  asked_none settings c (Probing site low high sum) = refl
  asked_none settings c (Announcing site) = refl

  -- A site answers by a kind 4, a kind 6, or not.
  pub told_none : (site : Site) (m : Message)
      → reported_at which (site_receives site m).messages ≡ 0
  told_none site m =
      either (λ (after : SiteStep). reported_at which after.messages ≡ 0) (is_poll m) _ _ refl
      (either (λ (after : SiteStep). reported_at which after.messages ≡ 0) (is_probe m) _ _ refl
      refl)

  -- ---- Through a delivery

  module _ (settings : Settings) where
    -- What joins a log without a kind 1 leaves its amounts.
    joined : (log messages : List Message)
        → reported_at which messages ≡ 0
        → reported_at which (log ++ messages) ≡ reported_at which log
    joined log messages none = omega (arith, reported_at_append which log messages, none)

    step_reports : (network : Network) (waiting log : List Message)
        → reported_at which (delivery_step settings (delivery network waiting log)).log
        ≡ reported_at which log
    step_reports network (m ∷ waiting) log =
        either
        (λ (after : Delivered). reported_at which (log ++ after.messages) ≡ reported_at which log)
        (to_coordinator m) (hand_to_coordinator settings network m) (hand_to_site network m)
        (joined log _
        (received_none settings network.coordinator network.coordinator.phase m))
        (joined log _ (told_none (site_at network m.site) m))
    step_reports network [] log =
        either (λ (d : Delivery). reported_at which d.log ≡ reported_at which log)
        (is_announcing network.coordinator.phase) _ _
        (joined log (announced settings network.coordinator).messages
        (asked_none settings network.coordinator network.coordinator.phase))
        refl

    pub steps_report : (fuel : ℕ) (d : Delivery)
        → reported_at which (delivery_steps fuel settings d).log ≡ reported_at which d.log
    steps_report zero d = refl
    steps_report (suc fuel) d =
        steps_report fuel (delivery_step settings d)
        ∙ step_reports d.network d.waiting d.log

    -- A whole delivery reports what its arrival reports.
    pub arrival_reports : (network : Network) (arrival : Arrival)
        → reported_at which (after_arrival settings network arrival).messages
        ≡ reported_at which (delivery_of settings network arrival).log
    arrival_reports network arrival =
        let start = delivery_of settings network arrival in
        ap (λ (after : Delivered). reported_at which after.messages)
        (delivery_claims.is_steps (delivery_fuel settings) settings start.network
        start.waiting start.log)
        ∙ steps_report (delivery_fuel settings) start

-- ---- What an arrival sends

-- The amount of a kind 1 that names its site; no other names it.
abbrev pub amount_at : ℕ → Settings → Site → Arrival → ℕ
amount_at which settings site arrival =
    if eqb arrival.site which
    then (if reports_item settings site arrival then site.threshold else 0)
    else 0

pub observed_reports : (which : ℕ) (settings : Settings) (site : Site) (arrival : Arrival)
    → reported_at which (observed settings site arrival).messages
    ≡ amount_at which settings site arrival
observed_reports which settings site arrival =
    by_tests (reports_item settings site arrival) (reports_count site) (eqb arrival.site which)
    refl
  where
    messages : Bool → Bool → List Message
    messages item count =
        (if item then item_report arrival.site arrival.item site.threshold ∷ [] else [])
        ++ (if count
        then count_report arrival.site site.threshold (reported_value site arrival) ∷ []
        else [])

    by_tests : (item count here : Bool) → eqb arrival.site which ≡ here
        → reported_at which (messages item count)
        ≡ (if eqb arrival.site which then (if item then site.threshold else 0) else 0)
    by_tests true true true here = rw here (omega arith)
    by_tests true false true here = rw here (omega arith)
    by_tests true true false other = rw other refl
    by_tests true false false other = rw other refl
    by_tests false true true here = rw here refl
    by_tests false false true here = rw here refl
    by_tests false true false other = rw other refl
    by_tests false false false other = rw other refl
