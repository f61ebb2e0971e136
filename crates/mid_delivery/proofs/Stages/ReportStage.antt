-- The arrival's own messages, handed over: an item report adds to an estimate, a count report to
-- the total, and the k-th count report begins the polls.
--
--   handed_reports   the head of the queue in this stage
use Rattle.std.specs.Prelude.{if◌then◌else◌}
use mathlib.Core.Path.{◌≡◌, refl, sym, subst}
use mathlib.Core.Bool.{Bool, true, false}
use mathlib.Core.List.{List, [], ◌∷◌, append-nil}
use Prim.Native.Nat.{ℕ, ◌+◌, ◌-◌, ◌*◌, ◌≤◌}
use native.Mathlib.Omega.{arith}
use native.Mathlib.Decide.{ℕ_discrete}
use lib.Dec.{eqb}
use borrow.Author.Tests.{eq-eqb, ne_eqb}
use Rattle.model.specs.declared.Settings.{Settings}
use Rattle.model.specs.declared.Message.{Message}
use Rattle.model.specs.declared.Phase.{Phase}
use Rattle.model.specs.declared.Phase.TheVariants.{Idle, Collecting}
use Rattle.model.specs.Limits.{closing_steps}
use Rattle.model.specs.Messages.{item_report, count_report, poll}
use Rattle.model.specs.Coordinator.{Coordinator, step, coordinator_receives}
use Rattle.model.specs.Network.{Network, with_coordinator}
use Rattle.mid_delivery.proofs.Soundness.CoordinatorSound.{numbers_item, numbers_count}
use Rattle.model.proofs.Deliveries.ArrivalParts.{with_count_report}
use Rattle.mid_delivery.proofs.Soundness.Together.{Together, together_coordinator}
use Rattle.mid_delivery.proofs.Stages.AcceptedMessages.{item_report_accepted, count_report_accepted}
use Rattle.mid_delivery.proofs.Stages.PhaseSteps.{received_item, received_count}
use Rattle.mid_delivery.proofs.Stages.Stages.{Reports, Stage, StageAfter, reporting, polling, HandedOn, count_waiting}

-- ---- Each message handed over

module _ {settings : Settings} {network : Network} {waiting : List Message} {left : ℕ}
    (r : Reports settings network waiting left) where
  abbrev c : Coordinator
  c = network.coordinator

  -- An item report is taken: the rest of the arrival's messages waits.
  item_handed : r.item_due ≡ true
      → HandedOn settings network (item_report r.site r.item c.threshold)
      (count_waiting r.count_due r.site c.threshold r.value) left
  item_handed due =
      let steps = rw due at r.steps_left in
      record {
        some_left = omega arith;
        head_accepted =
            item_report_accepted settings c r.site r.site_known r.item r.idle
            r.item_known;
        next = subst
            (StageAfter settings network
            (count_waiting r.count_due r.site c.threshold r.value) (left - 1))
            (sym (received_item settings c r.site r.item c.threshold r.idle))
            (rw append-nil (reporting (record {
              item_due = false;
              count_due = r.count_due;
              site = r.site;
              item = r.item;
              value = r.value;
              waits = refl;
              idle = r.idle;
              few_signals = r.few_signals;
              site_known = r.site_known;
              item_known = r.item_known;
              value_known = r.value_known;
              value_none = r.value_none;
              together = together_coordinator r.together _ settings.sites _
                  (numbers_item r.together.numbers r.item c.threshold c.phase)
                  (omega arith) r.together.informed_same refl;
              steps_left = omega arith;
            })));
      }

  -- All sites still have the coordinator's threshold, and the report's amount is in the total.
  counted : r.count_due ≡ true
      → (phase : Phase)
      → Together settings
      (with_coordinator network (with_count_report c c.threshold r.value phase))
      settings.sites 0
  counted due phase =
      let with-report : Together settings network settings.sites c.threshold =
      rw due at r.together in
      together_coordinator with-report _ settings.sites 0
      (numbers_count r.together.numbers r.value (c.signals + 1) phase r.value_known)
      (omega arith) r.together.informed_same (omega arith)

  -- The steps that a count report has left.
  count_steps : r.count_due ≡ true → closing_steps settings + 1 ≤ left
  count_steps due = let steps = rw due at r.steps_left in omega arith

  module _ (due : r.count_due ≡ true) where
    -- A signal that is not the k-th: nothing waits.
    signal_next : (c.signals + 1 ≡ settings.sites → ⊥)
        → Stage settings
        (with_coordinator network (with_count_report c c.threshold r.value Idle)) [] (left - 1)
    signal_next few = reporting (record {
      item_due = false;
      count_due = false;
      site = r.site;
      item = r.item;
      value = r.value;
      waits = refl;
      idle = refl;
      few_signals = omega (arith, r.few_signals);
      site_known = r.site_known;
      item_known = r.item_known;
      value_known = r.value_known;
      value_none = r.value_none;
      together = counted due Idle;
      steps_left = omega arith;
    })

    -- The k-th signal: the first site is polled.
    close_next : c.signals + 1 ≡ settings.sites
        → Stage settings
        (with_coordinator network (with_count_report c c.threshold r.value (Collecting 0)))
        (poll 0 ∷ []) (left - 1)
    close_next all = polling (record {
      answered = false;
      j = 0;
      amount = 0;
      waits = refl;
      phase_is = refl;
      closing = record { all_signals = all; site_known = omega (arith, r.site_known) };
      amount_below = omega (arith, r.together.numbers.threshold_of_base);
      together = counted due (Collecting 0);
      steps_left = omega (arith, count_steps due);
    })

    count_handed : HandedOn settings network
        (count_report r.site c.threshold r.value) [] left
    count_handed = record {
      some_left = omega (arith, count_steps due);
      head_accepted =
          count_report_accepted settings c r.site r.site_known r.value r.idle
          r.value_known r.value_none;
      next = by_signals (ℕ_discrete (c.signals + 1) settings.sites);
    }
      where
        taken : (closes : Bool) → eqb (c.signals + 1) settings.sites ≡ closes
            → coordinator_receives settings c (count_report r.site c.threshold r.value)
            ≡ step
            (with_count_report c c.threshold r.value (if closes then Collecting 0 else Idle))
            (if closes then poll 0 ∷ [] else [])
        taken closes is =
            received_count settings c r.site c.threshold r.value closes r.idle is

        by_signals : Dec (c.signals + 1 ≡ settings.sites)
            → StageAfter settings network [] (left - 1)
            (coordinator_receives settings c (count_report r.site c.threshold r.value))
        by_signals (yes all) =
            subst (StageAfter settings network [] (left - 1)) (sym (taken true (eq-eqb _ _ all)))
            (close_next all)
        by_signals (no few) =
            subst (StageAfter settings network [] (left - 1)) (sym (taken false (ne_eqb _ _ few)))
            (signal_next few)

-- ---- The head of the queue

-- The head is kind 1 or kind 2; the stage stays, or the polls begin.
pub handed_reports : {settings : Settings} {network : Network} {m : Message}
    {waiting : List Message} {left : ℕ}
    → Reports settings network (m ∷ waiting) left
    → HandedOn settings network m waiting left
handed_reports {settings} {network} {m} {waiting} {left} r =
    by_due r.item_due refl r.count_due refl
  where
    t : ℕ
    t = network.coordinator.threshold

    by_due : (item_due : Bool) → r.item_due ≡ item_due
        → (count_due : Bool) → r.count_due ≡ count_due
        → HandedOn settings network m waiting left
    by_due true item_due count_due _ =
        let waits : m ∷ waiting
        ≡ item_report r.site r.item t ∷ count_waiting r.count_due r.site t r.value =
        rw item_due at r.waits in
        let head : m ≡ item_report r.site r.item t = cc in
        let tail : waiting ≡ count_waiting r.count_due r.site t r.value = cc in
        rw (head, tail) (item_handed r item_due)
    by_due false no_item true count_due =
        let waits : m ∷ waiting ≡ count_report r.site t r.value ∷ [] =
        rw (no_item, count_due) at r.waits in
        let head : m ≡ count_report r.site t r.value = cc in
        let tail : waiting ≡ [] = cc in
        rw (head, tail) (count_handed r count_due)
    by_due false no_item false no-count =
        let waits : m ∷ waiting ≡ [] = rw (no_item, no-count) at r.waits in
        let impossible : ◌≡◌ {A = ℕ} 0 1 = cc in
        absurd (omega arith)
