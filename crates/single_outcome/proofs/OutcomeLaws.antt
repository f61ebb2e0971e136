-- What a delivery comes to, from every network that passes refusal 11: the rules' `after_arrival`;
-- or, where kind 1 brings the item's estimate above the limit and kind 2 waits behind it, the
-- network after kind 1; or, where the arrival's site has forgotten more than arrived and is polled,
-- the network before that poll.
--
--   alone          kind 1 goes out and kind 2 does not: one step, and all is quiet
--   stops          kind 2 meets a coordinator above the limit: 11
--   with_estimate  there is room for kind 1: it stops at a poll, or not at all
--   outcome_of     in each case
use mathlib.Core.Path.{◌≡◌, refl, sym, ap, ◌∙◌}
use mathlib.Core.Bool.{Bool, true, false, false≢true}
use mathlib.Core.List.{List, [], ◌∷◌, ◌++◌}
use Prim.Native.Nat.{ℕ, ◌+◌, ◌≤◌, ◌<◌}
use native.Mathlib.Omega.{arith}
use lib.Dec.{ltb}
use lib.ListN.{length, get_or}
use lib.Seq.{get_or-set_same}
use borrow.Author.Tests.{ltb-true, ltb-false, le-ltb}
use Rattle.model.specs.declared.Settings.{Settings}
use Rattle.model.specs.declared.Arrival.{Arrival}
use Rattle.model.specs.declared.Message.{Message}
use Rattle.model.specs.Refusals.{no_refusal, memory_inconsistent}
use Rattle.model.specs.Limits.{coordinator_limit}
use Rattle.model.specs.Settings.{settings_refusal}
use Rattle.model.specs.Messages.{no_message, count_report, to_coordinator}
use Rattle.model.specs.Site.{Site, observed, reports_item, reports_count, reported_value}
use Rattle.model.specs.Coordinator.{Coordinator, is_announcing}
use Rattle.model.specs.CoordinatorMemory.{coordinator_words, coordinator_consistent, coordinator_memory_refusal}
use Rattle.model.specs.Network.{Network, Delivered, site_at}
use Rattle.model.specs.SoundNetwork.{DroppedWithin, estimate_of}
use Rattle.model.specs.DeliveryClaims.{Delivery, delivery_step, delivery_of, outcome}
use Rattle.model.proofs.Thresholds.RefusalLaws.{both_accepted}
use Rattle.model.proofs.Soundness.SoundSites.{taken_of_no_refusal}
use Rattle.model.proofs.Soundness.ConsistentCoordinator.{CoordinatorWithin, coordinator_within_of}
use Rattle.history.specs.State.{State, network_of}
use Rattle.history.specs.Steps.{Delivers, to_coordinator_lem, to_site, next_announcement}
use Rattle.history.proofs.CallFronts.{receives_whole, announces_whole}
use Rattle.history.proofs.Underway.{Underway}
use Rattle.history.proofs.DeliveredState.{none_when_quiet}
use Rattle.single_steps.specs.Steps.{Blocked, coordinator_refuses, site_refuses, announcement_refused}
use Rattle.single_outcome.specs.Delivery.{meets_limit, meets_forgotten, delivery_in}
use Rattle.single_outcome.proofs.EndLaws.{Quiet, AtEnd, not_blocked_quiet, by_end}
use Rattle.single_outcome.proofs.RestLaws.{Ended, finished, with_room}
use Rattle.single_outcome.proofs.ForgottenSites.{head_within}
use Rattle.single_outcome.proofs.ForgottenLaws.{stops_at_poll}
use Rattle.single_outcome.proofs.OneStep.{report, reported, delivery_at, one_step, at_one, end_one}

module _ {settings : Settings} (passes : settings_refusal settings ≡ no_refusal)
    {network : Network} {arrival : Arrival} {past : List Message} {first : State} {taken : ℕ}
    {after : State} {refusal : ℕ}
    (within : CoordinatorWithin network.coordinator)
    (dropped_within : (j : ℕ) → j < settings.sites → DroppedWithin (site_at network j))
    (end : AtEnd settings network arrival past first taken after refusal) where
  abbrev site : Site
  site = site_at network arrival.site

  abbrev Mid : ℕ → State → Type 0
  Mid n now = Underway settings network arrival past n now

  abbrev Ends : Type 0
  Ends = Ended settings network arrival past after refusal

  -- ---- Kind 1 alone

  -- Nothing waits behind it, and the coordinator is idle as it was.
  quiet_one : {n : ℕ} (now : State) (mid : Mid n now)
      → delivery_at settings now mid
      ≡ record {
        network = reported settings network arrival;
        waiting = [];
        log = report network arrival ∷ [];
      }
      → Quiet now
  quiet_one now mid one = record {
    nothing_waits = ap (λ (d : Delivery). d.waiting) one;
    silent =
        ap (λ (d : Delivery). is_announcing d.network.coordinator.phase) one
        ∙ ap is_announcing mid.origin_sound.idle;
  }

  alone : meets_limit settings network arrival ≡ false
      → meets_forgotten settings network arrival ≡ false
      → (observed settings site arrival).messages ≡ report network arrival ∷ []
      → Ends
  alone below few out =
      let quiet = quiet_one after end.mid
      (end_one passes within end [] out
      (λ now then mid.
      let there = quiet_one now mid (at_one passes within end [] out 1 now mid refl) in
      none_when_quiet now there.nothing_waits there.silent then)) in
      by_end refusal end (finished passes end below few)
      (λ refused blocked. absurd (not_blocked_quiet quiet blocked))

  -- ---- Kind 2 behind it, and no room

  module _ (over : coordinator_limit < estimate_of network arrival.item + site.threshold) where
    -- The estimate is above the limit then, and the coordinator's memory is refused.
    refused_memory : {n : ℕ} (now : State) (mid : Mid n now)
        → network_of settings now.held ≡ reported settings network arrival
        → coordinator_memory_refusal settings now.held.coordinator
        now.held.coordinator_memory
        ≡ memory_inconsistent
    refused_memory now mid network_is =
        rw (
          passes,
          le-ltb (length now.held.coordinator_memory) (coordinator_words settings)
              mid.lengths.coordinator_long,
          inconsistent (coordinator_consistent settings there) refl,
        )
      where
        there : Coordinator
        there = (network_of settings now.held).coordinator

        known : arrival.item < length network.coordinator.estimates
        known =
            omega (
              arith,
              (taken_of_no_refusal settings site arrival mid.taken).known.item_known,
              mid.origin_sound.coordinator_sound.numbers.estimates_length,
            )

        grown : estimate_of (network_of settings now.held) arrival.item
            ≡ estimate_of network arrival.item + site.threshold
        grown =
            ap (λ (later : Network). estimate_of later arrival.item) network_is
            ∙ get_or-set_same network.coordinator.estimates arrival.item _ 0 known

        inconsistent : (passes-it : Bool)
            → coordinator_consistent settings there ≡ passes-it
            → coordinator_consistent settings there ≡ false
        inconsistent false fails = fails
        inconsistent true holds =
            let below = (coordinator_within_of settings there holds).estimates_within
            arrival.item in
            absurd (omega (arith, below, grown, over))

    -- So no call on the coordinator is accepted.
    stuck_there : {n : ℕ} (now then : State) (mid : Mid n now) (second : Message)
        → to_coordinator second ≡ true
        → now.waiting ≡ second ∷ []
        → network_of settings now.held ≡ reported settings network arrival
        → Delivers settings now then → ⊥
    stuck_there now then mid second way waits network_is
        (to_coordinator_lem m later words part answer head to says accepts) =
        let held = now.held in
        let lent = receives_whole settings held.coordinator m words held.coordinator_memory
        part answer says accepts in
        let rows = both_accepted
        (coordinator_memory_refusal settings held.coordinator held.coordinator_memory) _
        (sym lent.refusal ∙ accepts) in
        omega (arith, rows.first_accepted, refused_memory now mid network_is)
    stuck_there now then mid second way waits network_is
        (to_site m later words answer head to says accepts) =
        false≢true
        (sym to
        ∙ ap (λ (ms : List Message). to_coordinator (get_or ms 0 no_message)) (sym head ∙ waits)
        ∙ way)
    stuck_there now then mid second way waits network_is
        (next_announcement words answer says accepts) =
        let held = now.held in
        let lent = announces_whole settings held.coordinator words held.coordinator_memory
        answer says accepts in
        let rows = both_accepted
        (coordinator_memory_refusal settings held.coordinator held.coordinator_memory) _
        (sym lent.refusal ∙ accepts) in
        omega (arith, rows.first_accepted, refused_memory now mid network_is)

    -- Whatever is due is refused by 11.
    number_there : {n : ℕ} (now : State) (mid : Mid n now) (second : Message) (number : ℕ)
        → to_coordinator second ≡ true
        → now.waiting ≡ second ∷ []
        → network_of settings now.held ≡ reported settings network arrival
        → Blocked settings now number
        → number ≡ memory_inconsistent
    number_there now mid second number way waits network_is
        (coordinator_refuses m later head to is) =
        sym is ∙ rw (refused_memory now mid network_is) refl
    number_there now mid second number way waits network_is
        (site_refuses m later words head to enough not-accepted number_is) =
        absurd
        (false≢true
        (sym to
        ∙ ap (λ (ms : List Message). to_coordinator (get_or ms 0 no_message)) (sym head ∙ waits)
        ∙ way))
    number_there now mid second number way waits network_is (announcement_refused announces is) =
        sym is ∙ rw (refused_memory now mid network_is) refl

    -- It stops there, after one step.
    stops_at : (second : Message)
        → to_coordinator second ≡ true
        → meets_limit settings network arrival ≡ true
        → (observed settings site arrival).messages ≡ report network arrival ∷ (second ∷ [])
        → Ends
    stops_at second way limit out =
        let later = second ∷ [] in
        let there = end_one passes within end later out
        (λ now then mid.
        let one = at_one passes within end later out 1 now mid refl in
        stuck_there now then mid second way (ap (λ (d : Delivery). d.waiting) one)
        (ap (λ (d : Delivery). d.network) one)) in
        let waits = ap (λ (d : Delivery). d.waiting) there in
        let step : delivery_at settings after end.mid
        ≡ delivery_step settings (delivery_of settings network arrival) =
        there ∙ sym (one_step passes within end later out) in
        let all : delivery_in settings network arrival
        ≡ outcome (delivery_step settings (delivery_of settings network arrival)) =
        rw limit refl in
        by_end refusal end
        (λ not_refused quiet.
        let lengths : 0 ≡ 1 = ap length (sym quiet.nothing_waits ∙ waits) in
        absurd (omega arith))
        (λ refused blocked. record {
          network_is =
              ap (λ (d : Delivery). d.network) step
              ∙ ap (λ (d : Delivered). d.network) (sym all);
          messages_are =
              end.mid.messages_are
              ∙ ap (λ (d : Delivery). past ++ d.log) step
              ∙ ap (λ (d : Delivered). past ++ d.messages) (sym all);
          stopped_is =
              rw limit
              (number_there after end.mid second refusal way waits
              (ap (λ (d : Delivery). d.network) there) blocked);
          rests = λ none. absurd (refused none);
        })

  -- ---- In each case

  -- There is room for kind 1: it stops at the poll of the arrival's site, or not at all.
  with_estimate : meets_limit settings network arrival ≡ false
      → (reports_item settings (site_at network arrival.site) arrival ≡ true
      → estimate_of network arrival.item + (site_at network arrival.site).threshold
      ≤ coordinator_limit)
      → Ends
  with_estimate below room = by_test (meets_forgotten settings network arrival) refl
    where
      by_test : (stops : Bool) → meets_forgotten settings network arrival ≡ stops
          → Ended settings network arrival past after refusal
      by_test true stops =
          stops_at_poll settings passes network arrival past dropped_within within end below room
          stops
      by_test false goes =
          with_room passes end below goes within room
          (head_within settings passes network arrival past dropped_within after end.mid goes)

  -- By whether kind 1 goes out, whether kind 2 does, and whether the estimate has room.
  pub outcome_of : Ends
  outcome_of =
      by_tests (reports_item settings site arrival) (reports_count site)
      (ltb coordinator_limit (estimate_of network arrival.item + site.threshold)) refl refl refl
    where
      by_tests : (item count over : Bool)
          → reports_item settings site arrival ≡ item
          → reports_count site ≡ count
          → ltb coordinator_limit (estimate_of network arrival.item + site.threshold) ≡ over
          → Ends
      by_tests true true true item count over =
          stops_at (ltb-true _ _ over)
          (count_report arrival.site site.threshold (reported_value site arrival)) refl
          (rw (item, count, over) refl) (rw (item, count) refl)
      by_tests true true false item count over =
          with_estimate (rw (item, count, over) refl) (λ _. ltb-false _ _ over)
      by_tests true false over item count is =
          alone (rw (item, count) refl) (rw count refl) (rw (item, count) refl)
      by_tests false count over item is-count is =
          with_estimate (rw item refl) (λ due. absurd (false≢true (sym item ∙ due)))
