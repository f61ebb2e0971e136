-- Where a delivery stops at a site that has forgotten more than arrived, from every network that
-- passes refusal 11: only the arrival's own site can have, and the first message for it is its
-- poll. So where the arrival closes the round the delivery stops there, by 11.
--
--   stops_at_poll     it stops at the poll of the arrival's site
use mathlib.Core.Path.{◌≡◌, refl, sym, ap, ◌∙◌, subst}
use mathlib.Core.Bool.{Bool, true, false, ◌&&◌, false≢true}
use mathlib.Core.List.{List, [], ◌∷◌, ◌++◌}
use Prim.Native.Nat.{ℕ, zero, suc, ◌+◌, ◌≤◌, ◌<◌}
use native.Mathlib.Omega.{arith}
use native.Mathlib.Decide.{dec_lt}
use lib.Dec.{ltb}
use lib.ListN.{length, get_or}
use Rattle.laws.proofs.Tests.{BothTrue, both_true}
use Rattle.model.specs.declared.Settings.{Settings}
use Rattle.model.specs.declared.Arrival.{Arrival}
use Rattle.model.specs.declared.Message.{Message}
use Rattle.model.specs.Refusals.{no_refusal, memory_inconsistent}
use Rattle.model.specs.Limits.{coordinator_limit}
use Rattle.model.specs.Settings.{settings_refusal}
use Rattle.model.specs.Messages.{no_message, poll, to_coordinator}
use Rattle.model.specs.Site.{Site, observed, reports_item, reports_count, reported_value}
use Rattle.model.specs.SiteMemory.{site_memory_refusal}
use Rattle.model.specs.Coordinator.{is_announcing, closes_round}
use Rattle.model.specs.Network.{Network, Delivered, site_at}
use Rattle.model.specs.SoundNetwork.{DroppedWithin, estimate_of}
use Rattle.model.specs.DeliveryClaims.{Delivery, delivery_of, delivery_steps}
use Rattle.model.proofs.Thresholds.RefusalLaws.{both_accepted}
use Rattle.model.proofs.Thresholds.TestedMemory.{site_tested}
use Rattle.model.proofs.Soundness.ConsistentCoordinator.{CoordinatorWithin}
use Rattle.history.specs.State.{State, network_of, record_at, site_part}
use Rattle.history.specs.Steps.{Delivers, to_coordinator_lem, to_site, next_announcement}
use Rattle.history.proofs.CallFronts.{announces_whole}
use Rattle.history.proofs.Underway.{Underway, parts_underway}
use Rattle.history.proofs.NextAnnouncement.{announces}
use Rattle.history.proofs.DeliveredState.{delivered_on}
use Rattle.history.proofs.GoesOn.{further}
use Rattle.single_steps.specs.Steps.{Blocked, coordinator_refuses, site_refuses, announcement_refused}
use Rattle.single_outcome.specs.Delivery.{meets_limit, meets_forgotten, steps_before_poll, stopped_after, delivery_in}
use Rattle.single_outcome.proofs.EndLaws.{AtEnd, not_blocked, by_end}
use Rattle.single_outcome.proofs.RestLaws.{Ended}
use Rattle.single_outcome.proofs.LimitLaws.{final_within}
use Rattle.single_outcome.proofs.OneStep.{delivery_at}
use Rattle.single_outcome.proofs.PollLaws.{Coming, item_waits, count_waits, coming_poll, coming_some, coming_silent, coming_others, Nearer, reached_coming}
use Rattle.single_outcome.proofs.ForgottenSites.{known, others_within, not_passing, refused_memory}

module _ (settings : Settings) (passes : settings_refusal settings ≡ no_refusal)
    (network : Network) (arrival : Arrival) (past : List Message)
    (dropped_within : (j : ℕ) → j < settings.sites → DroppedWithin (site_at network j))
    {first : State} {taken : ℕ} {after : State} {refusal : ℕ}
    (within : CoordinatorWithin network.coordinator)
    (end : AtEnd settings network arrival past first taken after refusal)
    (below : meets_limit settings network arrival ≡ false)
    (room : reports_item settings (site_at network arrival.site) arrival ≡ true
    → estimate_of network arrival.item + (site_at network arrival.site).threshold
    ≤ coordinator_limit)
    (stops : meets_forgotten settings network arrival ≡ true) where
  abbrev s : ℕ
  s = arrival.site

  abbrev site : Site
  site = site_at network arrival.site

  -- The amount of its messages, and the value that kind 2 carries.
  abbrev t : ℕ
  t = (site_at network arrival.site).threshold

  abbrev value : ℕ
  value = reported_value (site_at network arrival.site) arrival

  abbrev Mid : ℕ → State → Type 0
  Mid n now = Underway settings network arrival past n now

  -- What ForgottenSites.antt says of this delivery.
  own_known : {n : ℕ} {now : State} → Mid n now → arrival.site < settings.sites
  own_known mid = known settings passes network arrival past dropped_within mid

  abbrev far : ℕ
  far = steps_before_poll settings network arrival

  rows : BothTrue
      (reports_count (site_at network arrival.site)
      && closes_round settings network.coordinator)
      (ltb (observed settings (site_at network arrival.site) arrival).site.arrivals
      (observed settings (site_at network arrival.site) arrival).site.dropped)
  rows = both_true _ _ stops

  forgets : ltb (observed settings (site_at network arrival.site) arrival).site.arrivals
      (observed settings (site_at network arrival.site) arrival).site.dropped ≡ true
  forgets = rows.second_true

  -- Its own messages wait first.
  coming_first : Coming settings arrival.site (steps_before_poll settings network arrival)
      (delivery_of settings network arrival).network
      (delivery_of settings network arrival).waiting
  coming_first = by_item (reports_item settings site arrival) refl
    where
      by_item : (item : Bool)
          → reports_item settings (site_at network arrival.site) arrival ≡ item
          → Coming settings arrival.site (steps_before_poll settings network arrival)
          (delivery_of settings network arrival).network
          (delivery_of settings network arrival).waiting
      by_item true item-is =
          let both = both_true (reports_count site) _ rows.first_true in
          item_waits s arrival.item t t value (rw (item-is, both.first_true) refl)
          end.start.origin_sound.idle both.second_true (rw item-is (omega arith))
      by_item false item-is =
          let both = both_true (reports_count site) _ rows.first_true in
          count_waits s t value (rw (item-is, both.first_true) refl)
          end.start.origin_sound.idle both.second_true (rw item-is (omega arith))

  near : {n : ℕ} (now : State) (mid : Mid n now) (left : ℕ)
      → n + left ≡ steps_before_poll settings network arrival
      → Nearer settings arrival.site left (delivery_of settings network arrival) n
      (delivery_at settings now mid)
  near {n} now mid left in_all =
      reached_coming (own_known mid) coming_first n (delivery_at settings now mid) mid.reached
      left in_all

  -- The poll waits there.
  poll_there : {n : ℕ} (now : State) (mid : Mid n now)
      → n ≡ steps_before_poll settings network arrival
      → now.waiting ≡ poll arrival.site ∷ []
  poll_there now mid there = coming_poll (near now mid 0 (omega (arith, there))).coming

  silent_there : {n : ℕ} (now : State) (mid : Mid n now)
      → n ≡ steps_before_poll settings network arrival
      → is_announcing now.held.coordinator.phase ≡ false
  silent_there now mid there = coming_silent (near now mid 0 (omega (arith, there))).coming

  head_there : {n : ℕ} (now : State) (mid : Mid n now) (m : Message) (later : List Message)
      → n ≡ steps_before_poll settings network arrival
      → now.waiting ≡ m ∷ later
      → m ≡ poll arrival.site
  head_there now mid m later there waits =
      ap (λ (ms : List Message). get_or ms 0 no_message) (sym waits ∙ poll_there now mid there)

  -- So no step follows.
  stuck : {n : ℕ} (now next : State) (mid : Mid n now)
      → n ≡ steps_before_poll settings network arrival
      → Delivers settings now next → ⊥
  stuck now next mid there (to_coordinator_lem m later words part answer head to says accepts) =
      false≢true (ap to_coordinator (sym (head_there now mid m later there head)) ∙ to)
  stuck now next mid there (to_site m later words answer head to says accepts) =
      let numbers = record_at now.held m.site in
      let part = site_part settings now.held m.site words in
      let rows = both_accepted (site_memory_refusal settings numbers part) _
      (sym says.refusal ∙ accepts) in
      let tested = site_tested settings numbers part rows.first_accepted in
      not_passing settings passes network arrival past dropped_within forgets now mid m.site
      words
      (ap (λ (x : Message). x.site) (head_there now mid m later there head))
      tested.memory_long tested.consistent
  stuck now next mid there (next_announcement words answer says accepts) =
      let held = now.held in
      let lent = announces_whole settings held.coordinator words held.coordinator_memory
      answer says accepts in
      false≢true (sym (silent_there now mid there) ∙ announces settings now answer lent accepts)

  -- And every step before is taken.
  some_more : (left : ℕ)
      → taken + suc left ≡ steps_before_poll settings network arrival
      → ⊥
  some_more left in_all =
      let mid = end.mid in
      let there = (near after mid (suc left) in_all).coming in
      by_end refusal end
      (λ not_refused quiet. coming_some there (ap length quiet.nothing_waits))
      (not_blocked passes after mid
      (parts_underway passes mid
      (final_within settings network arrival passes mid.origin_sound within mid.taken room))
      (λ m later waits way m<.
      others_within settings passes network arrival past dropped_within mid m.site m<
      (coming_others m later
      (subst (Coming settings s (suc left) (network_of settings after.held)) waits there) way))
      refusal)

  record NoFurther (n : ℕ) (now : State) : Type 0 where
    mid : Mid n now
    few : n ≤ steps_before_poll settings network arrival

  on : (n : ℕ) (now next : State)
      → NoFurther n now → Delivers settings now next → NoFurther (suc n) next
  on n now next there step = by_place (dec_lt n (steps_before_poll settings network arrival))
    where
      by_place : Dec (n < steps_before_poll settings network arrival) → NoFurther (suc n) next
      by_place (yes before) = record {
        mid = delivered_on passes now there.mid next step;
        few = omega arith;
      }
      by_place (no past-it) =
          absurd (stuck now next there.mid (omega (arith, there.few, past-it)) step)

  taken_is : taken ≡ steps_before_poll settings network arrival
  taken_is =
      let last = further NoFurther on 0 first (record { mid = end.start; few = omega arith })
      taken after end.deliveries in
      exactly taken far (omega (arith, last.in_all, last.holds.few)) some_more
    where
      exactly : (n m : ℕ) → n ≤ m → ((left : ℕ) → n + suc left ≡ m → ⊥) → n ≡ m
      exactly zero zero few no_more = refl
      exactly zero (suc m) few no_more = absurd (no_more m (omega arith))
      exactly (suc n) zero few no_more = absurd (omega arith)
      exactly (suc n) (suc m) few no_more =
          ap suc (exactly n m (omega arith) (λ left in_all. no_more left (omega arith)))

  -- The call that is due is its poll, and 11 is its number.
  number_is : Blocked settings after refusal → refusal ≡ memory_inconsistent
  number_is (coordinator_refuses m later waits way number) =
      absurd
      (false≢true (ap to_coordinator (sym (head_there after end.mid m later taken_is waits))
      ∙ way))
  number_is (site_refuses m later words waits way enough not-accepted number) =
      let mid = end.mid in
      let same = ap (λ (x : Message). x.site) (head_there after mid m later taken_is waits) in
      sym (number (omega (arith, own_known mid, same)))
      ∙ rw (refused_memory settings passes network arrival past dropped_within forgets after mid
      m.site words same enough) refl
  number_is (announcement_refused announces number) =
      absurd (false≢true (sym (silent_there after end.mid taken_is) ∙ announces))

  pub stops_at_poll : Ended settings network arrival past after refusal
  stops_at_poll =
      let mid = end.mid in
      let there = near after mid 0 (omega (arith, taken_is)) in
      let step : delivery_at settings after mid
      ≡ delivery_steps (steps_before_poll settings network arrival) settings
      (delivery_of settings network arrival) =
      there.same
      ∙ ap (λ (n : ℕ). delivery_steps n settings (delivery_of settings network arrival)) taken_is in
      let all : delivery_in settings network arrival
      ≡ stopped_after (steps_before_poll settings network arrival) settings network arrival =
      rw (below, stops) refl in
      by_end refusal end
      (λ not_refused quiet.
      absurd (coming_some there.coming (ap length quiet.nothing_waits)))
      (λ refused blocked. record {
        network_is =
            ap (λ (d : Delivery). d.network) step
            ∙ ap (λ (d : Delivered). d.network) (sym all);
        messages_are =
            mid.messages_are
            ∙ ap (λ (d : Delivery). past ++ d.log) step
            ∙ ap (λ (d : Delivered). past ++ d.messages) (sym all);
        stopped_is = number_is blocked ∙ rw (below, stops) refl;
        rests = λ none. absurd (refused none);
      })
