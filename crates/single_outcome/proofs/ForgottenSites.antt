-- What a site has forgotten in mid-delivery, from every network that passes refusal 11: only the
-- arrival's own site can have forgotten more than arrived. And what that means for the head of the
-- queue, where nothing stops the delivery.
--
--   known             the arrival's site is one of the k
--   others_within, own_dropped, own_arrivals   what a site has forgotten, in mid-delivery
--   head_within       the head of the queue is for a site that has forgotten no more than arrived
--   not_passing, refused_memory   the memory of one that has forgotten more: 11
use mathlib.Core.Path.{◌≡◌, refl, sym, ap, ◌∙◌, subst}
use mathlib.Core.Bool.{Bool, true, false, ◌&&◌, false≢true}
use mathlib.Core.List.{List}
use Prim.Native.Nat.{ℕ, ◌≤◌, ◌<◌}
use native.Mathlib.Omega.{arith}
use native.Mathlib.Decide.{ℕ_discrete}
use lib.Dec.{ltb}
use lib.ListN.{length}
use lib.Seq.{get_or-set_same, get_or-set_other}
use borrow.Author.Tests.{ltb-true, ltb-false, le-ltb}
use Rattle.model.specs.declared.Settings.{Settings}
use Rattle.model.specs.declared.Arrival.{Arrival}
use Rattle.model.specs.declared.Message.{Message}
use Rattle.model.specs.Refusals.{no_refusal, memory_inconsistent}
use Rattle.model.specs.Settings.{settings_refusal}
use Rattle.model.specs.Site.{Site, fresh_site, observed, reports_item, reports_count, reported_value}
use Rattle.model.specs.SiteMemory.{site_words, site_consistent, site_memory_refusal}
use Rattle.model.specs.Coordinator.{closes_round}
use Rattle.model.specs.Network.{Network, site_at}
use Rattle.model.specs.SoundNetwork.{DroppedWithin}
use Rattle.model.specs.DeliveryClaims.{delivery_of}
use Rattle.model.proofs.Soundness.SoundSites.{taken_of_no_refusal}
use Rattle.model.proofs.Soundness.NeverFewer.{Kept, arrivals_kept, dropped_kept, arrival_keeps}
use Rattle.model.proofs.Soundness.ConsistentSites.{dropped_of_consistent}
use Rattle.history.specs.State.{State, network_of, record_at, site_part}
use Rattle.history.proofs.Decoded.{site_is, part_long}
use Rattle.history.proofs.Underway.{Underway, in_mid, kept_underway}
use Rattle.single_outcome.specs.Delivery.{meets_forgotten}
use Rattle.single_outcome.proofs.EndLaws.{HeadWithin}
use Rattle.single_outcome.proofs.OneStep.{delivery_at}
use Rattle.single_outcome.proofs.OwnMessages.{Own, both_wait, item_alone, count_alone, none_waits, own_way, reached_own}

module _ (settings : Settings) (passes : settings_refusal settings ≡ no_refusal)
    (network : Network) (arrival : Arrival) (past : List Message)
    (dropped_within : (j : ℕ) → j < settings.sites → DroppedWithin (site_at network j)) where
  abbrev s : ℕ
  s = arrival.site

  abbrev site : Site
  site = site_at network arrival.site

  -- The amount of its messages, and the value that kind 2 carries.
  abbrev t : ℕ
  t = (site_at network arrival.site).threshold

  abbrev value : ℕ
  value = reported_value (site_at network arrival.site) arrival

  abbrev Mid : ℕ → State → Type 0
  Mid n now = Underway settings network arrival past n now

  -- ---- What a site has forgotten, in mid-delivery

  module _ {n : ℕ} {now : State} (mid : Mid n now) where
    abbrev here : ℕ → Site
    here j = site_at (network_of settings now.held) j

    pub known : arrival.site < settings.sites
    known = (taken_of_no_refusal settings site arrival mid.taken).known.site_known

    -- It is what the arrival left.
    since : {A : Type 0} {of : Site → A}
        → Kept of
        → (j : ℕ)
        → of (here j) ≡ of (site_at (delivery_of settings network arrival).network j)
    since kept j =
        kept_underway passes mid kept j ∙ arrival_keeps kept settings network arrival j

    pub others_within : (j : ℕ) → j < settings.sites → (j ≡ arrival.site → ⊥)
        → DroppedWithin (here j)
    others_within j j< other =
        let same : site_at (delivery_of settings network arrival).network j ≡ site_at network j =
        get_or-set_other network.sites s j (observed settings site arrival).site fresh_site
        other in
        omega (
          arith,
          since dropped_kept j,
          since arrivals_kept j,
          ap (λ (x : Site). x.dropped) same,
          ap (λ (x : Site). x.arrivals) same,
          dropped_within j j<,
        )

    own_is : site_at (delivery_of settings network arrival).network arrival.site
        ≡ (observed settings (site_at network arrival.site) arrival).site
    own_is =
        get_or-set_same network.sites s (observed settings site arrival).site fresh_site
        (omega (arith, known, mid.origin_sound.all_sites))

    own_dropped : (here arrival.site).dropped
        ≡ (observed settings (site_at network arrival.site) arrival).site.dropped
    own_dropped = since dropped_kept s ∙ ap (λ (x : Site). x.dropped) own_is

    own_arrivals : (here arrival.site).arrivals
        ≡ (observed settings (site_at network arrival.site) arrival).site.arrivals
    own_arrivals = since arrivals_kept s ∙ ap (λ (x : Site). x.arrivals) own_is

  -- ---- Where nothing stops it

  -- What waits at first, if the arrival closes nothing.
  own_first : {n : ℕ} {now : State} → Mid n now
      → (reports_count (site_at network arrival.site)
      && closes_round settings network.coordinator) ≡ false
      → Own settings (delivery_of settings network arrival).network
      (delivery_of settings network arrival).waiting
  own_first mid not-closed =
      by_tests (reports_item settings site arrival) (reports_count site)
      (closes_round settings network.coordinator) refl refl refl
    where
      by_tests : (item count closes : Bool)
          → reports_item settings (site_at network arrival.site) arrival ≡ item
          → reports_count (site_at network arrival.site) ≡ count
          → closes_round settings network.coordinator ≡ closes
          → Own settings (delivery_of settings network arrival).network
          (delivery_of settings network arrival).waiting
      by_tests item true true item-is count_is closes-is =
          absurd (false≢true (sym not-closed ∙ (λ i. count_is i && closes-is i)))
      by_tests true true false item-is count_is closes-is =
          both_wait s arrival.item t t value (rw (item-is, count_is) refl)
          mid.origin_sound.idle closes-is
      by_tests false true false item-is count_is closes-is =
          count_alone s t value (rw (item-is, count_is) refl) mid.origin_sound.idle closes-is
      by_tests true false closes item-is count_is closes-is =
          item_alone s arrival.item t (rw (item-is, count_is) refl) mid.origin_sound.idle
      by_tests false false closes item-is count_is closes-is =
          none_waits (rw (item-is, count_is) refl) mid.origin_sound.idle

  -- The head of the queue is for the coordinator, for another site, or for one that has forgotten
  -- no more than arrived.
  pub head_within : {n : ℕ} (now : State) → Mid n now
      → meets_forgotten settings network arrival ≡ false
      → HeadWithin settings now
  head_within {n} now mid few m later waits way m< =
      by_tests
      (reports_count site && closes_round settings network.coordinator)
      (ltb (observed settings site arrival).site.arrivals
      (observed settings site arrival).site.dropped) refl refl
    where
      by_tests : (closes forgets : Bool)
          → (reports_count (site_at network arrival.site)
          && closes_round settings network.coordinator) ≡ closes
          → ltb (observed settings (site_at network arrival.site) arrival).site.arrivals
          (observed settings (site_at network arrival.site) arrival).site.dropped ≡ forgets
          → DroppedWithin (site_at (network_of settings now.held) m.site)
      by_tests true true closes forgets =
          absurd (false≢true (sym few ∙ (λ i. closes i && forgets i)))
      by_tests false forgets not-closed is =
          let there = reached_own (own_first mid not-closed) n (delivery_at settings now mid)
          mid.reached in
          absurd
          (false≢true
          (sym way
          ∙ own_way m later
          (subst (Own settings (network_of settings now.held)) waits there)))
      by_tests true false closes within = by_site (ℕ_discrete m.site arrival.site)
        where
          by_site : Dec (m.site ≡ arrival.site)
              → DroppedWithin (site_at (network_of settings now.held) m.site)
          by_site (yes same) =
              subst (λ (j : ℕ). DroppedWithin (site_at (network_of settings now.held) j))
              (sym same)
              (omega (
                arith,
                own_dropped mid,
                own_arrivals mid,
                ltb-false (observed settings site arrival).site.arrivals
                    (observed settings site arrival).site.dropped within,
              ))
          by_site (no other) = others_within mid m.site m< other

  -- ---- Where the arrival's site has forgotten more than arrived

  module _ (forgets : ltb
      (observed settings (site_at network arrival.site) arrival).site.arrivals
      (observed settings (site_at network arrival.site) arrival).site.dropped ≡ true) where
    -- Its site's memory does not pass.
    pub not_passing : {n : ℕ} (now : State) (mid : Mid n now) (j words : ℕ)
        → j ≡ arrival.site
        → site_words settings ≤ length (site_part settings now.held j words)
        → site_consistent settings (record_at now.held j)
        (site_part settings now.held j words) ≡ true
        → ⊥
    not_passing now mid j words same long holds =
        let held-here = network_of settings now.held in
        let read = site_is passes now.held mid.lengths (in_mid passes mid).sites_sound j
        (omega (arith, known mid, same)) in
        let own : site_at held-here j ≡ site_at held-here arrival.site =
        ap (site_at held-here) same in
        omega (
          arith,
          dropped_of_consistent settings (record_at now.held j)
              (site_part settings now.held j words) long holds,
          ap (λ (x : Site). x.dropped) (sym read ∙ own),
          ap (λ (x : Site). x.arrivals) (sym read ∙ own),
          own_dropped mid,
          own_arrivals mid,
          ltb-true (observed settings site arrival).site.arrivals
              (observed settings site arrival).site.dropped forgets,
        )

    -- It is refused by 11.
    pub refused_memory : {n : ℕ} (now : State) (mid : Mid n now) (j words : ℕ)
        → j ≡ arrival.site
        → site_words settings ≤ words
        → site_memory_refusal settings (record_at now.held j)
        (site_part settings now.held j words)
        ≡ memory_inconsistent
    refused_memory now mid j words same enough =
        let part = site_part settings now.held j words in
        let long = part_long passes now.held mid.lengths (in_mid passes mid).sites_sound j
        (omega (arith, known mid, same)) words enough in
        rw (
          passes,
          le-ltb (length part) (site_words settings) long,
          inconsistent (site_consistent settings (record_at now.held j) part) refl long,
        )
      where
        inconsistent : (test : Bool)
            → site_consistent settings (record_at now.held j)
            (site_part settings now.held j words) ≡ test
            → site_words settings ≤ length (site_part settings now.held j words)
            → site_consistent settings (record_at now.held j)
            (site_part settings now.held j words) ≡ false
        inconsistent false fails long = fails
        inconsistent true holds long = absurd (not_passing now mid j words same long holds)
