-- From rest into a delivery and back: a sound network with an accepted arrival is at the first
-- stage, and a stage with nothing left to do is a sound network. PROOF.md section 8.
--
--   together_of_sound, sound_of_together   a sound network as `Together`
--   start_stage                            the stage that an arrival begins
--   sound_at_rest                          the stage that a delivery ends with
use Rattle.std.specs.Prelude.{if◌then◌else◌}
use mathlib.Core.Path.{◌≡◌, refl, sym, ap, ◌∙◌, subst}
use mathlib.Core.Bool.{Bool, true, false, false≢true}
use mathlib.Core.List.{[], ◌∷◌, ◌++◌}
use Prim.Native.Nat.{ℕ, zero, suc, ◌+◌, ◌*◌, ◌≤◌, ◌<◌}
use native.Mathlib.Omega.{arith}
use lib.Dec.{eqb, ltb}
use borrow.Author.Tests.{ltb-false, ne_eqb}
use Rattle.model.specs.declared.Settings.{Settings}
use Rattle.model.specs.declared.Arrival.{Arrival}
use Rattle.model.specs.declared.Phase.TheVariants.{Idle, Announcing}
use Rattle.model.specs.Limits.{top_value, closing_steps, most_steps}
use Rattle.model.specs.Site.{Site, observed, reports_item, reports_count, reported_value}
use Rattle.model.specs.Coordinator.{is_announcing}
use Rattle.model.specs.Network.{Network, site_at, with_site}
use Rattle.model.specs.SoundNetwork.{SoundSite, Sound}
use Rattle.model.proofs.Thresholds.SettingsLaws.{Settled}
use Rattle.model.proofs.Deliveries.ClosedSites.{sum_below_all_pending, sum_below_all_arrivals}
use Rattle.model.proofs.Deliveries.ArrivalParts.{first_messages}
use Rattle.model.proofs.Soundness.SoundSites.{ArrivalTaken, sound_observed, pending_moves}
use Rattle.mid_delivery.proofs.Soundness.Together.{Together, together_site}
use Rattle.mid_delivery.proofs.Stages.Stages.{Reports, Announces, Stage, reporting, polling, halving, announcing, item_waiting, count_waiting}

-- ---- A network at rest

-- At rest all sites are informed, and nothing is on its way.
pub together_of_sound : {settings : Settings} {network : Network}
    → Sound settings network
    → Together settings network settings.sites 0
together_of_sound {settings} {network} sound = record {
  all_sites = sound.all_sites;
  sites_sound = sound.sites_sound;
  numbers = sound.coordinator_sound.numbers;
  informed_same = sound.same_threshold;
  thresholds_below = λ j j<. omega (arith, sound.same_threshold j j<);
  all_counted = omega (
    arith,
    sound.all_counted,
    sum_below_all_pending settings network.sites sound.all_sites,
    sum_below_all_arrivals settings network.sites sound.all_sites,
  );
}

-- And the other way round, where the coordinator is idle with signals to come.
pub sound_of_together : {settings : Settings} {network : Network}
    → Together settings network settings.sites 0
    → network.coordinator.phase ≡ Idle
    → network.coordinator.signals < settings.sites
    → Sound settings network
sound_of_together {settings} {network} together idle few = record {
  all_sites = together.all_sites;
  sites_sound = together.sites_sound;
  coordinator_sound = record { numbers = together.numbers; phase_sound = rw idle few };
  idle = idle;
  same_threshold = together.informed_same;
  all_counted = omega (
    arith,
    together.all_counted,
    sum_below_all_pending settings network.sites together.all_sites,
    sum_below_all_arrivals settings network.sites together.all_sites,
  );
}

-- An idle coordinator of a sound network has fewer than k signals.
pub few_signals : {settings : Settings} {network : Network}
    → Sound settings network
    → network.coordinator.signals < settings.sites
few_signals sound = rw sound.idle at sound.coordinator_sound.phase_sound

-- ---- The stage that an arrival begins

module _ {settings : Settings} {network : Network} {arrival : Arrival}
    (fit : Settled settings) (sound : Sound settings network)
    (taken : ArrivalTaken settings (site_at network arrival.site) arrival) where
  abbrev site : Site
  site = site_at network arrival.site

  abbrev t : ℕ
  t = network.coordinator.threshold

  site_sound : SoundSite settings site
  site_sound = sound.sites_sound arrival.site taken.known.site_known

  same : site.threshold ≡ t
  same = sound.same_threshold arrival.site taken.known.site_known

  -- The site's amounts are the coordinator's threshold, since theirs are the same.
  waits : first_messages settings network arrival
      ≡ item_waiting (reports_item settings site arrival) arrival.site arrival.item t
      ++ count_waiting (reports_count site) arrival.site t (reported_value site arrival)
  waits =
      ap (λ (amount : ℕ).
      item_waiting (reports_item settings site arrival) arrival.site arrival.item amount
      ++ count_waiting (reports_count site) arrival.site amount (reported_value site arrival)) same

  value_known : reported_value site arrival ≤ top_value
  value_known = by_threshold (eqb site.threshold 1)
    where
      by_threshold : (one : Bool) → (if one then arrival.value else 0) ≤ top_value
      by_threshold true = taken.known.value_known
      by_threshold false = omega arith

  value_none : (t ≡ 1 → ⊥) → reported_value site arrival ≡ 0
  value_none more = rw (ne_eqb site.threshold 1 (λ one. more (sym same ∙ one)))

  observed_together : Together settings
      (with_site network arrival.site (observed settings site arrival).site)
      settings.sites (if reports_count site then t else 0)
  observed_together =
      let moves : (if reports_count site then 0 else site.pending + 1)
      + (if reports_count site then t else 0) ≡ site.pending + 1 =
      subst (λ (amount : ℕ).
      (if reports_count site then 0 else site.pending + 1)
      + (if reports_count site then amount else 0)
      ≡ site.pending + 1)
      same (pending_moves fit.capacity.at_least taken site_sound (reports_count site) refl) in
      together_site (together_of_sound sound) arrival.site
      (observed settings site arrival).site taken.known.site_known settings.sites
      (if reports_count site then t else 0)
      (sound_observed fit.capacity.at_least taken site_sound)
      (λ i i< _. sound.same_threshold i i<) (λ _. same) (omega (arith, same)) (omega arith)

  steps_enough : (item_due count_due : Bool)
      → (if item_due then 1 else 0) + (if count_due then closing_steps settings + 1 else 0)
      ≤ most_steps settings
  steps_enough true true = omega arith
  steps_enough true false = omega arith
  steps_enough false true = omega arith
  steps_enough false false = omega arith

  -- The arrival is observed, and its own messages wait.
  pub start_stage : Stage settings
      (with_site network arrival.site (observed settings site arrival).site)
      (first_messages settings network arrival) (most_steps settings)
  start_stage = reporting (record {
    item_due = reports_item settings site arrival;
    count_due = reports_count site;
    site = arrival.site;
    item = arrival.item;
    value = reported_value site arrival;
    waits = waits;
    idle = sound.idle;
    few_signals = few_signals sound;
    site_known = taken.known.site_known;
    item_known = taken.known.item_known;
    value_known = value_known;
    value_none = value_none;
    together = observed_together;
    steps_left = steps_enough (reports_item settings site arrival) (reports_count site);
  })

-- ---- The stage that a delivery ends with

-- No count report waits, so nothing is on its way.
rest_reports : {settings : Settings} {network : Network} {left : ℕ}
    → Reports settings network [] left
    → Sound settings network
rest_reports {settings} {network} {left} r = by_due r.count_due refl r.item_due refl
  where
    by_due : (count_due : Bool) → r.count_due ≡ count_due
        → (item_due : Bool) → r.item_due ≡ item_due
        → Sound settings network
    by_due false none item_due _ =
        sound_of_together (rw none at r.together) r.idle r.few_signals
    by_due true due true item_due =
        let waits : [] ≡ _ ∷ _ = rw (item_due, due) at r.waits in
        let impossible : ◌≡◌ {A = ℕ} 0 1 = cc in
        absurd (omega arith)
    by_due true due false no_item =
        let waits : [] ≡ _ ∷ _ = rw (no_item, due) at r.waits in
        let impossible : ◌≡◌ {A = ℕ} 0 1 = cc in
        absurd (omega arith)

-- No kind 7 waits and none is to come, so every site has the new threshold.
rest_announces : {settings : Settings} {network : Network} {left : ℕ}
    → Settled settings
    → Announces settings network [] left
    → is_announcing network.coordinator.phase ≡ false
    → Sound settings network
rest_announces {settings} {network} {left} fit a silent =
    by_phase (ltb a.j settings.sites) refl a.w refl
  where
    by_phase : (more : Bool) → ltb a.j settings.sites ≡ more
        → (w : ℕ) → a.w ≡ w
        → Sound settings network
    by_phase true more w _ =
        let announces : network.coordinator.phase ≡ Announcing a.j =
        rw more at a.phase_is in
        absurd (false≢true (sym (rw announces at silent)))
    by_phase false last (suc w) some =
        let waits : [] ≡ _ ∷ _ = rw some at a.waits in
        let impossible : ◌≡◌ {A = ℕ} 0 1 = cc in
        absurd (omega arith)
    by_phase false last zero none =
        let all : a.i ≡ settings.sites =
        omega (arith, a.reached, a.within, ltb-false a.j settings.sites last) in
        let signals : network.coordinator.signals ≡ 0 = rw last at a.signals_are in
        sound_of_together (rw all at a.together) (rw last at a.phase_is)
        (omega (arith, fit.sites.at_least))

-- Nothing waits and no kind 7 is to come: the network is sound again.
pub sound_at_rest : {settings : Settings} {network : Network} {left : ℕ}
    → Settled settings
    → Stage settings network [] left
    → is_announcing network.coordinator.phase ≡ false
    → Sound settings network
sound_at_rest fit (reporting r) silent = rest_reports r
sound_at_rest fit (polling p) silent =
    let waits : [] ≡ _ ∷ [] = p.waits in
    let impossible : ◌≡◌ {A = ℕ} 0 1 = cc in
    absurd (omega arith)
sound_at_rest fit (halving p) silent =
    let waits : [] ≡ _ ∷ [] = p.waits in
    let impossible : ◌≡◌ {A = ℕ} 0 1 = cc in
    absurd (omega arith)
sound_at_rest fit (announcing a) silent = rest_announces fit a silent
