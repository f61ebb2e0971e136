-- What a delivery leaves of the sites: a message changes pending and threshold alone, so counters,
-- value counts, arrivals and what was forgotten stay at every site, and an arrival makes no counter
-- fewer. For networks of any content, and whatever waits.
--
--   Kept of                  no message changes this of a site
--   counters_kept, values_kept, arrivals_kept, dropped_kept   four that are so
--   steps_keep, arrival_keeps   any steps of a delivery; a whole one, after its arrival
--   observed_grows           an arrival makes no counter fewer at its site
--   NoFewer before after     each site has as many counters or more
--   run_no_fewer             after every list of arrivals
use mathlib.Core.Path.{◌≡◌, refl, ap, ◌∙◌}
use mathlib.Core.List.{List, [], ◌∷◌}
use Prim.Native.Nat.{ℕ, zero, suc, ◌≤◌}
use native.Mathlib.Omega.{arith}
use lib.ListN.{length, get_or, set, length-set, length-append}
use Rattle.model.specs.declared.Settings.{Settings}
use Rattle.model.specs.declared.Arrival.{Arrival}
use Rattle.model.specs.declared.Message.{Message}
use Rattle.model.specs.Messages.{to_coordinator, is_poll, is_probe}
use Rattle.model.specs.Counters.{Counter, counter_at, Placement, own, unused, replaced, one_more_of, first_of, replacing, counters_after, after_report}
use Rattle.model.specs.Site.{Site, SiteStep, fresh_site, placement_in, place_for, counters_with, reports_item, observed, site_receives}
use Rattle.model.specs.Coordinator.{is_announcing}
use Rattle.model.specs.Network.{Network, Delivered, site_at, hand_to_coordinator, hand_to_site, delivery_fuel, after_arrival}
use Rattle.model.specs.Runs.{is_taken_in, Run, with_arrival, run_one, run_from}
use Rattle.model.specs.DeliveryClaims.{Delivery, delivery, delivery_step, delivery_steps, delivery_of}
use Rattle.model.proofs.Deliveries.DeliveryTheorem.{delivery_claims}
use Rattle.model.proofs.Soundness.NeverFalls.{either}

-- ---- What no message changes of a site

pub record Kept {A : Type 0} (of : Site → A) : Type 0 where
  pub by_message : (site : Site) (m : Message) → of (site_receives site m).site ≡ of site

-- A site with another pending and threshold.
abbrev with_numbers : Site → ℕ → ℕ → Site
with_numbers site pending threshold = record {
  counters = site.counters;
  histogram = site.histogram;
  arrivals = site.arrivals;
  pending = pending;
  threshold = threshold;
  dropped = site.dropped;
}

-- A poll, a probe and an announcement change no more.
kept_of : {A : Type 0} (of : Site → A)
    → ((site : Site) (pending threshold : ℕ) → of (with_numbers site pending threshold) ≡ of site)
    → Kept of
kept_of {A} of same = record {
  by_message = λ site m.
      either (λ (after : SiteStep). of after.site ≡ of site) (is_poll m) _ _
      (same site 0 site.threshold)
      (either (λ (after : SiteStep). of after.site ≡ of site) (is_probe m) _ _ refl
      (same site site.pending m.a));
}

pub counters_kept : Kept (λ (site : Site). site.counters)
counters_kept = kept_of (λ (site : Site). site.counters) (λ site pending threshold. refl)

pub values_kept : Kept (λ (site : Site). site.histogram)
values_kept = kept_of (λ (site : Site). site.histogram) (λ site pending threshold. refl)

pub arrivals_kept : Kept (λ (site : Site). site.arrivals)
arrivals_kept = kept_of (λ (site : Site). site.arrivals) (λ site pending threshold. refl)

pub dropped_kept : Kept (λ (site : Site). site.dropped)
dropped_kept = kept_of (λ (site : Site). site.dropped) (λ site pending threshold. refl)

module _ {A : Type 0} {of : Site → A} (kept : Kept of) (settings : Settings) where
  -- One site exchanged for another that has the same of it.
  set_keeps : (sites : List Site) (i : ℕ) (site : Site)
      → of site ≡ of (get_or sites i fresh_site)
      → (j : ℕ)
      → of (get_or (set sites i site) j fresh_site) ≡ of (get_or sites j fresh_site)
  set_keeps [] i site same j = refl
  set_keeps (first ∷ sites) zero site same zero = same
  set_keeps (first ∷ sites) zero site same (suc j) = refl
  set_keeps (first ∷ sites) (suc i) site same zero = refl
  set_keeps (first ∷ sites) (suc i) site same (suc j) = set_keeps sites i site same j

  step_keeps : (network : Network) (waiting log : List Message) (j : ℕ)
      → of (site_at (delivery_step settings (delivery network waiting log)).network j)
      ≡ of (site_at network j)
  step_keeps network (m ∷ waiting) log j =
      either (λ (after : Delivered). of (site_at after.network j) ≡ of (site_at network j))
      (to_coordinator m) (hand_to_coordinator settings network m) (hand_to_site network m) refl
      (set_keeps network.sites m.site _
      (kept.by_message (site_at network m.site) m) j)
  step_keeps network [] log j =
      either (λ (d : Delivery). of (site_at d.network j) ≡ of (site_at network j))
      (is_announcing network.coordinator.phase) _ _ refl refl

  -- Any number of steps of any delivery.
  pub steps_keep : (fuel : ℕ) (d : Delivery) (j : ℕ)
      → of (site_at (delivery_steps fuel settings d).network j) ≡ of (site_at d.network j)
  steps_keep zero d j = refl
  steps_keep (suc fuel) d j =
      steps_keep fuel (delivery_step settings d) j
      ∙ step_keeps d.network d.waiting d.log j

  -- A whole delivery leaves what its arrival left.
  pub arrival_keeps : (network : Network) (arrival : Arrival) (j : ℕ)
      → of (site_at (after_arrival settings network arrival).network j)
      ≡ of (site_at (delivery_of settings network arrival).network j)
  arrival_keeps network arrival j =
      let start = delivery_of settings network arrival in
      ap (λ (after : Delivered). of (site_at after.network j))
      (delivery_claims.is_steps (delivery_fuel settings) settings start.network
      start.waiting start.log)
      ∙ steps_keep (delivery_fuel settings) start j

-- ---- Counters never become fewer

-- Each site has as many counters or more; past the end a fresh site stands.
pub record NoFewer (before after : List Site) : Type 0 where
  pub at : (j : ℕ)
      → length (get_or before j fresh_site).counters ≤ length (get_or after j fresh_site).counters

no_fewer_self : (sites : List Site) → NoFewer sites sites
no_fewer_self sites = record { at = λ j. omega arith }

no_fewer_then : {before middle after : List Site}
    → NoFewer before middle
    → NoFewer middle after
    → NoFewer before after
no_fewer_then first second = record { at = λ j. omega (arith, first.at j, second.at j) }

-- All but the first site.
pub no_fewer_later : {x y : Site} {xs ys : List Site} → NoFewer (x ∷ xs) (y ∷ ys) → NoFewer xs ys
no_fewer_later both = record { at = λ j. both.at (suc j) }

-- An arrival takes its own counter, one more, or another's.
counters_grow : (placement : Placement) (counters : List Counter) (item : ℕ)
    → length counters ≤ length (counters_after placement counters item)
counters_grow (own place) counters item =
    omega (arith, length-set counters place (one_more_of (counter_at counters place)))
counters_grow unused counters item =
    omega (arith, length-append counters (first_of item ∷ []))
counters_grow (replaced place) counters item =
    omega (arith, length-set counters place (replacing (counter_at counters place) item))

pub observed_grows : (settings : Settings) (site : Site) (arrival : Arrival)
    → length site.counters ≤ length (observed settings site arrival).site.counters
observed_grows settings site arrival =
    let counters = counters_with settings site arrival in
    let place = place_for settings site arrival in
    let reported = after_report site.threshold (counter_at counters place) in
    let more = counters_grow (placement_in settings site arrival) site.counters
    arrival.item in
    either (λ (after : List Counter). length site.counters ≤ length after)
    (reports_item settings site arrival) (set counters place reported) counters
    (omega (arith, length-set counters place reported, more)) more

set_no_fewer : (sites : List Site) (i : ℕ) (site : Site)
    → length (get_or sites i fresh_site).counters ≤ length site.counters
    → (j : ℕ)
    → length (get_or sites j fresh_site).counters
    ≤ length (get_or (set sites i site) j fresh_site).counters
set_no_fewer [] i site grows j = omega arith
set_no_fewer (first ∷ sites) zero site grows zero = grows
set_no_fewer (first ∷ sites) zero site grows (suc j) = omega arith
set_no_fewer (first ∷ sites) (suc i) site grows zero = omega arith
set_no_fewer (first ∷ sites) (suc i) site grows (suc j) = set_no_fewer sites i site grows j

module _ (settings : Settings) where
  arrival_no_fewer : (network : Network) (arrival : Arrival)
      → NoFewer network.sites (after_arrival settings network arrival).network.sites
  arrival_no_fewer network arrival = record {
    at = λ j.
        let site = site_at network arrival.site in
        omega (
          arith,
          set_no_fewer network.sites arrival.site (observed settings site arrival).site
              (observed_grows settings site arrival) j,
          ap length (arrival_keeps counters_kept settings network arrival j),
        );
  }

  one_no_fewer : (run : Run) (arrival : Arrival)
      → NoFewer run.network.sites (run_one settings run arrival).network.sites
  one_no_fewer run arrival =
      either (λ (after : Run). NoFewer run.network.sites after.network.sites)
      (is_taken_in settings run.network arrival) (with_arrival settings run arrival) run
      (arrival_no_fewer run.network arrival) (no_fewer_self run.network.sites)

  -- After every list of arrivals, accepted or not.
  pub run_no_fewer : (arrivals : List Arrival) (run : Run)
      → NoFewer run.network.sites (run_from settings run arrivals).network.sites
  run_no_fewer [] run = no_fewer_self run.network.sites
  run_no_fewer (arrival ∷ arrivals) run =
      no_fewer_then (one_no_fewer run arrival)
      (run_no_fewer arrivals (run_one settings run arrival))
