-- Every draw of a site is reported, unreported or forgotten: what an accepted arrival with full
-- delivery adds at each site of a sound network, and so over every run from a fresh start.
--
--   one_more          S7 at a sound site, arisen or not, with what it has forgotten
--   Moves, moves      what an arrival with full delivery adds at any site
--   RunAccounted, accounted_run   after every list of arrivals
use Rattle.std.specs.Prelude.{if◌then◌else◌, Option, Some, None}
use mathlib.Core.Path.{◌≡◌, refl, sym, ap, ◌∙◌, subst}
use mathlib.Core.List.{List, [], ◌∷◌, ◌++◌}
use Prim.Native.Nat.{ℕ, ◌+◌, ◌≤◌, ◌<◌}
use native.Mathlib.Omega.{arith}
use native.Mathlib.Decide.{ℕ_discrete}
use lib.Dec.{eqb}
use lib.ListN.{length}
use lib.Seq.{get_or-set_same, get_or-set_other}
use borrow.Author.Tests.{eq-eqb, ne_eqb}
use Rattle.model.specs.declared.Settings.{Settings}
use Rattle.model.specs.declared.Arrival.{Arrival}
use Rattle.model.specs.declared.Message.{Message}
use Rattle.model.specs.declared.Left.{Left}
use Rattle.model.specs.Refusals.{no_refusal}
use Rattle.model.specs.Settings.{settings_refusal}
use Rattle.model.specs.Counters.{unreported_in, gone_with}
use Rattle.model.specs.Site.{Site, fresh_site, leaving_for, reports_item, observed}
use Rattle.model.specs.Network.{Network, site_at, after_arrival}
use Rattle.model.specs.Runs.{refusal_in}
use Rattle.model.specs.Claims.{one_if}
use Rattle.model.specs.SoundNetwork.{SoundSite, Sound}
use Rattle.model.specs.DeliveryClaims.{delivery_of}
use Rattle.forgotten.specs.Departures.{Departure, departure_by, departure_of, dropped_at, reported_at, count_at, OneMore}
use Rattle.model.proofs.Thresholds.SettingsLaws.{settled}
use Rattle.model.proofs.Soundness.SoundCounters.{unreported_in_sum}
use Rattle.model.proofs.Soundness.SoundSites.{ArrivalTaken, taken_of_no_refusal, unreported_moves}
use Rattle.model.proofs.Soundness.NeverFewer.{counters_kept, arrivals_kept, dropped_kept, arrival_keeps}
use Rattle.forgotten.proofs.Reported.{arrival_reports, amount_at, observed_reports}

-- ---- Lists

pub dropped_at_append : (which : ℕ) (first second : List Departure)
    → dropped_at which (first ++ second) ≡ dropped_at which first + dropped_at which second
dropped_at_append which [] second = omega arith
dropped_at_append which (one ∷ first) second = omega (arith, dropped_at_append which first second)

pub count_at_append : (which : ℕ) (first second : List Arrival)
    → count_at which (first ++ second) ≡ count_at which first + count_at which second
count_at_append which [] second = omega arith
count_at_append which (one ∷ first) second = omega (arith, count_at_append which first second)

-- What a replacement adds at its own site, and at another.
dropped_here : (which : ℕ) (leaving : Option Left)
    → dropped_at which (departure_by which leaving) ≡ gone_with leaving
dropped_here which None = refl
dropped_here which (Some left) = rw (eq-eqb which which refl) (omega arith)

dropped_elsewhere : (which other : ℕ) (leaving : Option Left)
    → (other ≡ which → ⊥)
    → dropped_at which (departure_by other leaving) ≡ 0
dropped_elsewhere which other None differs = refl
dropped_elsewhere which other (Some left) differs = rw (ne_eqb other which differs) refl

-- ---- One arrival at a sound site

pub one_more : {settings : Settings} {site : Site} {arrival : Arrival}
    → 1 ≤ settings.capacity
    → ArrivalTaken settings site arrival
    → SoundSite settings site
    → OneMore arrival.site site (observed settings site arrival)
one_more {settings} {site} {arrival} some-counter taken sound =
    let amount : amount_at arrival.site settings site arrival
    ≡ (if reports_item settings site arrival then site.threshold else 0) =
    rw (eq-eqb arrival.site arrival.site refl) refl in
    omega (
      arith,
      unreported_moves some-counter taken sound,
      unreported_in_sum site.counters,
      unreported_in_sum (observed settings site arrival).site.counters,
      observed_reports arrival.site settings site arrival,
      amount,
    )

-- ---- One arrival with full delivery, at each site

-- What is added to a site: reported and unreported with what is forgotten grow as its draws do.
pub record Moves
    (which : ℕ)
    (arrival : Arrival)
    (departed : List Departure)
    (messages : List Message)
    (before after : Site) : Type 0 where
  pub draws_move : reported_at which messages + unreported_in after.counters + after.dropped
      + before.arrivals
      ≡ unreported_in before.counters + before.dropped + after.arrivals
  pub dropped_moves : after.dropped ≡ before.dropped + dropped_at which departed
  pub arrivals_move : after.arrivals ≡ before.arrivals + one_if (eqb arrival.site which)

module _ (settings : Settings) (network : Network) (arrival : Arrival)
    (passes : settings_refusal settings ≡ no_refusal)
    (sound : Sound settings network)
    (taken : refusal_in settings network arrival ≡ no_refusal) where
  abbrev site : Site
  site = site_at network arrival.site

  abbrev drawn : Site
  drawn = (observed settings (site_at network arrival.site) arrival).site

  arrival_taken : ArrivalTaken settings (site_at network arrival.site) arrival
  arrival_taken = taken_of_no_refusal settings site arrival taken

  abbrev MovesFrom : ℕ → Site → Type 0
  MovesFrom j after =
      Moves j arrival (departure_of settings network arrival)
      (observed settings (site_at network arrival.site) arrival).messages (site_at network j)
      after

  -- At the arrival's own site.
  moves_here : MovesFrom arrival.site (observed settings (site_at network arrival.site)
      arrival).site
  moves_here = record {
    draws_move =
        omega (
          arith,
          one_more (settled settings passes).capacity.at_least arrival_taken
              (sound.sites_sound arrival.site arrival_taken.known.site_known),
        );
    dropped_moves =
        omega (arith, dropped_here arrival.site (leaving_for settings site arrival));
    arrivals_move = rw (eq-eqb arrival.site arrival.site refl) refl;
  }

  -- At another.
  moves_elsewhere : (j : ℕ) → (arrival.site ≡ j → ⊥) → MovesFrom j (site_at network j)
  moves_elsewhere j other =
      let none : amount_at j settings (site_at network arrival.site) arrival ≡ 0 =
      rw (ne_eqb arrival.site j other) refl in
      record {
        draws_move =
            omega (
              arith,
              observed_reports j settings site arrival,
              none,
            );
        dropped_moves =
            omega (
              arith,
              dropped_elsewhere j arrival.site (leaving_for settings site arrival) other,
            );
        arrivals_move = rw (ne_eqb arrival.site j other) (omega arith);
      }

  -- As the arrival leaves them, before any message is handed over.
  moves_first : (j : ℕ) → MovesFrom j (site_at (delivery_of settings network arrival).network j)
  moves_first j = by_site (ℕ_discrete arrival.site j)
    where
      inside : arrival.site < length network.sites
      inside = omega (arith, sound.all_sites, arrival_taken.known.site_known)

      by_site : Dec (arrival.site ≡ j)
          → MovesFrom j (site_at (delivery_of settings network arrival).network j)
      by_site (yes here) =
          subst (λ (i : ℕ). MovesFrom i (site_at (delivery_of settings network arrival).network i))
          here
          (subst (MovesFrom arrival.site)
          (sym (get_or-set_same network.sites arrival.site drawn fresh_site inside)) moves_here)
      by_site (no other) =
          subst (MovesFrom j)
          (sym (get_or-set_other network.sites arrival.site j drawn fresh_site
          (λ same. other (sym same))))
          (moves_elsewhere j other)

  -- And with everything delivered.
  pub moves : (j : ℕ)
      → Moves j arrival (departure_of settings network arrival)
      (after_arrival settings network arrival).messages (site_at network j)
      (site_at (after_arrival settings network arrival).network j)
  moves j =
      let first = moves_first j in
      let same_counters = ap unreported_in
      (arrival_keeps counters_kept settings network arrival j) in
      let same_arrivals = arrival_keeps arrivals_kept settings network arrival j in
      let same_dropped = arrival_keeps dropped_kept settings network arrival j in
      record {
        draws_move =
            omega (
              arith,
              first.draws_move,
              arrival_reports j settings network arrival,
              same_counters,
              same_arrivals,
              same_dropped,
            );
        dropped_moves = same_dropped ∙ first.dropped_moves;
        arrivals_move = same_arrivals ∙ first.arrivals_move;
      }
