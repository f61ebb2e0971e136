-- All sites of a network, with the arrivals accepted so far (PROOF.md S1 to S5 summed over the
-- sites), kept by an arrival at one of them and by a close.
--
--   grow_at f j item amount   of a family of functions, f j larger by the amount at the item
--   SitesOk                   what holds of the sites; `arrived j item` and `reported j item` are
--                             the item's arrivals and the sum of its reports at site j
--   sites_arrival             kept by an arrival; unreported-arrival, pending-arrival: what moves
--   sites_close               kept by a close; sum-closed: sums over the closed sites
use Rattle.std.specs.Prelude.{if◌then◌else◌}
use mathlib.Core.Path.{◌≡◌, refl, ap, ◌∙◌}
use mathlib.Core.Bool.{Bool, true, false}
use mathlib.Core.List.{List, [], ◌∷◌, ◌++◌}
use Prim.Native.Nat.{ℕ, ◌+◌, ◌*◌, ◌≤◌, ◌<◌}
use native.Mathlib.Omega.{arith}
use lib.Dec.{eqb}
use lib.ListN.{length, get_or, set, length-set}
use borrow.Author.Tests.{eq-eqb, ne_eqb, le-ltb}
use Rattle.laws.proofs.Lists.{at_set}
use Rattle.laws.proofs.Sums.{sum_below, sum_below_same, sum_below_le, sum_below_const, sum_below_change, sum_below_set, sum_of}
use Rattle.model.specs.declared.Settings.{Settings}
use Rattle.model.specs.declared.Arrival.{Arrival}
use Rattle.model.specs.Limits.{top_value}
use Rattle.model.specs.Counters.{unreported}
use Rattle.model.specs.Site.{Site, fresh_site, up_to}
use Rattle.model.specs.Claims.{one_if, counted, count_of, below, above}
use Rattle.model.proofs.OneSite.ArrivalLaws.{eqb_sym, counted_snoc, count_of_snoc, below_snoc, above_snoc}
use Rattle.model.proofs.OneSite.SiteInvariant.{grow, SiteOk, site_closed, ObservedOk}
use Rattle.model.proofs.Deliveries.DeliveryMessages.{pending_at, up_to_at}
use Rattle.model.proofs.Deliveries.DeliveryClose.{sites_closed}
use Rattle.model.proofs.Deliveries.ClosedSites.{closed_site, length_sites_closed, get_d_sites_closed}

-- ---- A family of functions, one of them changed

-- Of a family of functions, f j larger by the amount at the item.
abbrev pub grow_at : (ℕ → ℕ → ℕ) → ℕ → ℕ → ℕ → ℕ → ℕ → ℕ
grow_at f j item amount i = if eqb i j then grow (f j) item amount else f i

-- A sum over the family grows by the amount, at the item.
pub sum_grow_at : (f : ℕ → ℕ → ℕ) (j item amount k x : ℕ)
    → j < k
    → sum_below (λ i. grow_at f j item amount i x) k
    ≡ sum_below (λ i. f i x) k + (if eqb x item then amount else 0)
sum_grow_at f j item amount k x j<k =
    omega (
      arith,
      here,
      sum_below_change (λ i. f i x) (λ i. grow_at f j item amount i x) k j j<k
          (λ i i<k other. rw (ne_eqb i j other)),
    )
  where
    here : grow_at f j item amount j x ≡ f j x + (if eqb x item then amount else 0)
    here = rw (eq-eqb j j refl)

-- ---- What holds of the sites

-- The arrivals of site j.
abbrev pub arrivals_at : List Site → ℕ → ℕ
arrivals_at sites j = (get_or sites j fresh_site).arrivals

-- The unreported arrivals of site j, over all its counters.
abbrev pub unreported_at : List Site → ℕ → ℕ
unreported_at sites j = sum_of unreported (get_or sites j fresh_site).counters

-- Each site is right, and together they have the accepted arrivals.
pub record SitesOk (settings : Settings) (threshold : ℕ) (sites : List Site)
    (arrived reported : ℕ → ℕ → ℕ) (accepted : List Arrival) : Type 0 where
  pub all_sites : length sites ≡ settings.sites
  pub each_ok : (j : ℕ) → j < settings.sites
      → SiteOk settings threshold (arrived j) (reported j) (get_or sites j fresh_site)
  pub arrivals_add_up : sum_below (arrivals_at sites) settings.sites ≡ counted accepted
  pub items_add_up : (item : ℕ)
      → sum_below (λ j. arrived j item) settings.sites ≡ count_of item accepted
  pub values_add_up : (value : ℕ)
      → sum_below (up_to_at value sites) settings.sites ≡ below (value + 1) accepted
  pub values_known : above top_value accepted ≡ 0

-- ---- An arrival at site j makes it `after`

module _ {settings : Settings} {threshold : ℕ} {sites : List Site}
    {arrived reported : ℕ → ℕ → ℕ} {accepted : List Arrival} {arrival : Arrival}
    {item_due count_due : Bool} {lost : ℕ} {after : Site}
    (ok : SitesOk settings threshold sites arrived reported accepted)
    (site_known : arrival.site < settings.sites)
    (value_known : arrival.value ≤ top_value)
    (observed_here : ObservedOk settings threshold
    (arrived arrival.site) (reported arrival.site) arrival item_due count_due lost
    (get_or sites arrival.site fresh_site) after) where
  abbrev k : ℕ
  k = settings.sites

  abbrev j : ℕ
  j = arrival.site

  inside : j < length sites
  inside = omega (arith, ok.all_sites)

  -- A sum over the sites moves as its part at the arrival's site does.
  sum_moves : (f : Site → ℕ)
      → sum_below (λ i. f (get_or (set sites j after) i fresh_site)) k + f
      (get_or sites j fresh_site)
      ≡ sum_below (λ i. f (get_or sites i fresh_site)) k + f after
  sum_moves f = sum_below_set f fresh_site sites j k after inside site_known

  -- An arrival at one site keeps it.
  pub sites_arrival : SitesOk settings threshold (set sites j after)
      (grow_at arrived j arrival.item 1)
      (grow_at reported j arrival.item (if item_due then threshold else 0))
      (accepted ++ (arrival ∷ []))
  sites_arrival = record {
    all_sites = length-set sites j after ∙ ok.all_sites;
    each_ok = each;
    arrivals_add_up =
        omega (
          arith,
          counted_snoc accepted arrival,
          ok.arrivals_add_up,
          sum_moves (λ site. site.arrivals),
          observed_here.one_arrival,
        );
    items_add_up = items;
    values_add_up = values;
    values_known =
        rw (above_snoc top_value accepted arrival, le-ltb top_value arrival.value value_known)
        (omega (arith, ok.values_known));
  }
    where
      each : (i : ℕ) → i < k
          → SiteOk settings threshold
          (grow_at arrived j arrival.item 1 i)
          (grow_at reported j arrival.item (if item_due then threshold else 0) i)
          (get_or (set sites j after) i fresh_site)
      each i i<k =
          at_set (λ i site. SiteOk settings threshold
          (grow_at arrived j arrival.item 1 i)
          (grow_at reported j arrival.item (if item_due then threshold else 0) i) site)
          fresh_site sites j after inside
          (rw (eq-eqb j j refl) observed_here.site_ok) i
          (λ other. rw (ne_eqb i j other) (ok.each_ok i i<k))

      one_if_lem : (same : Bool) → (if same then 1 else 0) ≡ one_if same
      one_if_lem true = refl
      one_if_lem false = refl

      items : (item : ℕ)
          → sum_below (λ i. grow_at arrived j arrival.item 1 i item) k
          ≡ count_of item (accepted ++ (arrival ∷ []))
      items item =
          sum_grow_at arrived j arrival.item 1 k item site_known
          ∙ rw (count_of_snoc item accepted arrival, eqb_sym arrival.item item)
          (omega (arith, ok.items_add_up item, one_if_lem (eqb item arrival.item)))

      values : (value : ℕ)
          → sum_below (up_to_at value (set sites j after)) k
          ≡ below (value + 1) (accepted ++ (arrival ∷ []))
      values value =
          rw (below_snoc (value + 1) accepted arrival)
          (omega (
            arith,
            sum_moves (λ site. up_to value site.histogram),
            observed_here.histogram_moves value,
            ok.values_add_up value,
          ))

  -- S7 over all sites.
  pub unreported_arrival : sum_below (unreported_at (set sites j after)) k
      + (if item_due then threshold else 0) + lost
      ≡ sum_below (unreported_at sites) k + 1
  unreported_arrival =
      omega (
        arith,
        sum_moves (λ site. sum_of unreported site.counters),
        observed_here.unreported_moves,
      )

  -- A count report takes the threshold from what is pending.
  pub pending_arrival : sum_below (pending_at (set sites j after)) k
      + (if count_due then threshold else 0)
      ≡ sum_below (pending_at sites) k + 1
  pending_arrival =
      omega (arith, sum_moves (λ site. site.pending), observed_here.pending_moves)

-- ---- A close

module _ {settings : Settings} {threshold : ℕ} {sites : List Site}
    {arrived reported : ℕ → ℕ → ℕ} {accepted : List Arrival}
    (ok : SitesOk settings threshold sites arrived reported accepted) where
  -- Each site pends less than the threshold.
  pub few_pending : sum_below (pending_at sites) settings.sites ≤ settings.sites * threshold
  few_pending =
      omega (
        arith,
        sum_below_const threshold settings.sites,
        sum_below_le (pending_at sites) (λ j. threshold) settings.sites
            (λ j j<k. omega (arith, (ok.each_ok j j<k).pending_below)),
      )

  closed_at : (threshold' j : ℕ) → j < settings.sites
      → get_or (sites_closed settings sites threshold') j fresh_site
      ≡ closed_site threshold' (get_or sites j fresh_site)
  closed_at threshold' j j<k =
      get_d_sites_closed settings sites threshold' j j<k (omega (arith, ok.all_sites))

  -- A sum over the sites after a close is the sum over each closed site.
  pub sum_closed : (f : Site → ℕ) (threshold' : ℕ)
      → sum_below (λ j. f (get_or (sites_closed settings sites threshold') j fresh_site))
      settings.sites
      ≡ sum_below (λ j. f (closed_site threshold' (get_or sites j fresh_site))) settings.sites
  sum_closed f threshold' =
      sum_below_same _ _ settings.sites (λ j j<k. ap f (closed_at threshold' j j<k))

  -- A close keeps it, at the new threshold.
  pub sites_close : (threshold' : ℕ)
      → threshold ≤ threshold'
      → SitesOk settings threshold' (sites_closed settings sites threshold')
      arrived reported accepted
  sites_close threshold' rises = record {
    all_sites = length_sites_closed settings sites threshold' ∙ ok.all_sites;
    each_ok = λ j j<k.
        rw (closed_at threshold' j j<k) (site_closed threshold' rises (ok.each_ok j j<k));
    arrivals_add_up = sum_closed (λ site. site.arrivals) threshold' ∙ ok.arrivals_add_up;
    items_add_up = ok.items_add_up;
    values_add_up = λ value.
        sum_closed (λ site. up_to value site.histogram) threshold' ∙ ok.values_add_up value;
    values_known = ok.values_known;
  }
