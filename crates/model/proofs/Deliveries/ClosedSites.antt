-- The sites after a close, by place: pendings 0, the new threshold, all else as it was; and the new
-- base as a sum over them. PROOF.md section 4.
--
--   closed_site t site      a site after a close
--   get_d_sites_closed      place by place
--   sites_closed_keeps      a part of a site that a close does not touch
--   sum_below_all_pending, sum_below_all_arrivals  sums by place are the sums along the list
use mathlib.Core.Path.{◌≡◌, refl, sym, ap, ◌∙◌}
use mathlib.Core.List.{List}
use Prim.Native.Nat.{ℕ, ◌<◌}
use native.Mathlib.Omega.{arith}
use lib.ListN.{length, get_or}
use Rattle.laws.proofs.Sums.{sum_below}
use Rattle.laws.proofs.Updates.{length_change_first, get_d_change_first_before, change_first_keeps, sum_below_length}
use Rattle.model.specs.declared.Settings.{Settings}
use Rattle.model.specs.Site.{Site, fresh_site}
use Rattle.model.specs.NetworkMemory.{all_pending, all_arrivals}
use Rattle.model.proofs.Deliveries.DeliveryMessages.{pending_at}
use Rattle.model.proofs.Deliveries.DeliveryLoops.{polled, told}
use Rattle.model.proofs.Deliveries.DeliveryClose.{sites_polled, sites_closed}

-- A site after a close: nothing pending, and the new threshold.
abbrev pub closed_site : ℕ → Site → Site
closed_site t site = told t (polled site)

-- No site is added or lost.
pub length_sites_closed : (settings : Settings) (sites : List Site) (t : ℕ)
    → length (sites_closed settings sites t) ≡ length sites
length_sites_closed settings sites t =
    length_change_first fresh_site (told t) settings.sites (sites_polled settings sites)
    ∙ length_change_first fresh_site polled settings.sites sites

-- Every site below k is closed.
pub get_d_sites_closed : (settings : Settings) (sites : List Site) (t i : ℕ)
    → i < settings.sites
    → i < length sites
    → get_or (sites_closed settings sites t) i fresh_site ≡ closed_site t
    (get_or sites i fresh_site)
get_d_sites_closed settings sites t i below inside =
    get_d_change_first_before fresh_site (told t) settings.sites i (sites_polled settings sites)
    below (omega (arith, length_change_first fresh_site polled settings.sites sites))
    ∙ ap (told t) (get_d_change_first_before fresh_site polled settings.sites i sites below inside)

-- A part that neither polls nor announcements touch is as it was, at every place.
pub sites_closed_keeps : {B : Type 0} (part : Site → B)
    → ((site : Site) → part (polled site) ≡ part site)
    → ((t : ℕ) (site : Site) → part (told t site) ≡ part site)
    → (settings : Settings) (sites : List Site) (t i : ℕ)
    → part (get_or (sites_closed settings sites t) i fresh_site) ≡ part (get_or sites i fresh_site)
sites_closed_keeps part polled-keeps told-keeps settings sites t i =
    change_first_keeps fresh_site (told t) part (told-keeps t) settings.sites i
    (sites_polled settings sites)
    ∙ change_first_keeps fresh_site polled part polled-keeps settings.sites i sites

-- The sums by place over all sites are the sums that the batch call's test takes.
pub sum_below_all_pending : (settings : Settings) (sites : List Site)
    → length sites ≡ settings.sites
    → sum_below (pending_at sites) settings.sites ≡ all_pending sites
sum_below_all_pending settings sites all =
    ap (sum_below (pending_at sites)) (sym all)
    ∙ sum_below_length (λ (site : Site). site.pending) fresh_site all_pending refl
    (λ site others. refl) sites

-- The same for the arrivals.
pub sum_below_all_arrivals : (settings : Settings) (sites : List Site)
    → length sites ≡ settings.sites
    → sum_below (λ j. (get_or sites j fresh_site).arrivals) settings.sites ≡ all_arrivals sites
sum_below_all_arrivals settings sites all =
    ap (sum_below (λ j. (get_or sites j fresh_site).arrivals)) (sym all)
    ∙ sum_below_length (λ (site : Site). site.arrivals) fresh_site all_arrivals refl
    (λ site others. refl) sites
