-- A close from its first poll on, in closed form: what the sites and the coordinator are then, and
-- which messages it took. PROOF.md section 4.
--
--   base_of settings sites total       the total with all pendings: the new base
--   quantile_found settings sites base what the ten halvings leave
--   sites_closed settings sites t     the sites: pendings 0, threshold t
--   close_one, close_more             the delivery of a close: new threshold 1, or 2 and more
--   close_messages_one, close_messages_more  their messages, 3 * k and 23 * k of them
-- Letters: k the sites, l the last of them, t a threshold.
use mathlib.Core.Path.{◌≡◌, refl, ap, subst}
use mathlib.Core.Bool.{Bool}
use mathlib.Core.List.{List, [], ◌∷◌, ◌++◌}
use Prim.Native.Nat.{ℕ, suc, ◌+◌, ◌*◌, ◌≤◌, ◌<◌}
use native.Mathlib.Omega.{arith}
use lib.ListN.{length, length-append}
use Rattle.laws.proofs.Sums.{sum_below, sum_below_same}
use Rattle.laws.proofs.Updates.{change_first, change_first_keeps}
use Rattle.model.specs.declared.Settings.{Settings}
use Rattle.model.specs.declared.Message.{Message}
use Rattle.model.specs.declared.Phase.TheVariants.{Idle, Collecting, Announcing}
use Rattle.model.specs.Limits.{top_value, closing_messages, closing_steps}
use Rattle.model.specs.Settings.{threshold_of}
use Rattle.model.specs.Messages.{poll, poll_answer}
use Rattle.model.specs.Site.{Site, fresh_site, up_to}
use Rattle.model.specs.Coordinator.{Coordinator, with_phase, with_total, with_base, with_quantile, at_rest, enough}
use Rattle.model.specs.Network.{Network}
use Rattle.model.proofs.Deliveries.Halving.{halve}
use Rattle.model.proofs.Deliveries.DeliverySteps.{Delivers, more_steps}
use Rattle.model.proofs.Deliveries.DeliveryMessages.{pending_at, up_to_at, length_exchanges, poll_messages, halving_messages, length_halving_messages, announcements, length_announcements}
use Rattle.model.proofs.Deliveries.DeliveryLoops.{network_of, polled, told, polls, poll_last_one, poll_last_more, pending_unpolled, announces}
use Rattle.model.proofs.Deliveries.DeliveryHalvings.{count_up_to, halvings_end}

-- ---- The close's numbers

-- The new base: the total with what all sites have pending.
abbrev pub base_of : Settings → List Site → ℕ → ℕ
base_of settings sites total = total + sum_below (pending_at sites) settings.sites

-- Whether enough arrivals are at or below a value.
abbrev pub enough_at : Settings → List Site → ℕ → ℕ → Bool
enough_at settings sites base value =
    enough settings.rank base (count_up_to settings sites value)

-- The value that ten halvings of the whole interval leave.
abbrev pub quantile_found : Settings → List Site → ℕ → ℕ
quantile_found settings sites base = halve (enough_at settings sites base) 10 0 top_value

-- All sites polled, and then told the new threshold.
abbrev pub sites_polled : Settings → List Site → List Site
sites_polled settings sites = change_first fresh_site polled settings.sites sites

-- And with the new threshold t.
abbrev pub sites_closed : Settings → List Site → ℕ → List Site
sites_closed settings sites t =
    change_first fresh_site (told t) settings.sites (sites_polled settings sites)

-- ---- The close's messages

-- New threshold 1: all polls, then the announcements.
abbrev pub close_messages_one : Settings → List Site → ℕ → List Message
close_messages_one settings sites base =
    poll_messages sites 0 settings.sites
    ++ announcements (threshold_of settings base) base 0 settings.sites

-- New threshold 2 or more: the halvings stand between.
abbrev pub close_messages_more : Settings → List Site → ℕ → List Message
close_messages_more settings sites base =
    poll_messages sites 0 settings.sites
    ++ (halving_messages (sites_polled settings sites) settings.sites
    (enough_at settings sites base) 10 0 top_value
    ++ announcements (threshold_of settings base) base 0 settings.sites)

-- Two for each poll, and one announcement.
pub length_close_messages_one : (settings : Settings) (sites : List Site) (base : ℕ)
    → length (close_messages_one settings sites base) ≡ 3 * settings.sites
length_close_messages_one settings sites base =
    rw (length-append, length_exchanges, length_announcements) (omega arith)

-- And twenty for the probes of each site.
pub length_close_messages_more : (settings : Settings) (sites : List Site) (base : ℕ)
    → length (close_messages_more settings sites base) ≡ closing_messages settings
length_close_messages_more settings sites base =
    rw (
      length-append,
      length-append,
      length_exchanges,
      length_announcements,
      length_halving_messages (sites_polled settings sites) settings.sites
          (enough_at settings sites base) 10 0 top_value refl,
    ) (omega arith)

-- ---- The close's delivery

module _ (settings : Settings) (sites : List Site) (c : Coordinator) (total l : ℕ)
    (last : suc l ≡ settings.sites) where
  abbrev base : ℕ
  base = base_of settings sites total

  -- The sites polled so far, and their new base, up to the last site.
  abbrev before_last : List Site
  before_last = change_first fresh_site polled l sites

  gained : total + sum_below (pending_at sites) l + pending_at before_last l ≡ base
  gained =
      let all : sum_below (pending_at sites) (suc l) ≡ sum_below (pending_at sites) settings.sites =
      ap (sum_below (pending_at sites)) last in
      omega (arith, pending_unpolled sites l)

  -- The first poll, when the delivery from the last poll on is known.
  from_first_poll : (final : Network) (n : ℕ) (sent : List Message)
      → Delivers settings final (n + 2) (poll l ∷ (poll_answer l (pending_at before_last l) ∷ sent))
      (network_of before_last (with_total c (total + sum_below (pending_at sites) l)
      (Collecting l)))
      (poll l ∷ [])
      → Delivers settings final (n + 2 * settings.sites)
      (poll_messages sites 0 settings.sites ++ sent)
      (network_of sites (with_total c total (Collecting 0))) (poll 0 ∷ [])
  from_first_poll final n sent end =
      let none : total + 0 ≡ total = omega arith in
      let all = polls settings final sites c total (n + 2) l sent last
      (rw (pending_unpolled sites l) at end) l 0 (omega arith) in
      subst
      (λ (k : ℕ). Delivers settings final (n + 2 * settings.sites)
      (poll_messages sites 0 k ++ sent)
      (network_of sites (with_total c total (Collecting 0))) (poll 0 ∷ []))
      last (more_steps (omega arith) (rw none at all))

  -- The announcements to all sites, from those that were polled.
  from_announcing : (c' : Coordinator)
      → Delivers settings
      (network_of (sites_closed settings sites c'.threshold) (at_rest c'))
      (2 * settings.sites) (announcements c'.threshold c'.base 0 settings.sites)
      (network_of (change_first fresh_site polled (suc l) sites) (with_phase c' (Announcing 0)))
      []
  from_announcing c' =
      subst
      (λ (k : ℕ). Delivers settings
      (network_of (change_first fresh_site (told c'.threshold) k
      (change_first fresh_site polled k sites)) (at_rest c'))
      (2 * k) (announcements c'.threshold c'.base 0 k)
      (network_of (change_first fresh_site polled (suc l) sites) (with_phase c' (Announcing 0)))
      [])
      last (announces settings c' (change_first fresh_site polled (suc l) sites) l last l 0
      (omega arith))

  -- A close with a new threshold of 1.
  pub close_one : threshold_of settings base < 2
      → Delivers settings
      (network_of (sites_closed settings sites (threshold_of settings base))
      (at_rest (with_base c base (threshold_of settings base) Idle)))
      (4 * settings.sites) (close_messages_one settings sites base)
      (network_of sites (with_total c total (Collecting 0))) (poll 0 ∷ [])
  close_one one =
      more_steps (omega arith)
      (from_first_poll _ (2 * settings.sites) _
      (poll_last_one settings _ c (2 * settings.sites) _ l _ base before_last last gained one
      (from_announcing (with_base c base (threshold_of settings base) (Announcing 0)))))

  -- What the polled sites count is what the sites counted before.
  tests : (v : ℕ)
      → enough settings.rank base
      (count_up_to settings (change_first fresh_site polled (suc l) sites) v)
      ≡ enough_at settings sites base v
  tests v =
      ap (enough settings.rank base)
      (sum_below_same _ (up_to_at v sites) settings.sites
      (λ i below. ap (up_to v)
      (change_first_keeps fresh_site polled (λ (site : Site). site.histogram) (λ site. refl)
      (suc l) i sites)))

  -- The network after a close with a new threshold of 2 or more.
  abbrev closed_more : Network
  closed_more =
      network_of (sites_closed settings sites (threshold_of settings base))
      (at_rest (with_quantile (with_base c base (threshold_of settings base) Idle)
      (quantile_found settings sites base) Idle))

  -- The same messages, with the polled sites as the loop leaves them.
  messages_more : List Site → List Message
  messages_more polledSites =
      poll_messages sites 0 settings.sites
      ++ (halving_messages polledSites settings.sites (enough_at settings sites base) 10 0 top_value
      ++ announcements (threshold_of settings base) base 0 settings.sites)

  from_loops : 2 ≤ threshold_of settings base
      → Delivers settings closed_more (closing_steps settings)
      (messages_more (change_first fresh_site polled (suc l) sites))
      (network_of sites (with_total c total (Collecting 0))) (poll 0 ∷ [])
  unfolding messages_more
  from_loops more =
      let k : ℕ = settings.sites in
      let closed : Coordinator = with_base c base (threshold_of settings base) (Announcing 0) in
      let found : ℕ = quantile_found settings sites base in
      let halving = halvings_end settings closed_more (change_first fresh_site polled (suc l) sites)
      closed (enough_at settings sites base) tests (2 * k) l _ last 10 0 top_value (omega arith)
      (omega arith) (from_announcing (with_quantile closed found (Announcing 0))) in
      more_steps (omega arith)
      (from_first_poll closed_more (2 * k + 2 * (k * 10)) _
      (poll_last_more settings closed_more c (2 * k + 2 * (k * 10)) _ l _ base before_last last
      gained more halving))

  -- A close with a new threshold of 2 or more.
  pub close_more : 2 ≤ threshold_of settings base
      → Delivers settings
      (network_of (sites_closed settings sites (threshold_of settings base))
      (at_rest (with_quantile (with_base c base (threshold_of settings base) Idle)
      (quantile_found settings sites base) Idle)))
      (closing_steps settings) (close_messages_more settings sites base)
      (network_of sites (with_total c total (Collecting 0))) (poll 0 ∷ [])
  unfolding messages_more
  close_more more =
      subst
      (λ (polledSites : List Site). Delivers settings closed_more (closing_steps settings)
      (messages_more polledSites)
      (network_of sites (with_total c total (Collecting 0))) (poll 0 ∷ []))
      (ap (λ (k : ℕ). change_first fresh_site polled k sites) last) (from_loops more)
