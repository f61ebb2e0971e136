-- The three loops of a close over the sites: polls, probes with their halvings, announcements. Each
-- as a law from the delivery that follows it to the delivery from its first message on, by
-- induction on the sites (or halvings) still to come. PROOF.md section 4.
--
--   network_of sites c      these sites and this coordinator
--   polls                   from any site on, to the poll of the last site
--   poll_last_one, -more    the last poll closes the round: new threshold 1, or 2 and more
--   halvings_end            all halvings, from an interval of more than one value
--   announces               all announcements, to the end
-- Letters: k the sites, l the last of them, j the site that is asked, r the sites after it, h
-- halvings, n steps of the delivery that follows.
use mathlib.Core.Path.{◌≡◌, refl, ap}
use mathlib.Core.Bool.{true, false}
use mathlib.Core.List.{List, [], ◌∷◌, ◌++◌}
use Prim.Native.Nat.{ℕ, zero, suc, ◌+◌, ◌*◌, ◌≤◌, ◌<◌}
use native.Mathlib.Omega.{arith}
use native.Mathlib.Numerals.{add-one}
use lib.Dec.{ltb, leb}
use lib.ListN.{get_or, set}
use borrow.Author.Tests.{lt-ltb, le-ltb, le-leb, lt-leb}
use Rattle.laws.proofs.Sums.{sum_below}
use Rattle.laws.proofs.Updates.{change_first, get_d_change_first_after}
use Rattle.model.specs.declared.Settings.{Settings}
use Rattle.model.specs.declared.Message.{Message}
use Rattle.model.specs.declared.Phase.TheVariants.{Collecting, Probing, Announcing}
use Rattle.model.specs.Limits.{top_value}
use Rattle.model.specs.Settings.{threshold_of}
use Rattle.model.specs.Messages.{poll, poll_answer, probe, announcement}
use Rattle.model.specs.Site.{Site, fresh_site, with_pending, with_threshold}
use Rattle.model.specs.Coordinator.{Coordinator, with_phase, with_total, with_base, at_rest, middle}
use Rattle.model.specs.Network.{Network}
use Rattle.model.proofs.Deliveries.DeliverySteps.{Delivers, hands, asks, rests, more_steps}
use Rattle.model.proofs.Deliveries.DeliveryMessages.{pending_at, poll_messages, announcements}

-- A network of these sites and this coordinator.
abbrev pub network_of : List Site → Coordinator → Network
network_of sites c = record { sites = sites; coordinator = c }

-- A site that was polled, and one that was told a threshold.
abbrev pub polled : Site → Site
polled site = with_pending site 0

-- A site with the threshold of an announcement.
abbrev pub told : ℕ → Site → Site
told threshold site = with_threshold site threshold

-- ---- Polls

module _ (settings : Settings) (final : Network) (c : Coordinator) where
  poll_step : (n : ℕ) (sent : List Message) (j total : ℕ) (sites : List Site)
      → suc j < settings.sites
      → Delivers settings final n sent
      (network_of (set sites j (polled (get_or sites j fresh_site)))
      (with_total c (total + pending_at sites j) (Collecting (suc j))))
      (poll (suc j) ∷ [])
      → Delivers settings final (n + 2)
      (poll j ∷ (poll_answer j (pending_at sites j) ∷ sent))
      (network_of sites (with_total c total (Collecting j)))
      (poll j ∷ [])
  poll_step n sent j total sites inside later =
      let goes_on : ltb (j + 1) settings.sites ≡ true =
      lt-ltb (j + 1) settings.sites (omega arith) in
      more_steps (omega arith)
      (hands (suc n) _ _ _ [] (hands n sent _ _ [] (rw (goes_on, add-one j) later)))

  -- The last poll closes the round. With a new threshold of 1 the announcements follow.
  pub poll_last_one : (n : ℕ) (sent : List Message) (j total base : ℕ) (sites : List Site)
      → suc j ≡ settings.sites
      → total + pending_at sites j ≡ base
      → threshold_of settings base < 2
      → Delivers settings final n sent
      (network_of (set sites j (polled (get_or sites j fresh_site)))
      (with_base c base (threshold_of settings base) (Announcing 0)))
      []
      → Delivers settings final (n + 2)
      (poll j ∷ (poll_answer j (pending_at sites j) ∷ sent))
      (network_of sites (with_total c total (Collecting j)))
      (poll j ∷ [])
  poll_last_one n sent j total base sites last gained one later =
      let ends : ltb (j + 1) settings.sites ≡ false =
      le-ltb (j + 1) settings.sites (omega arith) in
      let no-probes : leb 2 (threshold_of settings base) ≡ false =
      lt-leb 2 (threshold_of settings base) one in
      more_steps (omega arith)
      (hands (suc n) _ _ _ [] (hands n sent _ _ [] (rw (ends, gained, no-probes) later)))

  -- With a new threshold of 2 or more the halvings follow, from the whole interval.
  pub poll_last_more : (n : ℕ) (sent : List Message) (j total base : ℕ) (sites : List Site)
      → suc j ≡ settings.sites
      → total + pending_at sites j ≡ base
      → 2 ≤ threshold_of settings base
      → Delivers settings final n sent
      (network_of (set sites j (polled (get_or sites j fresh_site)))
      (with_base c base (threshold_of settings base) (Probing 0 0 top_value 0)))
      (probe 0 (middle 0 top_value) ∷ [])
      → Delivers settings final (n + 2)
      (poll j ∷ (poll_answer j (pending_at sites j) ∷ sent))
      (network_of sites (with_total c total (Collecting j)))
      (poll j ∷ [])
  poll_last_more n sent j total base sites last gained more later =
      let ends : ltb (j + 1) settings.sites ≡ false =
      le-ltb (j + 1) settings.sites (omega arith) in
      let probes : leb 2 (threshold_of settings base) ≡ true =
      le-leb 2 (threshold_of settings base) more in
      more_steps (omega arith)
      (hands (suc n) _ _ _ [] (hands n sent _ _ [] (rw (ends, gained, probes) later)))

-- The network when the first j sites have answered their polls.
abbrev pub poll_state : List Site → Coordinator → ℕ → ℕ → Network
poll_state sites c total j =
    network_of (change_first fresh_site polled j sites)
    (with_total c (total + sum_below (pending_at sites) j) (Collecting j))

-- What site j answers is what it had at first: the polls before were for other sites.
pub pending_unpolled : (sites : List Site) (j : ℕ)
    → pending_at (change_first fresh_site polled j sites) j ≡ pending_at sites j
pending_unpolled sites j =
    ap (λ (site : Site). site.pending)
    (get_d_change_first_after fresh_site polled j j sites (omega arith))

-- From the poll of site j on, when the delivery from the last poll on is known.
pub polls : (settings : Settings) (final : Network) (sites : List Site) (c : Coordinator)
    (total n l : ℕ) (sent : List Message)
    → suc l ≡ settings.sites
    → Delivers settings final n (poll l ∷ (poll_answer l (pending_at sites l) ∷ sent))
    (poll_state sites c total l) (poll l ∷ [])
    → (r j : ℕ) → j + r ≡ l
    → Delivers settings final (n + 2 * r) (poll_messages sites j (suc r) ++ sent)
    (poll_state sites c total j) (poll j ∷ [])
polls settings final sites c total n l sent last end zero j reached =
    let at_last : j ≡ l = omega arith in
    rw at_last (more_steps (omega arith) end)
polls settings final sites c total n l sent last end (suc r) j reached =
    let gained : total + sum_below (pending_at sites) j + pending_at sites j
    ≡ total + sum_below (pending_at sites) (suc j) = omega arith in
    more_steps (omega arith)
    (rw (pending_unpolled sites j) at
    (poll_step settings final c (n + 2 * r) (poll_messages sites (suc j) (suc r) ++ sent) j
    (total + sum_below (pending_at sites) j) (change_first fresh_site polled j sites) (omega arith)
    (rw (pending_unpolled sites j, gained)
    (polls settings final sites c total n l sent last end r (suc j) (omega arith)))))

-- ---- Announcements

module _ (settings : Settings) (c : Coordinator) where
  announce_step : (final : Network) (n : ℕ) (sent : List Message) (j : ℕ) (sites : List Site)
      → suc j < settings.sites
      → Delivers settings final n sent
      (network_of (set sites j (told c.threshold (get_or sites j fresh_site)))
      (with_phase c (Announcing (suc j))))
      []
      → Delivers settings final (n + 2) (announcement j c.threshold c.base ∷ sent)
      (network_of sites (with_phase c (Announcing j)))
      []
  announce_step final n sent j sites inside later =
      let goes_on : ltb (j + 1) settings.sites ≡ true =
      lt-ltb (j + 1) settings.sites (omega arith) in
      more_steps (omega arith)
      (asks (suc n) _ _ refl (hands n sent _ _ [] (rw (goes_on, add-one j) later)))

  -- With the last announcement the coordinator comes to rest.
  announce_last : (j : ℕ) (sites : List Site)
      → suc j ≡ settings.sites
      → Delivers settings
      (network_of (set sites j (told c.threshold (get_or sites j fresh_site))) (at_rest c))
      2 (announcement j c.threshold c.base ∷ [])
      (network_of sites (with_phase c (Announcing j)))
      []
  announce_last j sites last =
      let ends : ltb (j + 1) settings.sites ≡ false =
      le-ltb (j + 1) settings.sites (omega arith) in
      asks 1 _ _ refl (hands 0 [] _ _ [] (rw ends (rests settings _ refl)))

  -- From the announcement for site j on, to the end.
  pub announces : (sites : List Site) (l : ℕ)
      → suc l ≡ settings.sites
      → (r j : ℕ) → j + r ≡ l
      → Delivers settings
      (network_of (change_first fresh_site (told c.threshold) (suc l) sites) (at_rest c))
      (2 * suc r) (announcements c.threshold c.base j (suc r))
      (network_of (change_first fresh_site (told c.threshold) j sites)
      (with_phase c (Announcing j)))
      []
  announces sites l last zero j reached =
      let at_last : j ≡ l = omega arith in
      rw at_last (announce_last l (change_first fresh_site (told c.threshold) l sites) last)
  announces sites l last (suc r) j reached =
      more_steps (omega arith)
      (announce_step _ (2 * suc r) (announcements c.threshold c.base (suc j) (suc r)) j
      (change_first fresh_site (told c.threshold) j sites) (omega arith)
      (announces sites l last r (suc j) (omega arith)))
