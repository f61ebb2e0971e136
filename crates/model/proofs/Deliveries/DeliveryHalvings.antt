-- The halvings of a close: each asks every site in turn and narrows the interval, until one value
-- is left. For a free number of halvings, and any interval. PROOF.md sections 4 and 5.
--
--   count_up_to settings sites value  the arrivals at or below a value, summed over the sites
--   probes                           from any site on, to the probe of the last site
--   halvings_end                     all halvings, from any interval of at most 2 ^ h values
-- Letters: k the sites, l the last of them, j the site that is asked, r the sites after it, h
-- halvings, n steps of the delivery that follows.
use mathlib.Core.Path.{◌≡◌, refl, ap, ◌∙◌, subst}
use mathlib.Core.Bool.{Bool, true, false}
use mathlib.Core.List.{List, [], ◌∷◌, ◌++◌, append_assoc}
use Prim.Native.Nat.{ℕ, zero, suc, ◌+◌, ◌*◌, ◌^◌, ◌≤◌, ◌<◌}
use native.Mathlib.Omega.{arith}
use native.Mathlib.Numerals.{add-one}
use lib.Dec.{eqb, ltb}
use lib.Seq.{set-get_or}
use borrow.Author.Tests.{lt-ltb, le-ltb, eqb-true, eqb-false, eq-eqb, ne_eqb}
use Rattle.laws.proofs.Sums.{sum_below}
use Rattle.model.specs.declared.Settings.{Settings}
use Rattle.model.specs.declared.Message.{Message}
use Rattle.model.specs.declared.Phase.TheVariants.{Probing, Announcing}
use Rattle.model.specs.Messages.{probe, probe_answer}
use Rattle.model.specs.Site.{Site, fresh_site}
use Rattle.model.specs.Coordinator.{Coordinator, with_phase, with_quantile, middle, enough, narrowed, halved}
use Rattle.model.specs.Network.{Network}
use Rattle.model.proofs.Deliveries.Halving.{halve, halve_done, halve_lower, halve_upper}
use Rattle.model.proofs.Deliveries.DeliverySteps.{Delivers, hands, more_steps}
use Rattle.model.proofs.Deliveries.DeliveryMessages.{up_to_at, probe_messages, halving_messages, halving_messages_done, halving_messages_lower, halving_messages_upper}
use Rattle.model.proofs.Deliveries.DeliveryLoops.{network_of}

-- What the coordinator adds up for a value: the arrivals at or below it at every site.
abbrev pub count_up_to : Settings → List Site → ℕ → ℕ
count_up_to settings sites value = sum_below (up_to_at value sites) settings.sites

module _ (settings : Settings) (final : Network) (sites : List Site) (c : Coordinator) where
  probe_step : (n : ℕ) (sent : List Message) (low high j sum : ℕ)
      → suc j < settings.sites
      → Delivers settings final n sent
      (network_of sites
      (with_phase c (Probing (suc j) low high (sum + up_to_at (middle low high) sites j))))
      (probe (suc j) (middle low high) ∷ [])
      → Delivers settings final (n + 2)
      (probe j (middle low high)
      ∷ (probe_answer j (middle low high) (up_to_at (middle low high) sites j) ∷ sent))
      (network_of sites (with_phase c (Probing j low high sum)))
      (probe j (middle low high) ∷ [])
  probe_step n sent low high j sum inside later =
      let goes_on : ltb (j + 1) settings.sites ≡ true =
      lt-ltb (j + 1) settings.sites (omega arith) in
      more_steps (omega arith)
      (hands (suc n) _ _ _ []
      (hands n sent _ _ [] (rw (goes_on, add-one j, set-get_or sites j fresh_site) later)))

  -- The last site's answer ends the halving.
  probe_last : (n : ℕ) (sent : List Message) (low high j sum : ℕ)
      → suc j ≡ settings.sites
      → Delivers settings final n sent
      (network_of sites
      (halved settings c low high (sum + up_to_at (middle low high) sites j)).coordinator)
      (halved settings c low high (sum + up_to_at (middle low high) sites j)).messages
      → Delivers settings final (n + 2)
      (probe j (middle low high)
      ∷ (probe_answer j (middle low high) (up_to_at (middle low high) sites j) ∷ sent))
      (network_of sites (with_phase c (Probing j low high sum)))
      (probe j (middle low high) ∷ [])
  probe_last n sent low high j sum last later =
      let ends : ltb (j + 1) settings.sites ≡ false =
      le-ltb (j + 1) settings.sites (omega arith) in
      more_steps (omega arith)
      (hands (suc n) _ _ _ []
      (hands n sent _ _ [] (rw (ends, set-get_or sites j fresh_site) later)))

  -- The network when the first j sites have answered for this interval's middle.
  abbrev pub probe_state : ℕ → ℕ → ℕ → Network
  probe_state low high j =
      network_of sites
      (with_phase c (Probing j low high (sum_below (up_to_at (middle low high) sites) j)))

  -- From the probe of site j on, when the delivery from the last probe on is known.
  pub probes : (low high n l : ℕ) (sent : List Message)
      → suc l ≡ settings.sites
      → Delivers settings final n
      (probe l (middle low high)
      ∷ (probe_answer l (middle low high) (up_to_at (middle low high) sites l) ∷ sent))
      (probe_state low high l) (probe l (middle low high) ∷ [])
      → (r j : ℕ) → j + r ≡ l
      → Delivers settings final (n + 2 * r)
      (probe_messages sites (middle low high) j (suc r) ++ sent)
      (probe_state low high j) (probe j (middle low high) ∷ [])
  probes low high n l sent last end zero j reached =
      let at_last : j ≡ l = omega arith in
      rw at_last (more_steps (omega arith) end)
  probes low high n l sent last end (suc r) j reached =
      more_steps (omega arith)
      (probe_step (n + 2 * r) (probe_messages sites (middle low high) (suc j) (suc r) ++ sent)
      low high j (sum_below (up_to_at (middle low high) sites) j) (omega arith)
      (probes low high n l sent last end r (suc j) (omega arith)))

  -- All sites are asked: from the probe of site 0 on.
  pub all_probes : (low high n l : ℕ) (sent : List Message)
      → suc l ≡ settings.sites
      → Delivers settings final n
      (probe l (middle low high)
      ∷ (probe_answer l (middle low high) (up_to_at (middle low high) sites l) ∷ sent))
      (probe_state low high l) (probe l (middle low high) ∷ [])
      → Delivers settings final (n + 2 * l)
      (probe_messages sites (middle low high) 0 settings.sites ++ sent)
      (probe_state low high 0) (probe 0 (middle low high) ∷ [])
  all_probes low high n l sent last end =
      subst
      (λ (k : ℕ). Delivers settings final (n + 2 * l)
      (probe_messages sites (middle low high) 0 k ++ sent)
      (probe_state low high 0) (probe 0 (middle low high) ∷ []))
      last (probes low high n l sent last end l 0 (omega arith))

-- ---- All halvings

module _ (settings : Settings) (final : Network) (sites : List Site) (c : Coordinator)
    (test : ℕ → Bool)
    (tests : (v : ℕ)
    → enough settings.rank c.base (count_up_to settings sites v) ≡ test v)
    (n l : ℕ) (sent : List Message) (last : suc l ≡ settings.sites) where
  -- What is left of the interval low to high, and that its delivery ends as it should.
  abbrev Halves : ℕ → ℕ → ℕ → Type 0
  Halves h low high =
      Delivers settings final n sent
      (network_of sites (with_quantile c (halve test h low high) (Announcing 0))) []
      → Delivers settings final (n + 2 * (settings.sites * h))
      (halving_messages sites settings.sites test h low high ++ sent)
      (network_of sites (narrowed c low high).coordinator)
      (narrowed c low high).messages

  -- One value is left: it is the quantile, and the announcements follow.
  one_left : (h low high : ℕ) → low ≡ high → Halves h low high
  one_left h low high done later =
      rw (halving_messages_done sites settings.sites test h low high done, eq-eqb low high done)
      (more_steps (omega arith) (rw (halve_done test h low high done) at later))

  -- The sum over the sites up to the last is the count that the test asks for.
  tested : (v : ℕ) (b : Bool) → test v ≡ b
      → enough settings.rank c.base (sum_below (up_to_at v sites) (suc l)) ≡ b
  tested v b is =
      ap (λ (k : ℕ). enough settings.rank c.base (sum_below (up_to_at v sites) k)) last
      ∙ tests v ∙ is

  -- All sites are asked, and the last answer ends this halving.
  one_halving : (h low high : ℕ) (messages : List Message)
      → low < high
      → Delivers settings final (n + 2 * (settings.sites * h)) messages
      (network_of sites
      (halved settings c low high (sum_below (up_to_at (middle low high) sites)
      (suc l))).coordinator)
      (halved settings c low high (sum_below (up_to_at (middle low high) sites) (suc l))).messages
      → Delivers settings final (n + 2 * (settings.sites * suc h))
      (probe_messages sites (middle low high) 0 settings.sites ++ messages)
      (network_of sites (narrowed c low high).coordinator)
      (narrowed c low high).messages
  one_halving h low high messages wide later =
      rw (ne_eqb low high (λ done. omega arith))
      (more_steps (omega (arith, ap (λ (x : ℕ). x * h) last))
      (all_probes settings final sites c low high (n + 2 * (settings.sites * h) + 2) l messages
      last (probe_last settings final sites c (n + 2 * (settings.sites * h)) messages low high l _
      last later)))

  half_left : (h low high : ℕ)
      → low < high
      → (b : Bool) → test (middle low high) ≡ b
      → Halves h low (middle low high)
      → Halves h (middle low high + 1) high
      → Halves (suc h) low high
  half_left h low high wide true holds in-lower in-upper later =
      let rest = in-lower (rw (halve_lower test h low high wide holds) at later) in
      rw (
        halving_messages_lower sites settings.sites test h low high wide holds,
        append_assoc,
      )
      (one_halving h low high _ wide (rw (tested (middle low high) true holds) rest))
  half_left h low high wide false fails in-lower in-upper later =
      let rest = in-upper (rw (halve_upper test h low high wide fails) at later) in
      rw (
        halving_messages_upper sites settings.sites test h low high wide fails,
        append_assoc,
      )
      (one_halving h low high _ wide (rw (tested (middle low high) false fails) rest))

  -- From any interval of at most 2 ^ h values: what remains is the quantile.
  pub halvings_end : (h low high : ℕ)
      → low ≤ high
      → high < low + 2 ^ h
      → Halves h low high
  halvings_end zero low high ordered narrow = one_left zero low high (omega arith)
  halvings_end (suc h) low high ordered narrow =
      by_width (eqb low high) refl
      (halvings_end h low (middle low high)) (halvings_end h (middle low high + 1) high)
    where
      by_width : (done : Bool) → eqb low high ≡ done
          → (low ≤ middle low high → middle low high < low + 2 ^ h
          → Halves h low (middle low high))
          → (middle low high + 1 ≤ high → high < middle low high + 1 + 2 ^ h
          → Halves h (middle low high + 1) high)
          → Halves (suc h) low high
      by_width true same in-lower in-upper = one_left (suc h) low high (eqb-true low high same)
      by_width false differ in-lower in-upper =
          let wide : low < high = omega (arith, eqb-false low high differ) in
          half_left h low high wide (test (middle low high)) refl
          (in-lower (omega arith) (omega arith)) (in-upper (omega arith) (omega arith))
