-- An arrival with full delivery, in closed form: the four cases of `after_arrival`, for every
-- network whose coordinator is idle, arisen or not, with any list of sites. PROOF.md section 4.
--
--   after_arrival_lem  the network and the messages, in each of the four cases
--   delivers_after    the same as a delivery: it comes to rest there within `most_steps`, and more
--                     fuel changes nothing
-- The cases and the names of their parts are in ArrivalParts.antt.
use Rattle.std.specs.Prelude.{if◌then◌else◌}
use mathlib.Core.Path.{◌≡◌, refl, sym, ap, subst}
use mathlib.Core.Bool.{Bool, true, false}
use mathlib.Core.List.{List, [], ◌∷◌, ◌++◌, append-nil, append_assoc}
use Prim.Native.Nat.{ℕ, ◌+◌, ◌*◌, ◌≤◌}
use native.Mathlib.Omega.{arith}
use lib.Dec.{eqb}
use borrow.Author.Tests.{eq-eqb, ne_eqb}
use Rattle.model.specs.declared.Settings.{Settings}
use Rattle.model.specs.declared.Arrival.{Arrival}
use Rattle.model.specs.declared.Message.{Message}
use Rattle.model.specs.declared.Phase.TheVariants.{Idle, Collecting}
use Rattle.model.specs.Limits.{closing_steps, most_steps}
use Rattle.model.specs.Messages.{item_report, count_report, poll}
use Rattle.model.specs.Site.{Site, reports_item, reports_count, reported_value}
use Rattle.model.specs.Coordinator.{Coordinator, with_phase}
use Rattle.model.specs.Network.{Network, site_at, delivery_fuel, after_arrival}
use Rattle.model.proofs.Deliveries.DeliverySteps.{Delivers, hands, rests, more_steps, delivered_of}
use Rattle.model.proofs.Deliveries.DeliveryLoops.{network_of}
use Rattle.model.proofs.Deliveries.DeliveryClose.{close_one, close_more}
use Rattle.model.proofs.Deliveries.ArrivalParts.{with_item_report, with_count_report, observed_sites, first_messages, after_item_report, after_count_report, ArrivalCase, no_count_report, count_reported, closes_one, closes_more, network_then, messages_then}

-- ---- Handing over the messages of an arrival

module _ (settings : Settings) (sites : List Site) (c : Coordinator) (j amount : ℕ) where
  item_report_handed : (final : Network) (n : ℕ) (sent waiting : List Message) (item : ℕ)
      (due : Bool)
      → Delivers settings final n sent (network_of sites (with_item_report c due item amount))
      waiting
      → Delivers settings final (n + 1)
      ((if due then item_report j item amount ∷ [] else []) ++ sent)
      (network_of sites (with_phase c Idle))
      ((if due then item_report j item amount ∷ [] else []) ++ waiting)
  item_report_handed final n sent waiting item true later =
      more_steps (omega arith) (hands n sent _ _ waiting (rw append-nil later))
  item_report_handed final n sent waiting item false later = more_steps (omega arith) later

  -- A signal that is not the k-th ends the delivery.
  count_report_handed : (value : ℕ)
      → (c.signals + 1 ≡ settings.sites → ⊥)
      → Delivers settings (network_of sites (with_count_report c amount value Idle)) 1
      (count_report j amount value ∷ [])
      (network_of sites (with_phase c Idle)) (count_report j amount value ∷ [])
  count_report_handed value few =
      let stays : eqb (c.signals + 1) settings.sites ≡ false =
      ne_eqb (c.signals + 1) settings.sites few in
      hands 0 [] _ _ [] (rw stays (rests settings _ refl))

  -- The k-th signal closes the round.
  closing_report_handed : (final : Network) (n : ℕ) (sent : List Message) (value : ℕ)
      → c.signals + 1 ≡ settings.sites
      → Delivers settings final n sent
      (network_of sites (with_count_report c amount value (Collecting 0))) (poll 0 ∷ [])
      → Delivers settings final (n + 1) (count_report j amount value ∷ sent)
      (network_of sites (with_phase c Idle)) (count_report j amount value ∷ [])
  closing_report_handed final n sent value all later =
      let closes : eqb (c.signals + 1) settings.sites ≡ true =
      eq-eqb (c.signals + 1) settings.sites all in
      more_steps (omega arith) (hands n sent _ _ [] (rw closes later))

-- ---- Deliveries after an arrival

-- The delivery that an arrival sets off ends at this network, with these messages in all.
abbrev pub DeliversAfter : Settings → Network → Arrival → Network → List Message → Type 0
DeliversAfter settings network arrival final sent =
    Delivers settings final (most_steps settings) sent
    (network_of (observed_sites settings network arrival) network.coordinator)
    (first_messages settings network arrival)

module _ {settings : Settings} {final network : Network} {n : ℕ} (items : List Message)
    (m : Message) (count_due : Bool) where
  with_count_report_lem : (sent : List Message)
      → count_due ≡ true
      → Delivers settings final n (items ++ (m ∷ sent)) network (items ++ (m ∷ []))
      → Delivers settings final n ((items ++ (if count_due then m ∷ [] else [])) ++ sent) network
      (items ++ (if count_due then m ∷ [] else []))
  with_count_report_lem sent due there = rw (due, append_assoc) there

  without_count_report : count_due ≡ false
      → Delivers settings final n (items ++ []) network (items ++ [])
      → Delivers settings final n (items ++ (if count_due then m ∷ [] else [])) network
      (items ++ (if count_due then m ∷ [] else []))
  without_count_report none there = rw none there

module _ (settings : Settings) (network : Network) (arrival : Arrival)
    (idle : network.coordinator.phase ≡ Idle) where
  abbrev site : Site
  site = site_at network arrival.site

  abbrev sites : List Site
  sites = observed_sites settings network arrival

  abbrev item_due : Bool
  item_due = reports_item settings site arrival

  abbrev items : List Message
  items = if item_due then item_report arrival.site arrival.item site.threshold ∷ [] else []

  abbrev report : Message
  report = count_report arrival.site site.threshold (reported_value site arrival)

  -- A delivery from the idle coordinator, as the network has it, in no more than the most steps.
  from_idle : (final : Network) (n : ℕ) (sent : List Message)
      → n ≤ most_steps settings
      → Delivers settings final n sent
      (network_of sites (with_phase network.coordinator Idle))
      (first_messages settings network arrival)
      → DeliversAfter settings network arrival final sent
  from_idle final n sent fits there =
      subst
      (λ (c : Coordinator). Delivers settings final (most_steps settings) sent
      (network_of sites c) (first_messages settings network arrival))
      (sym (ap (with_phase network.coordinator) idle)) (more_steps fits there)

  delivers_no_count_report : reports_count site ≡ false
      → DeliversAfter settings network arrival
      (network_of sites (after_item_report settings network arrival))
      (first_messages settings network arrival)
  delivers_no_count_report none =
      from_idle _ 1 _ (omega arith)
      (without_count_report items report (reports_count site) none
      (item_report_handed settings sites network.coordinator arrival.site site.threshold
      _ 0 [] [] arrival.item item_due (rests settings _ refl)))

  -- The item report, if due, comes first; what follows it is known.
  reported : (final : Network) (n : ℕ) (sent : List Message)
      → Delivers settings final n sent
      (network_of sites (after_item_report settings network arrival)) (report ∷ [])
      → Delivers settings final (n + 1) (items ++ sent)
      (network_of sites (with_phase network.coordinator Idle)) (items ++ (report ∷ []))
  reported final n sent later =
      item_report_handed settings sites network.coordinator arrival.site site.threshold
      final n sent (report ∷ []) arrival.item item_due later

  delivers_count_report : reports_count site ≡ true
      → (network.coordinator.signals + 1 ≡ settings.sites → ⊥)
      → DeliversAfter settings network arrival
      (network_of sites (after_count_report settings network arrival Idle))
      (first_messages settings network arrival)
  delivers_count_report due few =
      from_idle _ 2 _ (omega arith)
      (rw append-nil at
      (with_count_report_lem items report (reports_count site) [] due
      (reported (network_of sites (after_count_report settings network arrival Idle)) 1
      (report ∷ [])
      (count_report_handed settings sites (after_item_report settings network arrival)
      arrival.site site.threshold (reported_value site arrival) few))))

  -- The count report is the k-th signal; the close that follows it is known.
  delivers_close : (final : Network) (n : ℕ) (sent : List Message)
      → n + 2 ≤ most_steps settings
      → reports_count site ≡ true
      → network.coordinator.signals + 1 ≡ settings.sites
      → Delivers settings final n sent
      (network_of sites (after_count_report settings network arrival (Collecting 0))) (poll 0 ∷ [])
      → DeliversAfter settings network arrival final
      (first_messages settings network arrival ++ sent)
  delivers_close final n sent fits due all later =
      from_idle final (n + 1 + 1) _ (omega arith)
      (with_count_report_lem items report (reports_count site) sent due
      (reported final (n + 1) (report ∷ sent)
      (closing_report_handed settings sites (after_item_report settings network arrival)
      arrival.site site.threshold final n sent (reported_value site arrival) all later)))

  -- In each case the delivery ends at that case's network, with that case's messages.
  pub delivers_after : (which : ArrivalCase settings network arrival)
      → DeliversAfter settings network arrival (network_then which) (messages_then which)
  delivers_after (no_count_report none) = delivers_no_count_report none
  delivers_after (count_reported due few) = delivers_count_report due few
  delivers_after (closes_one due all one) =
      delivers_close _ (4 * settings.sites) _ (omega arith) due all
      (close_one settings sites (after_count_report settings network arrival (Collecting 0))
      (network.coordinator.total + site.threshold) network.coordinator.signals
      (omega arith) one)
  delivers_after (closes_more due all more) =
      delivers_close _ (closing_steps settings) _ (omega arith) due all
      (close_more settings sites (after_count_report settings network arrival (Collecting 0))
      (network.coordinator.total + site.threshold) network.coordinator.signals
      (omega arith) more)

  -- The closed form: an arrival with full delivery.
  pub after_arrival_lem : (which : ArrivalCase settings network arrival)
      → after_arrival settings network arrival
      ≡ record { network = network_then which; messages = messages_then which }
  after_arrival_lem which = delivered_of (delivery_fuel settings) (omega arith)
      (delivers_after which)
