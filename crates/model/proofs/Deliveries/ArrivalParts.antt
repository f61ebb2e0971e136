-- The parts of which the closed form of an arrival with full delivery is made: the sites and the
-- coordinator when the arrival's own messages are taken, and after a close. PROOF.md section 4.
--
--   with_item_report, with_count_report  a coordinator that took kind 1, or kind 2
--   observed_sites, first_messages      the sites with the arrival, and its own messages
--   after_item_report, after_count_report  the coordinator after these messages
--   base_after                          the base that a close after this arrival gives
--   closed_one_after, closed_more_after  the network after a close: new threshold 1, or 2 and more
--   ArrivalCase, arrival_case           the four cases: no_count_report, count_reported,
-- closes_one,
--                                       closes_more
--   network_then, messages_then, close_count  what each of them leaves and sends
--   length_first_messages               0, 1 or 2
--   length_messages_then                these, and close_count more
use Rattle.std.specs.Prelude.{if◌then◌else◌}
use mathlib.Core.Path.{◌≡◌, refl, ap, ◌∙◌}
use mathlib.Core.Bool.{Bool, true, false}
use mathlib.Core.List.{List, [], ◌∷◌, ◌++◌}
use Prim.Native.Nat.{ℕ, ◌+◌, ◌*◌, ◌≤◌, ◌<◌}
use native.Mathlib.Omega.{arith}
use native.Mathlib.Decide.{ℕ_discrete, dec_lt}
use lib.Dec.{eqb}
use lib.ListN.{length, get_or, set, length-append}
use Rattle.model.specs.declared.Settings.{Settings}
use Rattle.model.specs.declared.Arrival.{Arrival}
use Rattle.model.specs.declared.Message.{Message}
use Rattle.model.specs.declared.Phase.{Phase}
use Rattle.model.specs.declared.Phase.TheVariants.{Idle}
use Rattle.model.specs.Refusals.{when}
use Rattle.model.specs.Limits.{closing_messages}
use Rattle.model.specs.Settings.{threshold_of}
use Rattle.model.specs.Site.{Site, one_more_at, observed, reports_item, reports_count, reported_value}
use Rattle.model.specs.Coordinator.{Coordinator, with_base, with_quantile, at_rest}
use Rattle.model.specs.Network.{Network, site_at}
use Rattle.model.proofs.Deliveries.DeliveryLoops.{network_of}
use Rattle.model.proofs.Deliveries.DeliveryClose.{base_of, quantile_found, sites_closed, close_messages_one, close_messages_more, length_close_messages_one, length_close_messages_more}

-- ---- The coordinator after kinds 1 and 2

-- An item report, if one is due, was taken.
abbrev pub with_item_report : Coordinator → Bool → ℕ → ℕ → Coordinator
with_item_report c due item amount = record {
  estimates = if due then set c.estimates item (get_or c.estimates item 0 + amount)
      else c.estimates;
  histogram = c.histogram;
  total = c.total;
  base = c.base;
  threshold = c.threshold;
  signals = c.signals;
  quantile = c.quantile;
  phase = Idle;
}

-- A count report was taken; the phase says whether it closes the round.
abbrev pub with_count_report : Coordinator → ℕ → ℕ → Phase → Coordinator
with_count_report c amount value phase = record {
  estimates = c.estimates;
  histogram = if eqb c.threshold 1 then one_more_at c.histogram value else c.histogram;
  total = c.total + amount;
  base = c.base;
  threshold = c.threshold;
  signals = c.signals + 1;
  quantile = c.quantile;
  phase = phase;
}

-- ---- The parts of the closed form

-- The sites with the arrival observed at its own.
abbrev pub observed_sites : Settings → Network → Arrival → List Site
observed_sites settings network arrival =
    set network.sites arrival.site
    (observed settings (site_at network arrival.site) arrival).site

-- The messages of the arrival itself, at most one of kind 1 and one of kind 2.
abbrev pub first_messages : Settings → Network → Arrival → List Message
first_messages settings network arrival =
    (observed settings (site_at network arrival.site) arrival).messages

-- The coordinator once the item report, if one is due, is taken.
abbrev pub after_item_report : Settings → Network → Arrival → Coordinator
after_item_report settings network arrival =
    with_item_report network.coordinator
    (reports_item settings (site_at network arrival.site) arrival)
    arrival.item (site_at network arrival.site).threshold

-- And the count report, which leaves it in this phase.
abbrev pub after_count_report : Settings → Network → Arrival → Phase → Coordinator
after_count_report settings network arrival phase =
    with_count_report (after_item_report settings network arrival)
    (site_at network arrival.site).threshold
    (reported_value (site_at network arrival.site) arrival) phase

-- The base that a close after this arrival gives.
abbrev pub base_after : Settings → Network → Arrival → ℕ
base_after settings network arrival =
    base_of settings (observed_sites settings network arrival)
    (network.coordinator.total + (site_at network arrival.site).threshold)

-- The network after a close: the sites cleared and told, the coordinator at rest.
abbrev pub closed_one_after : Settings → Network → Arrival → Network
closed_one_after settings network arrival =
    let base = base_after settings network arrival in
    let threshold = threshold_of settings base in
    network_of (sites_closed settings (observed_sites settings network arrival) threshold)
    (at_rest (with_base (after_count_report settings network arrival Idle) base threshold Idle))

-- With a new threshold of 2 or more the quantile is found anew.
abbrev pub closed_more_after : Settings → Network → Arrival → Network
closed_more_after settings network arrival =
    let base = base_after settings network arrival in
    let threshold = threshold_of settings base in
    let sites = observed_sites settings network arrival in
    network_of (sites_closed settings sites threshold)
    (at_rest (with_quantile
    (with_base (after_count_report settings network arrival Idle) base threshold Idle)
    (quantile_found settings sites base) Idle))

-- ---- The four cases

-- No kind 2 goes out; it goes out and is not the k-th signal; it is, and the round is closed, with
-- a new threshold of 1, or of 2 and more.
pub data ArrivalCase (settings : Settings) (network : Network) (arrival : Arrival) : Type 0 where
  no_count_report : reports_count (site_at network arrival.site) ≡ false
      → ArrivalCase settings network arrival
  count_reported : reports_count (site_at network arrival.site) ≡ true
      → (network.coordinator.signals + 1 ≡ settings.sites → ⊥)
      → ArrivalCase settings network arrival
  closes_one : reports_count (site_at network arrival.site) ≡ true
      → network.coordinator.signals + 1 ≡ settings.sites
      → threshold_of settings (base_after settings network arrival) < 2
      → ArrivalCase settings network arrival
  closes_more : reports_count (site_at network arrival.site) ≡ true
      → network.coordinator.signals + 1 ≡ settings.sites
      → 2 ≤ threshold_of settings (base_after settings network arrival)
      → ArrivalCase settings network arrival

-- One of them always holds.
pub arrival_case : (settings : Settings) (network : Network) (arrival : Arrival)
    → ArrivalCase settings network arrival
arrival_case settings network arrival =
    by_tests (reports_count (site_at network arrival.site)) refl
    (ℕ_discrete (network.coordinator.signals + 1) settings.sites)
    (dec_lt (threshold_of settings (base_after settings network arrival)) 2)
  where
    by_tests : (due : Bool) → reports_count (site_at network arrival.site) ≡ due
        → Dec (network.coordinator.signals + 1 ≡ settings.sites)
        → Dec (threshold_of settings (base_after settings network arrival) < 2)
        → ArrivalCase settings network arrival
    by_tests false none last low = no_count_report none
    by_tests true due (no few) low = count_reported due few
    by_tests true due (yes all) (yes one) = closes_one due all one
    by_tests true due (yes all) (no more) = closes_more due all (omega arith)

module _ {settings : Settings} {network : Network} {arrival : Arrival} where
  -- The network and all messages in each case.
  abbrev pub network_then : ArrivalCase settings network arrival → Network
  network_then (no_count_report none) =
      network_of (observed_sites settings network arrival)
      (after_item_report settings network arrival)
  network_then (count_reported due few) =
      network_of (observed_sites settings network arrival)
      (after_count_report settings network arrival Idle)
  network_then (closes_one due all one) = closed_one_after settings network arrival
  network_then (closes_more due all more) = closed_more_after settings network arrival

  -- All messages in each case.
  abbrev pub messages_then : ArrivalCase settings network arrival → List Message
  messages_then (no_count_report none) = first_messages settings network arrival
  messages_then (count_reported due few) = first_messages settings network arrival
  messages_then (closes_one due all one) =
      first_messages settings network arrival
      ++ close_messages_one settings (observed_sites settings network arrival)
      (base_after settings network arrival)
  messages_then (closes_more due all more) =
      first_messages settings network arrival
      ++ close_messages_more settings (observed_sites settings network arrival)
      (base_after settings network arrival)

  -- How many messages: those of the arrival itself, and 3 * k or 23 * k of a close.
  abbrev pub close_count : ArrivalCase settings network arrival → ℕ
  close_count (no_count_report none) = 0
  close_count (count_reported due few) = 0
  close_count (closes_one due all one) = 3 * settings.sites
  close_count (closes_more due all more) = closing_messages settings

-- One for each report that is due.
pub length_first_messages : (settings : Settings) (network : Network) (arrival : Arrival)
    → length (first_messages settings network arrival)
    ≡ when (reports_item settings (site_at network arrival.site) arrival) 1
    + when (reports_count (site_at network arrival.site)) 1
length_first_messages settings network arrival =
    by_reports (reports_item settings (site_at network arrival.site) arrival)
    (reports_count (site_at network arrival.site)) _ _
  where
    by_reports : (item_due count_due : Bool) (m m' : Message)
        → length ((if item_due then m ∷ [] else []) ++ (if count_due then m' ∷ [] else []))
        ≡ when item_due 1 + when count_due 1
    by_reports true true m m' = refl
    by_reports true false m m' = refl
    by_reports false true m m' = refl
    by_reports false false m m' = refl

-- The messages of the arrival itself, and those of the close.
pub length_messages_then : (settings : Settings) (network : Network) (arrival : Arrival)
    (which : ArrivalCase settings network arrival)
    → length (messages_then which)
    ≡ length (first_messages settings network arrival) + close_count which
length_messages_then settings network arrival (no_count_report none) = omega arith
length_messages_then settings network arrival (count_reported due few) = omega arith
length_messages_then settings network arrival (closes_one due all one) =
    length-append (first_messages settings network arrival) _
    ∙ ap (λ (n : ℕ). length (first_messages settings network arrival) + n)
    (length_close_messages_one settings (observed_sites settings network arrival)
    (base_after settings network arrival))
length_messages_then settings network arrival (closes_more due all more) =
    length-append (first_messages settings network arrival) _
    ∙ ap (λ (n : ℕ). length (first_messages settings network arrival) + n)
    (length_close_messages_more settings (observed_sites settings network arrival)
    (base_after settings network arrival))
