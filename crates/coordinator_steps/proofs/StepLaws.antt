-- Why an accepted message may be taken: what a step asks gives what the function for its kind asks
-- (sums fit), and which steps leave the numbers in memory as they are.
--
--   settings_fit, threshold_small         what settings and threshold are worth
--   item_asks, count_asks, poll_asks, probe_asks
--   poll_kept, probe_kept                 kinds 4 and 6 change the record alone
use mathlib.Core.Path.{◌≡◌, refl}
use mathlib.Core.Bool.{Bool, true, false}
use mathlib.Core.List.{List}
use Prim.Native.Nat.{ℕ, ◌+◌, ◌*◌, ◌/◌, ◌≤◌, ◌<◌}
use native.Mathlib.Nat.{div-le_of_le-mul, mul-le-mul}
use native.Mathlib.Omega.{arith}
use lib.Dec.{eqb, ltb, leb}
use lib.ListN.{length, get_or, drop}
use lib.Seq.{get_or-take, get_or-drop}
use Rattle.model.specs.declared.Settings.{Settings}
use Rattle.model.specs.declared.Message.{Message}
use Rattle.model.specs.declared.Phase.TheVariants.{Idle, Collecting, Probing}
use Rattle.model.specs.declared.CoordinatorRecord.{CoordinatorRecord}
use Rattle.model.specs.Refusals.{no_refusal}
use Rattle.model.specs.Limits.{value_count, site_limit}
use Rattle.model.specs.Settings.{settings_refusal, threshold_of}
use Rattle.model.specs.Coordinator.{Coordinator, enough, closed, narrowed, halved, takes_poll_answer, takes_probe_answer, middle}
use Rattle.model.specs.CoordinatorMemory.{coordinator_in, coordinator_memory, coordinator_words}
use Rattle.model.specs.SoundNetwork.{SoundPhase}
use Rattle.model.proofs.Thresholds.SettingsLaws.{settled}
use Rattle.model.proofs.BetweenArrivals.ReportLaws.{value_counted}
use Rattle.coordinator_kinds.specs.Steps.{SettingsFit, ItemReportAsks, ValueRoom, CountReportAsks, PollAsks, ProbeAsks}
use Rattle.coordinator_steps.specs.Ready.{StepAsks, ready_limit}
use Rattle.coordinator_steps.proofs.Accepted.{MessageAccepted, message_accepted, count_report_of_idle, kind_of_collecting, kind_of_probing, item_known_of_report, item_amount_of_report, count_amount_of_report, value_of_report, amount_of_poll_answer, amount_of_probe_answer}
use Rattle.coordinator_kinds.proofs.MemoryLaws.{memory_kept}

-- ---- Settings and threshold

pub settings_fit : (settings : Settings) → settings_refusal settings ≡ no_refusal → SettingsFit
    settings
settings_fit settings none =
    let facts = settled settings none in
    record {
      sites_some = facts.sites.at_least;
      sites_few = facts.sites.at_most;
      epsilon_small = facts.epsilon.at_most;
      rank_small = facts.rank.at_most;
    }

-- e * base / (3000 * k) ≤ base, as e ≤ 1000 ≤ 3000 * k.
pub threshold_small : (settings : Settings) (base : ℕ)
    → SettingsFit settings
    → threshold_of settings base ≤ base + 1
threshold_small settings base fit =
    let factors : settings.epsilon ≤ 3000 * settings.sites = omega arith in
    let share : settings.epsilon * base / (3000 * settings.sites) ≤ base =
    div-le_of_le-mul (3000 * settings.sites) (mul-le-mul {m₁ = base} {m₂ = base} factors
    (omega arith)) in
    omega arith

-- ---- What each kind asks

module _ (settings : Settings) (numbers : CoordinatorRecord) (m : Message) (memory : List ℕ)
    (asks : StepAsks settings numbers m memory) where
  abbrev here : Coordinator
  here = coordinator_in settings numbers memory

  fit : SettingsFit settings
  fit = settings_fit settings asks.settings_accepted

  taken : MessageAccepted settings here m
  taken = message_accepted settings here m asks.message_accepted

  -- The threshold is at most base + 1, and base at most the total.
  threshold_within : numbers.threshold ≤ ready_limit + 1
  threshold_within =
      let ready = asks.ready in
      omega (
        arith,
        ready.sound.numbers.threshold_of_base,
        ready.sound.numbers.base_within,
        ready.within.total_within,
        threshold_small settings numbers.base fit,
      )

  pub item_asks : m.kind ≡ 1 → ItemReportAsks settings m memory
  item_asks is =
      let known : m.a < settings.universe = item_known_of_report settings here m taken is in
      let number : get_or memory m.a 0 ≤ ready_limit =
      rw (get_or-take settings.universe memory m.a 0 known) at
      (asks.ready.within.estimates_within m.a) in
      record {
        memory_long = asks.memory_long;
        item_known = known;
        number_small = omega (
          arith,
          item_amount_of_report settings here m taken is,
          threshold_within,
        );
      }

  value_room : m.kind ≡ 2 → numbers.threshold ≡ 1 → ValueRoom settings m.b memory
  value_room is one =
      let known : m.b < value_count =
      value_counted m.b (value_of_report settings here m taken is one) in
      let count : get_or memory (settings.universe + m.b) 0 ≤ ready_limit =
      rw (get_or-take value_count (drop settings.universe memory) m.b 0 known, get_or-drop) at
      (asks.ready.within.histogram_within m.b) in
      record { value_known = known; memory_long = asks.memory_long; count_small = omega arith }

  pub count_asks : numbers.phase ≡ Idle → (m.kind ≡ 1 → ⊥)
      → CountReportAsks settings numbers m memory
  count_asks idle other =
      let is : m.kind ≡ 2 = count_report_of_idle settings here m taken idle other in
      let amount : m.a ≡ numbers.threshold = count_amount_of_report settings here m taken is in
      record {
        settings_fit = fit;
        memory_long = asks.memory_long;
        value_room = value_room is;
        signals_few = rw idle at asks.ready.sound.phase_sound;
        total_small = omega (arith, threshold_within, asks.ready.within.total_within);
      }

  pub poll_asks : (site : ℕ) → numbers.phase ≡ Collecting site → PollAsks settings numbers site m
  poll_asks site collecting =
      let is : m.kind ≡ 4 = kind_of_collecting settings here m taken site collecting in
      let amount : m.a < numbers.threshold = amount_of_poll_answer settings here m taken is in
      let phase : SoundPhase settings numbers.signals (Collecting site) =
      rw collecting at asks.ready.sound.phase_sound in
      record {
        settings_fit = fit;
        site_known = phase.site_known;
        total_small = omega (arith, threshold_within, asks.ready.within.total_within);
      }

  pub probe_asks : (site low high total : ℕ)
      → numbers.phase ≡ Probing site low high total
      → ProbeAsks settings numbers site low high (total + m.b)
  probe_asks site low high total probing =
      let is : m.kind ≡ 6 = kind_of_probing settings here m taken site low high total probing in
      let amount : m.b ≤ site_limit = amount_of_probe_answer settings here m taken is in
      let phase : SoundPhase settings numbers.signals (Probing site low high total) =
      rw probing at asks.ready.sound.phase_sound in
      let gathered : total ≤ ready_limit = rw probing at asks.ready.within.sum_within in
      record {
        site_known = phase.closing.site_known;
        halving = record {
          settings_fit = fit;
          base_small = omega (
            arith,
            asks.ready.sound.numbers.base_within,
            asks.ready.within.total_within,
          );
          interval = phase.interval.low_below;
          values = phase.interval.high_within;
          sum_small = omega arith;
        };
      }

-- ---- Steps that leave the numbers in memory

-- The same estimates and value counts.
pub record NumbersKept (before after : Coordinator) : Type 0 where
  pub estimates_kept : after.estimates ≡ before.estimates
  pub histogram_kept : after.histogram ≡ before.histogram

pub poll_kept : (settings : Settings) (c : Coordinator) (site : ℕ) (m : Message)
    → NumbersKept c (takes_poll_answer settings c site m).coordinator
poll_kept settings c site m = by_site (ltb (site + 1) settings.sites) refl
  where
    by_threshold : (more : Bool)
        → leb 2 (threshold_of settings (c.total + m.a)) ≡ more
        → NumbersKept c (closed settings c (c.total + m.a)).coordinator
    by_threshold true test = record { estimates_kept = rw test; histogram_kept = rw test }
    by_threshold false test = record { estimates_kept = rw test; histogram_kept = rw test }

    by_site : (more : Bool)
        → ltb (site + 1) settings.sites ≡ more
        → NumbersKept c (takes_poll_answer settings c site m).coordinator
    by_site true test = record { estimates_kept = rw test; histogram_kept = rw test }
    by_site false test =
        let last = by_threshold (leb 2 (threshold_of settings (c.total + m.a))) refl in
        record {
          estimates_kept = rw test last.estimates_kept;
          histogram_kept = rw test last.histogram_kept;
        }

narrowed_kept : (c : Coordinator) (low high : ℕ) → NumbersKept c (narrowed c low high).coordinator
narrowed_kept c low high = by_interval (eqb low high) refl
  where
    by_interval : (single : Bool)
        → eqb low high ≡ single
        → NumbersKept c (narrowed c low high).coordinator
    by_interval true test = record { estimates_kept = rw test; histogram_kept = rw test }
    by_interval false test = record { estimates_kept = rw test; histogram_kept = rw test }

halved_kept : (settings : Settings) (c : Coordinator) (low high count : ℕ)
    → NumbersKept c (halved settings c low high count).coordinator
halved_kept settings c low high count = by_count (enough settings.rank c.base count) refl
  where
    by_count : (many : Bool)
        → enough settings.rank c.base count ≡ many
        → NumbersKept c (halved settings c low high count).coordinator
    by_count true test =
        let lower = narrowed_kept c low (middle low high) in
        record {
          estimates_kept = rw test lower.estimates_kept;
          histogram_kept = rw test lower.histogram_kept;
        }
    by_count false test =
        let upper = narrowed_kept c (middle low high + 1) high in
        record {
          estimates_kept = rw test upper.estimates_kept;
          histogram_kept = rw test upper.histogram_kept;
        }

pub probe_kept : (settings : Settings) (c : Coordinator) (site low high total : ℕ) (m : Message)
    → NumbersKept c (takes_probe_answer settings c site low high total m).coordinator
probe_kept settings c site low high total m = by_site (ltb (site + 1) settings.sites) refl
  where
    by_site : (more : Bool)
        → ltb (site + 1) settings.sites ≡ more
        → NumbersKept c (takes_probe_answer settings c site low high total m).coordinator
    by_site true test = record { estimates_kept = rw test; histogram_kept = rw test }
    by_site false test =
        let last = halved_kept settings c low high (total + m.b) in
        record {
          estimates_kept = rw test last.estimates_kept;
          histogram_kept = rw test last.histogram_kept;
        }

-- A memory holds a coordinator whose numbers were kept as it is.
pub memory_of_kept : (settings : Settings) (numbers : CoordinatorRecord) (memory : List ℕ)
    (after : Coordinator)
    → coordinator_words settings ≤ length memory
    → NumbersKept (coordinator_in settings numbers memory) after
    → memory ≡ coordinator_memory after memory
memory_of_kept settings numbers memory after long same =
    rw (same.estimates_kept, same.histogram_kept) (memory_kept settings numbers memory long)
