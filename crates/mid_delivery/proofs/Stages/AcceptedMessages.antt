-- Messages that are due and carry the right amount are accepted: refusals 9, 6, 7 and 10 row by
-- row, one law for each kind; before them 5, one law for each receiver. PROOF.md section 8.
--
--   site_due_suffices, coordinator_due_suffices  a message of a known site
--   item_report_accepted, count_report_accepted  kinds 1 and 2 at an idle coordinator
--   poll_answer_accepted, probe_answer_accepted  kinds 4 and 6 from the site that the phase names
--   poll_accepted, probe_accepted, announcement_accepted   kinds 3, 5 and 7 at their site
use mathlib.Core.Path.{◌≡◌, refl, sym}
use Prim.Native.Nat.{ℕ, ◌≤◌, ◌<◌}
use native.Mathlib.Decide.{ℕ_discrete}
use borrow.Author.Tests.{le-ltb, lt-leb, eq-eqb, ne_eqb}
use Rattle.model.specs.declared.Settings.{Settings}
use Rattle.model.specs.declared.Message.{Message}
use Rattle.model.specs.declared.Phase.TheVariants.{Idle, Collecting, Probing}
use Rattle.model.specs.Refusals.{no_refusal}
use Rattle.model.specs.Limits.{top_value, site_limit}
use Rattle.model.specs.Messages.{item_report, count_report, poll, poll_answer, probe, probe_answer, announcement}
use Rattle.model.specs.Site.{Site, site_due_refusal, site_message_refusal}
use Rattle.model.specs.Coordinator.{Coordinator, middle, coordinator_due_refusal, coordinator_refusal}
use Rattle.model.proofs.Thresholds.RefusalLaws.{begin, pass, end}

-- ---- At a site

pub site_due_suffices : (settings : Settings) (site : Site) (which : ℕ) (m : Message)
    → m.site < settings.sites
    → site_due_refusal site which m ≡ no_refusal
    → site_message_refusal settings site which m ≡ no_refusal
site_due_suffices settings site which m known due =
    sym (end (pass _ _ _ (begin _) refl (lt-leb _ _ known)) (sym due))

module _ (settings : Settings) (site : Site) (j : ℕ) (known : j < settings.sites) where
  -- Kind 3 has nothing but its site.
  pub poll_accepted : site_message_refusal settings site j (poll j) ≡ no_refusal
  poll_accepted = site_due_suffices settings site j (poll j) known (rw (eq-eqb j j refl))

  -- Kind 5 with a value up to 1023.
  pub probe_accepted : (value : ℕ)
      → value ≤ top_value
      → site_message_refusal settings site j (probe j value) ≡ no_refusal
  probe_accepted value within =
      site_due_suffices settings site j (probe j value) known
      (rw (eq-eqb j j refl, le-ltb top_value value within))

  -- Kind 7 with a threshold that is no smaller, up to the site's limit.
  pub announcement_accepted : (threshold base : ℕ)
      → site.threshold ≤ threshold
      → threshold ≤ site_limit
      → site_message_refusal settings site j (announcement j threshold base) ≡ no_refusal
  announcement_accepted threshold base rises within =
      site_due_suffices settings site j (announcement j threshold base) known
      (rw (
        eq-eqb j j refl,
        le-ltb threshold site.threshold rises,
        le-ltb site_limit threshold within,
      ))

-- ---- At the coordinator

pub coordinator_due_suffices : (settings : Settings) (c : Coordinator) (m : Message)
    → m.site < settings.sites
    → coordinator_due_refusal settings c m ≡ no_refusal
    → coordinator_refusal settings c m ≡ no_refusal
coordinator_due_suffices settings c m known due =
    sym (end (pass _ _ _ (begin _) refl (lt-leb _ _ known)) (sym due))

module _ (settings : Settings) (c : Coordinator) (j : ℕ) (known : j < settings.sites) where
  -- Kind 1 with the coordinator's own threshold.
  pub item_report_accepted : (item : ℕ)
      → c.phase ≡ Idle
      → item < settings.universe
      → coordinator_refusal settings c (item_report j item c.threshold) ≡ no_refusal
  item_report_accepted item idle item_known =
      coordinator_due_suffices settings c (item_report j item c.threshold) known
      (rw (
        idle,
        lt-leb settings.universe item item_known,
        eq-eqb c.threshold c.threshold refl,
      ))

  -- Kind 2 with it, and a value at threshold 1 alone.
  pub count_report_accepted : (value : ℕ)
      → c.phase ≡ Idle
      → value ≤ top_value
      → ((c.threshold ≡ 1 → ⊥) → value ≡ 0)
      → coordinator_refusal settings c (count_report j c.threshold value) ≡ no_refusal
  count_report_accepted value idle within none =
      coordinator_due_suffices settings c (count_report j c.threshold value) known
      (by_threshold (ℕ_discrete c.threshold 1))
    where
      by_threshold : Dec (c.threshold ≡ 1)
          → coordinator_due_refusal settings c (count_report j c.threshold value) ≡ no_refusal
      by_threshold (yes one) =
          rw (
            idle,
            eq-eqb c.threshold c.threshold refl,
            eq-eqb c.threshold 1 one,
            le-ltb top_value value within,
          )
      by_threshold (no more) =
          rw (
            idle,
            eq-eqb c.threshold c.threshold refl,
            ne_eqb c.threshold 1 more,
            eq-eqb value 0 (none more),
          )

  -- Kind 4 from the site that is polled, below the threshold.
  pub poll_answer_accepted : (amount : ℕ)
      → c.phase ≡ Collecting j
      → amount < c.threshold
      → coordinator_refusal settings c (poll_answer j amount) ≡ no_refusal
  poll_answer_accepted amount phase_is below =
      coordinator_due_suffices settings c (poll_answer j amount) known
      (rw (phase_is, eq-eqb j j refl, lt-leb c.threshold amount below))

  -- Kind 6 from the site that is probed, for the value that was asked.
  pub probe_answer_accepted : (low high sum count : ℕ)
      → c.phase ≡ Probing j low high sum
      → middle low high ≤ top_value
      → count ≤ site_limit
      → coordinator_refusal settings c (probe_answer j (middle low high) count) ≡ no_refusal
  probe_answer_accepted low high sum count phase_is within few =
      coordinator_due_suffices settings c (probe_answer j (middle low high) count) known
      (rw (
        phase_is,
        eq-eqb j j refl,
        le-ltb top_value (middle low high) within,
        eq-eqb (middle low high) (middle low high) refl,
        le-ltb site_limit count few,
      ))
