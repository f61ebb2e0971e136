-- What the coordinator does in each phase with the message that is due there, as equations: the
-- branch that it takes, by the site's place and by the tests on the way.
--
--   received_item, received_count            kinds 1 and 2, while idle
--   poll_answer_next, -last-one, -last-more  kind 4, while collecting
--   probe_answer_next, probe_answer_last     kind 6, while probing
--   announced_next                           kind 7 asked for, while announcing
use Rattle.std.specs.Prelude.{if◌then◌else◌}
use mathlib.Core.Path.{◌≡◌, ◌∙◌}
use mathlib.Core.Bool.{Bool, true, false}
use mathlib.Core.List.{[], ◌∷◌}
use Prim.Native.Nat.{ℕ, ◌+◌, ◌≤◌, ◌<◌}
use lib.Dec.{eqb, ltb}
use borrow.Author.Tests.{lt-ltb, le-ltb, le-leb, lt-leb}
use Rattle.model.specs.declared.Settings.{Settings}
use Rattle.model.specs.declared.Phase.TheVariants.{Idle, Collecting, Probing, Announcing}
use Rattle.model.specs.Limits.{top_value}
use Rattle.model.specs.Settings.{threshold_of}
use Rattle.model.specs.Messages.{item_report, count_report, poll, poll_answer, probe, probe_answer, announcement}
use Rattle.model.specs.Coordinator.{Coordinator, step, with_phase, with_total, with_base, at_rest, takes_item_report, takes_poll_answer, middle, enough, narrowed, takes_probe_answer, coordinator_receives, announced}
use Rattle.model.proofs.Deliveries.ArrivalParts.{with_count_report}

-- ---- Idle

-- Kind 1 is taken.
pub received_item : (settings : Settings) (c : Coordinator) (j item amount : ℕ)
    → c.phase ≡ Idle
    → coordinator_receives settings c (item_report j item amount)
    ≡ takes_item_report c (item_report j item amount)
received_item settings c j item amount idle = rw idle

-- Kind 2 is taken; the k-th begins a close.
pub received_count : (settings : Settings) (c : Coordinator) (j amount value : ℕ) (closes : Bool)
    → c.phase ≡ Idle
    → eqb (c.signals + 1) settings.sites ≡ closes
    → coordinator_receives settings c (count_report j amount value)
    ≡ step (with_count_report c amount value (if closes then Collecting 0 else Idle))
    (if closes then poll 0 ∷ [] else [])
received_count settings c j amount value closes idle is = rw (idle, is)

-- ---- Collecting

poll_answer_received : (settings : Settings) (c : Coordinator) (j amount : ℕ)
    → c.phase ≡ Collecting j
    → coordinator_receives settings c (poll_answer j amount)
    ≡ takes_poll_answer settings c j (poll_answer j amount)
poll_answer_received settings c j amount phase_is = rw phase_is

-- Another site is polled.
pub poll_answer_next : (settings : Settings) (c : Coordinator) (j amount : ℕ)
    → c.phase ≡ Collecting j
    → j + 1 < settings.sites
    → coordinator_receives settings c (poll_answer j amount)
    ≡ step (with_total c (c.total + amount) (Collecting (j + 1))) (poll (j + 1) ∷ [])
poll_answer_next settings c j amount phase_is more =
    poll_answer_received settings c j amount phase_is
    ∙ rw (lt-ltb (j + 1) settings.sites more)

-- The last answer closes the round, with a new threshold of 1.
pub poll_answer_last_one : (settings : Settings) (c : Coordinator) (j amount : ℕ)
    → c.phase ≡ Collecting j
    → settings.sites ≤ j + 1
    → threshold_of settings (c.total + amount) < 2
    → coordinator_receives settings c (poll_answer j amount)
    ≡ step (with_base c (c.total + amount) (threshold_of settings (c.total + amount))
    (Announcing 0)) []
poll_answer_last_one settings c j amount phase_is last one =
    poll_answer_received settings c j amount phase_is
    ∙ rw (
      le-ltb (j + 1) settings.sites last,
      lt-leb 2 (threshold_of settings (c.total + amount)) one,
    )

-- Or with a new threshold of 2 or more.
pub poll_answer_last_more : (settings : Settings) (c : Coordinator) (j amount : ℕ)
    → c.phase ≡ Collecting j
    → settings.sites ≤ j + 1
    → 2 ≤ threshold_of settings (c.total + amount)
    → coordinator_receives settings c (poll_answer j amount)
    ≡ step (with_base c (c.total + amount) (threshold_of settings (c.total + amount))
    (Probing 0 0 top_value 0)) (probe 0 (middle 0 top_value) ∷ [])
poll_answer_last_more settings c j amount phase_is last more =
    poll_answer_received settings c j amount phase_is
    ∙ rw (
      le-ltb (j + 1) settings.sites last,
      le-leb 2 (threshold_of settings (c.total + amount)) more,
    )

-- ---- Probing

module _ (settings : Settings) (c : Coordinator) (j low high sum count : ℕ)
    (phase_is : c.phase ≡ Probing j low high sum) where
  probe_answer_received : coordinator_receives settings c (probe_answer j (middle low high) count)
      ≡ takes_probe_answer settings c j low high sum (probe_answer j (middle low high) count)
  probe_answer_received = rw phase_is

  -- Another site is probed.
  pub probe_answer_next : j + 1 < settings.sites
      → coordinator_receives settings c (probe_answer j (middle low high) count)
      ≡ step (with_phase c (Probing (j + 1) low high (sum + count)))
      (probe (j + 1) (middle low high) ∷ [])
  probe_answer_next more = probe_answer_received ∙ rw (lt-ltb (j + 1) settings.sites more)

  -- The last answer narrows the interval.
  pub probe_answer_last : (lower : Bool)
      → settings.sites ≤ j + 1
      → enough settings.rank c.base (sum + count) ≡ lower
      → coordinator_receives settings c (probe_answer j (middle low high) count)
      ≡ elim lower [
        | true ↦ narrowed c low (middle low high)
        | false ↦ narrowed c (middle low high + 1) high
      ]
  probe_answer_last true last holds =
      probe_answer_received ∙ rw (le-ltb (j + 1) settings.sites last, holds)
  probe_answer_last false last fails =
      probe_answer_received ∙ rw (le-ltb (j + 1) settings.sites last, fails)

-- ---- Announcing

-- What it hands out; after the last it is at rest.
pub announced_next : (settings : Settings) (c : Coordinator) (j : ℕ) (more : Bool)
    → c.phase ≡ Announcing j
    → ltb (j + 1) settings.sites ≡ more
    → announced settings c
    ≡ step (elim more [ true ↦ with_phase c (Announcing (j + 1)) | false ↦ at_rest c ])
    (announcement j c.threshold c.base ∷ [])
announced_next settings c j true phase_is goes_on = rw (phase_is, goes_on)
announced_next settings c j false phase_is last = rw (phase_is, last)
