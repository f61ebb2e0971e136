-- Where a delivery may stand, step by step: the arrival's own messages, a poll or its answer, a
-- probe or its answer, the announcements. Each stage says which messages wait, that they carry
-- what is due, and how many steps are left at most. PROOF.md section 4 (the queue) and section 7.
--
--   Reports      kinds 1 and 2 still wait, or nothing does
--   Polls        kind 3 or its answer 4
--   Probes       kind 5 or its answer 6, with an interval of at most 2 ^ h values
--   Announces    some kinds 7 wait, in order; per site: it has the new threshold or its kind 7 is
--                still to come
--   Stage        one of them
--   StageAfter   a stage after a call on the coordinator
--   HandedOn     the head is accepted, and what follows is a stage again
--   AskedOn      the same for a kind 7 that is asked for
-- Letters: k the sites, j the site that the phase names, i the first site whose kind 7 waits, w how
-- many wait, h halvings.
use Rattle.std.specs.Prelude.{if◌then◌else◌}
use mathlib.Core.Path.{◌≡◌}
use mathlib.Core.Bool.{Bool}
use mathlib.Core.List.{List, [], ◌∷◌, ◌++◌}
use Prim.Native.Nat.{ℕ, ◌+◌, ◌-◌, ◌*◌, ◌^◌, ◌≤◌, ◌<◌}
use lib.Dec.{ltb}
use Rattle.model.specs.declared.Settings.{Settings}
use Rattle.model.specs.declared.Message.{Message}
use Rattle.model.specs.declared.Phase.{Phase}
use Rattle.model.specs.declared.Phase.TheVariants.{Idle, Collecting, Probing, Announcing}
use Rattle.model.specs.Limits.{top_value, site_limit, closing_steps}
use Rattle.model.specs.Messages.{item_report, count_report, poll, poll_answer, probe, probe_answer}
use Rattle.model.specs.Coordinator.{CoordinatorStep, middle}
use Rattle.model.specs.Refusals.{no_refusal}
use Rattle.model.specs.Network.{Network, with_coordinator, hand_over, ask_announcement}
use Rattle.model.specs.DeliveryClaims.{message_refusal}
use Rattle.model.specs.SoundNetwork.{ClosingAt, HalvingAt}
use Rattle.model.proofs.Deliveries.DeliveryMessages.{announcements}
use Rattle.mid_delivery.proofs.Soundness.Together.{Together}

-- ---- The arrival's own messages

-- Kind 1, if it is still due.
abbrev pub item_waiting : Bool → ℕ → ℕ → ℕ → List Message
item_waiting due site item amount = if due then item_report site item amount ∷ [] else []

-- Kind 2, if it is still due.
abbrev pub count_waiting : Bool → ℕ → ℕ → ℕ → List Message
count_waiting due site amount value = if due then count_report site amount value ∷ [] else []

-- The arrival's own messages: those that are due still wait.
pub record Reports (settings : Settings) (network : Network) (waiting : List Message) (left : ℕ)
    : Type 0 where
  pub item_due : Bool
  pub count_due : Bool
  pub site : ℕ
  pub item : ℕ
  pub value : ℕ
  pub waits : waiting
      ≡ item_waiting item_due site item network.coordinator.threshold
      ++ count_waiting count_due site network.coordinator.threshold value
  pub idle : network.coordinator.phase ≡ Idle
  pub few_signals : network.coordinator.signals < settings.sites
  pub site_known : site < settings.sites
  pub item_known : item < settings.universe
  pub value_known : value ≤ top_value
  pub value_none : (network.coordinator.threshold ≡ 1 → ⊥) → value ≡ 0
  pub together : Together settings network settings.sites
      (if count_due then network.coordinator.threshold else 0)
  pub steps_left : (if item_due then 1 else 0) +
      (if count_due then closing_steps settings + 1 else 0)
      ≤ left

-- ---- Polls and probes

-- A poll of site j, or its answer, which is on its way.
pub record Polls (settings : Settings) (network : Network) (waiting : List Message) (left : ℕ)
    : Type 0 where
  pub answered : Bool
  pub j : ℕ
  pub amount : ℕ
  pub waits : waiting ≡ (if answered then poll_answer j amount else poll j) ∷ []
  pub phase_is : network.coordinator.phase ≡ Collecting j
  pub closing : ClosingAt settings network.coordinator.signals j
  pub amount_below : amount < network.coordinator.threshold
  pub together : Together settings network settings.sites (if answered then amount else 0)
  pub steps_left : closing_steps settings ≤ left + (2 * j + (if answered then 1 else 0))

-- A probe of site j, or its answer; no site has the new threshold yet.
pub record Probes (settings : Settings) (network : Network) (waiting : List Message) (left : ℕ)
    : Type 0 where
  pub answered : Bool
  pub j : ℕ
  pub low : ℕ
  pub high : ℕ
  pub sum : ℕ
  pub count : ℕ
  pub h : ℕ
  pub waits : waiting
      ≡ (if answered then probe_answer j (middle low high) count else probe j (middle low high)) ∷
      []
  pub phase_is : network.coordinator.phase ≡ Probing j low high sum
  pub halving : HalvingAt settings network.coordinator.signals j low high
  pub narrow : high < low + 2 ^ h
  pub count_within : count ≤ site_limit
  pub sum_within : sum ≤ j * site_limit
  pub together : Together settings network 0 0
  pub steps_left : 2 * (settings.sites * h) + 2 * settings.sites
      ≤ left + (2 * j + (if answered then 1 else 0))

-- ---- Announcements

-- The coordinator that hands out the announcement for site j next; at rest after the last.
abbrev pub announcing_at : Settings → ℕ → Phase
announcing_at settings j = if ltb j settings.sites then Announcing j else Idle

-- Signals are k until the last announcement is handed out.
abbrev pub signals_at : Settings → ℕ → ℕ
signals_at settings j = if ltb j settings.sites then settings.sites else 0

-- The announcements for sites i to j - 1 wait; the sites below i have the new threshold.
pub record Announces (settings : Settings) (network : Network) (waiting : List Message) (left : ℕ)
    : Type 0 where
  pub i : ℕ
  pub w : ℕ
  pub j : ℕ
  pub waits : waiting
      ≡ announcements network.coordinator.threshold network.coordinator.base i w
  pub reached : i + w ≡ j
  pub within : j ≤ settings.sites
  pub phase_is : network.coordinator.phase ≡ announcing_at settings j
  pub signals_are : network.coordinator.signals ≡ signals_at settings j
  pub together : Together settings network i 0
  pub steps_left : w + 2 * settings.sites ≤ left + 2 * j

-- A delivery is always at one of these.
pub data Stage (settings : Settings) (network : Network) (waiting : List Message) (left : ℕ)
    : Type 0 where
  reporting : Reports settings network waiting left → Stage settings network waiting left
  polling : Polls settings network waiting left → Stage settings network waiting left
  halving : Probes settings network waiting left → Stage settings network waiting left
  announcing : Announces settings network waiting left → Stage settings network waiting left

-- ---- A step

-- The stage when the coordinator is as a call left it, and the call's messages wait last.
abbrev pub StageAfter : Settings → Network → List Message → ℕ → CoordinatorStep → Type 0
StageAfter settings network waiting left after =
    Stage settings (with_coordinator network after.coordinator) (waiting ++ after.messages) left

-- The head of the queue is accepted by whom it is for, and the delivery goes on to another stage.
pub record HandedOn (settings : Settings) (network : Network) (m : Message)
    (waiting : List Message) (left : ℕ) : Type 0 where
  pub some_left : 1 ≤ left
  pub head_accepted : message_refusal settings network m ≡ no_refusal
  pub next : Stage settings (hand_over settings network m).network
      (waiting ++ (hand_over settings network m).messages) (left - 1)

-- The next kind 7 is asked for: it waits last.
pub record AskedOn (settings : Settings) (network : Network) (waiting : List Message) (left : ℕ)
    : Type 0 where
  pub some_left : 1 ≤ left
  pub next : Stage settings (ask_announcement settings network).network
      (waiting ++ (ask_announcement settings network).messages) (left - 1)
