-- A hand-over is answered by one message at most. So is the wish for the next kind 7, which leaves
-- the coordinator's memory as it was.
--
--   receives_one, site_one, announced_one   the answer, by whom it comes from
--   answers_one                             of any hand-over
--   Remembers, announced_remembers          estimates and value counts stay
use mathlib.Core.Path.{◌≡◌, refl}
use mathlib.Core.List.{List, [], ◌∷◌}
use Prim.Native.Nat.{ℕ, ◌+◌, ◌≤◌}
use native.Mathlib.Omega.{arith}
use lib.Dec.{eqb, ltb, leb}
use lib.ListN.{length}
use Rattle.model.specs.declared.Settings.{Settings}
use Rattle.model.specs.declared.Message.{Message}
use Rattle.model.specs.declared.Phase.{Phase}
use Rattle.model.specs.declared.Phase.TheVariants.{Idle, Collecting, Probing, Announcing}
use Rattle.model.specs.Settings.{threshold_of}
use Rattle.model.specs.Messages.{is_item_report, is_poll, is_probe, to_coordinator, poll}
use Rattle.model.specs.Site.{Site, SiteStep, site_receives}
use Rattle.model.specs.Coordinator.{Coordinator, CoordinatorStep, with_phase, at_rest, closes_round, closed, enough, middle, narrowed, halved, receives_in, coordinator_receives, announced_in, announced}
use Rattle.model.specs.Network.{Network, Delivered, site_at, hand_over, hand_to_coordinator, hand_to_site}
use Rattle.model.proofs.Soundness.NeverFalls.{either}

none_of_one : 0 ≤ 1
none_of_one = omega arith

one_of_one : 1 ≤ 1
one_of_one = omega arith

-- ---- The coordinator

module _ (settings : Settings) (c : Coordinator) where
  abbrev OneAfter : CoordinatorStep → Type 0
  OneAfter after = length after.messages ≤ 1

  closed_one : (total : ℕ) → OneAfter (closed settings c total)
  closed_one total =
      either OneAfter (leb 2 (threshold_of settings total)) _ _ one_of_one none_of_one

  narrowed_one : (low high : ℕ) → OneAfter (narrowed c low high)
  narrowed_one low high = either OneAfter (eqb low high) _ _ none_of_one one_of_one

  halved_one : (low high count : ℕ) → OneAfter (halved settings c low high count)
  halved_one low high count =
      either OneAfter (enough settings.rank c.base count) _ _
      (narrowed_one low (middle low high)) (narrowed_one (middle low high + 1) high)

  received_in : (phase : Phase) (m : Message) → OneAfter (receives_in settings c phase m)
  received_in Idle m =
      either OneAfter (is_item_report m) _ _ none_of_one
      (either (λ (messages : List Message). length messages ≤ 1) (closes_round settings c)
      (poll 0 ∷ []) [] one_of_one none_of_one)
  received_in (Collecting site) m =
      either OneAfter (ltb (site + 1) settings.sites) _ _ one_of_one
      (closed_one (c.total + m.a))
  received_in (Probing site low high sum) m =
      either OneAfter (ltb (site + 1) settings.sites) _ _ one_of_one
      (halved_one low high (sum + m.b))
  received_in (Announcing site) m = none_of_one

  pub receives_one : (m : Message) → OneAfter (coordinator_receives settings c m)
  receives_one m = received_in c.phase m

  asked_in : (phase : Phase) → OneAfter (announced_in settings c phase)
  asked_in Idle = none_of_one
  asked_in (Collecting site) = none_of_one
  asked_in (Probing site low high sum) = none_of_one
  asked_in (Announcing site) = one_of_one

  pub announced_one : OneAfter (announced settings c)
  announced_one = asked_in c.phase

-- A coordinator with the same memory.
pub record Remembers (before after : Coordinator) : Type 0 where
  pub estimates : after.estimates ≡ before.estimates
  pub histogram : after.histogram ≡ before.histogram

remembers : {c c' : Coordinator}
    → c'.estimates ≡ c.estimates
    → c'.histogram ≡ c.histogram
    → Remembers c c'
remembers estimates histogram = record { estimates = estimates; histogram = histogram }

pub announced_remembers : (settings : Settings) (c : Coordinator)
    → Remembers c (announced settings c).coordinator
announced_remembers settings c = by_phase c.phase
  where
    by_phase : (phase : Phase) → Remembers c (announced_in settings c phase).coordinator
    by_phase Idle = remembers refl refl
    by_phase (Collecting site) = remembers refl refl
    by_phase (Probing site low high sum) = remembers refl refl
    by_phase (Announcing site) =
        either (Remembers c) (ltb (site + 1) settings.sites)
        (with_phase c (Announcing (site + 1))) (at_rest c)
        (remembers refl refl) (remembers refl refl)

-- ---- A site, and any hand-over

pub site_one : (site : Site) (m : Message) → length (site_receives site m).messages ≤ 1
site_one site m =
    either (λ (after : SiteStep). length after.messages ≤ 1) (is_poll m) _ _ one_of_one
    (either (λ (after : SiteStep). length after.messages ≤ 1) (is_probe m) _ _ one_of_one
    none_of_one)

pub answers_one : (settings : Settings) (network : Network) (m : Message)
    → length (hand_over settings network m).messages ≤ 1
answers_one settings network m =
    either (λ (after : Delivered). length after.messages ≤ 1) (to_coordinator m)
    (hand_to_coordinator settings network m) (hand_to_site network m)
    (receives_one settings network.coordinator m) (site_one (site_at network m.site) m)
