-- The messages that a call's answer hands out, from its count and its places for messages; and the
-- messages of a log, read back. No call hands out more messages than its answer has places.
--
--   one_out, two_out           a count and one place, or two: the list that they hold
--   received_few, answered_few, observed_few, announced_few   how many messages a step hands out
--   messages_in_written        a log's messages are those that were written
use Rattle.std.specs.Prelude.{if◌then◌else◌}
use mathlib.Core.Path.{◌≡◌, refl, ap}
use mathlib.Core.Bool.{Bool, true, false}
use mathlib.Core.List.{List, [], ◌∷◌, ◌++◌}
use Prim.Native.Nat.{ℕ, ◌+◌, ◌≤◌}
use native.Mathlib.Omega.{arith}
use lib.Dec.{eqb, ltb, leb}
use lib.ListN.{length, get_or, take}
use Rattle.model.specs.declared.Settings.{Settings}
use Rattle.model.specs.declared.Arrival.{Arrival}
use Rattle.model.specs.declared.Message.{Message}
use Rattle.model.specs.declared.Phase.{Phase}
use Rattle.model.specs.declared.Phase.TheVariants.{Idle, Collecting, Probing, Announcing}
use Rattle.model.specs.Settings.{threshold_of}
use Rattle.model.specs.Messages.{is_poll, is_probe, is_item_report, item_report, count_report}
use Rattle.model.specs.Site.{Site, SiteStep, reports_item, reports_count, reported_value, observed, site_receives}
use Rattle.model.specs.Coordinator.{Coordinator, CoordinatorStep, closes_round, closed, narrowed, enough, middle, receives_in, coordinator_receives, announced_in, announced}
use Rattle.tracker.specs.Batch.{message_numbers, messages_in}

-- ---- Places of an answer

-- One place for at most one message.
pub one_out : (messages : List Message) (none : Message)
    → length messages ≤ 1
    → take (length messages) (get_or messages 0 none ∷ []) ≡ messages
one_out [] none few = refl
one_out (m ∷ []) none few = refl
one_out (m ∷ (m' ∷ ms)) none few = absurd (omega arith)

-- Two places for at most two.
pub two_out : (messages : List Message) (none : Message)
    → length messages ≤ 2
    → take (length messages) (get_or messages 0 none ∷ (get_or messages 1 none ∷ [])) ≡ messages
two_out [] none few = refl
two_out (m ∷ []) none few = refl
two_out (m ∷ (m' ∷ [])) none few = refl
two_out (m ∷ (m' ∷ (m'' ∷ ms))) none few = absurd (omega arith)

-- ---- A step's messages

-- What holds of both branches holds of the choice.
either : {A : Type 0} (P : A → Type 0) (test : Bool) (x y : A) → P x → P y
    → P (if test then x else y)
either P true x y of-x of-y = of-x
either P false x y of-x of-y = of-y

abbrev Few : List Message → Type 0
Few messages = length messages ≤ 1

module _ (settings : Settings) (c : Coordinator) where
  abbrev FewAfter : CoordinatorStep → Type 0
  FewAfter after = Few after.messages

  closed_few : (total : ℕ) → FewAfter (closed settings c total)
  closed_few total =
      either FewAfter (leb 2 (threshold_of settings total)) _ _ (omega arith) (omega arith)

  narrowed_few : (low high : ℕ) → FewAfter (narrowed c low high)
  narrowed_few low high = either FewAfter (eqb low high) _ _ (omega arith) (omega arith)

  received_in : (phase : Phase) (m : Message) → FewAfter (receives_in settings c phase m)
  received_in Idle m =
      either FewAfter (is_item_report m) _ _ (omega arith)
      (either Few (closes_round settings c) _ _ (omega arith) (omega arith))
  received_in (Collecting site) m =
      either FewAfter (ltb (site + 1) settings.sites) _ _ (omega arith)
      (closed_few (c.total + m.a))
  received_in (Probing site low high sum) m =
      either FewAfter (ltb (site + 1) settings.sites) _ _ (omega arith)
      (either FewAfter (enough settings.rank c.base (sum + m.b)) _ _
      (narrowed_few low (middle low high)) (narrowed_few (middle low high + 1) high))
  received_in (Announcing site) m = omega arith

  -- The coordinator answers a message with at most one.
  pub received_few : (m : Message) → length (coordinator_receives settings c m).messages ≤ 1
  received_few m = received_in c.phase m

  announced_in_lem : (phase : Phase) → FewAfter (announced_in settings c phase)
  announced_in_lem Idle = omega arith
  announced_in_lem (Collecting site) = omega arith
  announced_in_lem (Probing site low high sum) = omega arith
  announced_in_lem (Announcing site) = omega arith

  -- It hands out one announcement at a time.
  pub announced_few : length (announced settings c).messages ≤ 1
  announced_few = announced_in_lem c.phase

-- A site answers a message with at most one.
pub answered_few : (site : Site) (m : Message) → length (site_receives site m).messages ≤ 1
answered_few site m =
    either (λ (after : SiteStep). Few after.messages) (is_poll m) _ _ (omega arith)
    (either (λ (after : SiteStep). Few after.messages) (is_probe m) _ _ (omega arith)
    (omega arith))

-- An arrival sends at most kinds 1 and 2.
pub observed_few : (settings : Settings) (site : Site) (arrival : Arrival)
    → length (observed settings site arrival).messages ≤ 2
observed_few settings site arrival =
    by_reports (reports_item settings site arrival) (reports_count site)
    (item_report arrival.site arrival.item site.threshold)
    (count_report arrival.site site.threshold (reported_value site arrival))
  where
    by_reports : (item_due count_due : Bool) (x y : Message)
        → length ((if item_due then x ∷ [] else []) ++ (if count_due then y ∷ [] else [])) ≤ 2
    by_reports true true x y = omega arith
    by_reports true false x y = omega arith
    by_reports false true x y = omega arith
    by_reports false false x y = omega arith

-- ---- A log

-- The first records of a log are the messages that were written over its front.
pub messages_in_written : (messages : List Message) (rest : List ℕ)
    → messages_in (length messages) (message_numbers messages ++ rest) ≡ messages
messages_in_written [] rest = refl
messages_in_written (m ∷ messages) rest =
    ap (λ (later : List Message). m ∷ later) (messages_in_written messages rest)
