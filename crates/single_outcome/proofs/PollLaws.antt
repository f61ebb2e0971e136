-- The way of the model's delivery to the poll of a site, where the arrival closes the round: step
-- by step, whichever steps a caller may take.
--
--   Coming settings s left network waiting   the poll of site s is so many steps away
--   coming_step                      one step nearer
--   coming_poll                      there, it is the poll that waits
--   coming_some, coming_silent, coming_others   what waits until then
--   Nearer, reached_coming           after n steps the delivery is the model's, and n steps nearer
-- Letters: s the site, j the site that is polled, r the polls between them.
use mathlib.Core.Path.{◌≡◌, refl, sym, ap, ◌∙◌, subst}
use mathlib.Core.Bool.{true, false, false≢true}
use mathlib.Core.List.{List, [], ◌∷◌}
use Prim.Native.Nat.{ℕ, zero, suc, ◌+◌, ◌*◌, ◌<◌}
use native.Mathlib.Omega.{arith}
use lib.Dec.{eqb}
use lib.ListN.{length}
use Rattle.model.specs.declared.Settings.{Settings}
use Rattle.model.specs.declared.Message.{Message}
use Rattle.model.specs.declared.Phase.TheVariants.{Idle, Collecting}
use Rattle.model.specs.Messages.{item_report, count_report, poll, poll_answer, to_coordinator}
use Rattle.model.specs.Coordinator.{is_announcing}
use Rattle.model.specs.Network.{Network}
use Rattle.model.specs.DeliveryClaims.{Delivery, delivery, delivery_step, delivery_steps}
use Rattle.mid_delivery.specs.SoundClaims.{Reached, begun, handed, asked}
use Rattle.mid_delivery.proofs.Stages.PhaseSteps.{received_item, received_count, poll_answer_next}
use Rattle.single_outcome.proofs.OwnMessages.{first_is, Handed, Received, as_waits}

-- ---- On the way to a poll

-- The poll of site s is so many steps away: kinds 1 and 2 still wait, of which the second closes
-- the round; or a poll or an answer of a site before it; or it is the poll that waits.
pub data Coming (settings : Settings) (s left : ℕ) (network : Network) (waiting : List Message)
    : Type 0 where
  item_waits : (site item amount count value : ℕ)
      → waiting ≡ item_report site item amount ∷ (count_report site count value ∷ [])
      → network.coordinator.phase ≡ Idle
      → eqb (network.coordinator.signals + 1) settings.sites ≡ true
      → left ≡ 2 + 2 * s
      → Coming settings s left network waiting
  count_waits : (site count value : ℕ)
      → waiting ≡ count_report site count value ∷ []
      → network.coordinator.phase ≡ Idle
      → eqb (network.coordinator.signals + 1) settings.sites ≡ true
      → left ≡ 1 + 2 * s
      → Coming settings s left network waiting
  poll_waits : (j r : ℕ)
      → waiting ≡ poll j ∷ []
      → network.coordinator.phase ≡ Collecting j
      → j + r ≡ s
      → left ≡ 2 * r
      → Coming settings s left network waiting
  answer_waits : (j r amount : ℕ)
      → waiting ≡ poll_answer j amount ∷ []
      → network.coordinator.phase ≡ Collecting j
      → j + suc r ≡ s
      → left ≡ 1 + 2 * r
      → Coming settings s left network waiting

module _ (settings : Settings) (s left : ℕ) (network : Network) where
  poll_handed : (j r : ℕ)
      → network.coordinator.phase ≡ Collecting j
      → j + r ≡ s
      → suc left ≡ 2 * r
      → Handed settings (Coming settings s left) network [] (poll j)
  poll_handed j zero phase_is before far = absurd (omega arith)
  poll_handed j (suc r) phase_is before far =
      answer_waits j r _ refl phase_is before (omega arith)

  pub coming_step : s < settings.sites
      → (m : Message) (later : List Message)
      → Coming settings s (suc left) network (m ∷ later)
      → Handed settings (Coming settings s left) network later m
  coming_step known m later (item_waits site item amount count value waits idle closes far) =
      as_waits settings (Coming settings s left) network waits
      (subst
      (Received settings (Coming settings s left) network (count_report site count value ∷ []))
      (sym (received_item settings network.coordinator site item amount idle))
      (count_waits site count value refl idle closes (omega arith)))
  coming_step known m later (count_waits site count value waits idle closes far) =
      as_waits settings (Coming settings s left) network waits
      (subst (Received settings (Coming settings s left) network [])
      (sym (received_count settings network.coordinator site count value true idle closes))
      (poll_waits 0 s refl refl (omega arith) (omega arith)))
  coming_step known m later (poll_waits j r waits phase_is before far) =
      as_waits settings (Coming settings s left) network waits
      (poll_handed j r phase_is before far)
  coming_step known m later (answer_waits j r amount waits phase_is before far) =
      as_waits settings (Coming settings s left) network waits
      (subst (Received settings (Coming settings s left) network [])
      (sym (poll_answer_next settings network.coordinator j amount phase_is (omega arith)))
      (poll_waits (j + 1) r refl refl (omega arith) (omega arith)))

module _ {settings : Settings} {s : ℕ} where
  -- No step away: it waits.
  pub coming_poll : {network : Network} {waiting : List Message}
      → Coming settings s 0 network waiting
      → waiting ≡ poll s ∷ []
  coming_poll (item_waits site item amount count value waits idle closes far) =
      absurd (omega (arith, far))
  coming_poll (count_waits site count value waits idle closes far) = absurd (omega (arith, far))
  coming_poll (poll_waits j r waits phase_is before far) =
      let here : j ≡ s = omega (arith, before, far) in
      waits ∙ ap (λ (i : ℕ). poll i ∷ []) here
  coming_poll (answer_waits j r amount waits phase_is before far) = absurd (omega (arith, far))

  -- Something waits.
  pub coming_some : {left : ℕ} {network : Network} {waiting : List Message}
      → Coming settings s left network waiting
      → length waiting ≡ 0 → ⊥
  coming_some (item_waits site item amount count value waits idle closes far) none =
      omega (arith, none, ap length waits)
  coming_some (count_waits site count value waits idle closes far) none =
      omega (arith, none, ap length waits)
  coming_some (poll_waits j r waits phase_is before far) none =
      omega (arith, none, ap length waits)
  coming_some (answer_waits j r amount waits phase_is before far) none =
      omega (arith, none, ap length waits)

  -- Nothing is announced.
  pub coming_silent : {left : ℕ} {network : Network} {waiting : List Message}
      → Coming settings s left network waiting
      → is_announcing network.coordinator.phase ≡ false
  coming_silent (item_waits site item amount count value waits idle closes far) =
      ap is_announcing idle
  coming_silent (count_waits site count value waits idle closes far) = ap is_announcing idle
  coming_silent (poll_waits j r waits phase_is before far) = ap is_announcing phase_is
  coming_silent (answer_waits j r amount waits phase_is before far) = ap is_announcing phase_is

  -- What waits before it is not for site s.
  pub coming_others : {left : ℕ} {network : Network} (m : Message) (later : List Message)
      → Coming settings s (suc left) network (m ∷ later)
      → to_coordinator m ≡ false
      → m.site ≡ s → ⊥
  coming_others m later (item_waits site item amount count value waits idle closes far) way same =
      false≢true (sym way ∙ ap to_coordinator (first_is waits))
  coming_others m later (count_waits site count value waits idle closes far) way same =
      false≢true (sym way ∙ ap to_coordinator (first_is waits))
  coming_others m later (poll_waits j r waits phase_is before far) way same =
      let here : m.site ≡ j = ap (λ (x : Message). x.site) (first_is waits) in
      omega (arith, here, same, before, far)
  coming_others m later (answer_waits j r amount waits phase_is before far) way same =
      false≢true (sym way ∙ ap to_coordinator (first_is waits))

-- ---- So many steps

steps_then : (n : ℕ) (settings : Settings) (d : Delivery)
    → delivery_steps (suc n) settings d ≡ delivery_step settings (delivery_steps n settings d)
steps_then zero settings d = refl
steps_then (suc n) settings d = steps_then n settings (delivery_step settings d)

-- The model's delivery after n steps, which is n steps nearer to the poll.
pub record Nearer (settings : Settings) (s left : ℕ) (start : Delivery) (n : ℕ) (d : Delivery)
    : Type 0 where
  pub same : d ≡ delivery_steps n settings start
  pub coming : Coming settings s left d.network d.waiting

-- Until then nothing can be asked for: every order of steps is the model's.
pub reached_coming : {settings : Settings} {s far : ℕ} {start : Delivery}
    → s < settings.sites
    → Coming settings s far start.network start.waiting
    → (n : ℕ) (d : Delivery)
    → Reached settings start n d
    → (left : ℕ) → n + left ≡ far
    → Nearer settings s left start n d
reached_coming {settings} {s} {far} {start} known first n d begun left in_all =
    record {
      same = refl;
      coming =
          subst (λ (l : ℕ). Coming settings s l start.network start.waiting)
          (omega (arith, in_all)) first;
    }
reached_coming {settings} known first n d (handed m network message waiting log earlier) left
    in_all =
    let there = reached_coming known first m (delivery network (message ∷ waiting) log) earlier
    (suc left) (omega (arith, in_all)) in
    record {
      same = ap (delivery_step settings) there.same ∙ sym (steps_then m settings _);
      coming = coming_step settings _ left network known message waiting there.coming;
    }
reached_coming known first n d (asked m network waiting log earlier announces) left in_all =
    let there = reached_coming known first m (delivery network waiting log) earlier (suc left)
    (omega (arith, in_all)) in
    absurd (false≢true (sym (coming_silent there.coming) ∙ announces))
