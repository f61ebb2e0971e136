-- An arrival that closes nothing: kinds 1 and 2 wait, and no message is for a site.
--
--   Handed, Received, as_waits       a claim of the delivery once a message is handed over
--   Own, own_step                    kinds 1 and 2 alone, and no close
--   own_way, reached_own             so it stays, whichever steps a caller may take
use mathlib.Core.Path.{◌≡◌, refl, sym, ap, ◌∙◌, subst, subst₂}
use mathlib.Core.Bool.{true, false, false≢true}
use mathlib.Core.List.{List, [], ◌∷◌, ◌++◌}
use Prim.Native.Nat.{ℕ, suc, ◌+◌}
use native.Mathlib.Omega.{arith}
use lib.Dec.{eqb}
use lib.ListN.{length, get_or, drop}
use Rattle.model.specs.declared.Settings.{Settings}
use Rattle.model.specs.declared.Message.{Message}
use Rattle.model.specs.declared.Phase.TheVariants.{Idle}
use Rattle.model.specs.Messages.{no_message, item_report, count_report, to_coordinator}
use Rattle.model.specs.Coordinator.{CoordinatorStep, is_announcing}
use Rattle.model.specs.Network.{Network, with_coordinator, hand_over}
use Rattle.model.specs.DeliveryClaims.{Delivery, delivery}
use Rattle.mid_delivery.specs.SoundClaims.{Reached, begun, handed, asked}
use Rattle.mid_delivery.proofs.Stages.PhaseSteps.{received_item, received_count}

-- ---- Lists

-- The first of a list that is not empty, and the rest of it.
pub first_is : {m n : Message} {ms ns : List Message} → m ∷ ms ≡ n ∷ ns → m ≡ n
first_is same = ap (λ (l : List Message). get_or l 0 no_message) same

pub rest_is : {m n : Message} {ms ns : List Message} → m ∷ ms ≡ n ∷ ns → ms ≡ ns
rest_is same = ap (λ (l : List Message). drop 1 l) same

-- ---- A message handed over

module _ (settings : Settings) (P : Network → List Message → Type 0) (network : Network) where
  -- What is claimed of the delivery then, with those that still wait.
  abbrev pub Handed : List Message → Message → Type 0
  Handed later m =
      P (hand_over settings network m).network
      (later ++ (hand_over settings network m).messages)

  -- The same by the coordinator's step.
  abbrev pub Received : List Message → CoordinatorStep → Type 0
  Received later after =
      P (with_coordinator network after.coordinator) (later ++ after.messages)

  -- Of the messages that wait, as they are known.
  pub as_waits : {m n : Message} {later ns : List Message}
      → m ∷ later ≡ n ∷ ns
      → Handed ns n
      → Handed later m
  as_waits same =
      subst₂ (λ (l : List Message) (head : Message). Handed l head) (sym (rest_is same))
      (sym (first_is same))

-- ---- Where nothing is closed

-- Kind 1, kind 2, both or none wait, and kind 2 closes nothing.
pub data Own (settings : Settings) (network : Network) (waiting : List Message) : Type 0 where
  both_wait : (site item amount count value : ℕ)
      → waiting ≡ item_report site item amount ∷ (count_report site count value ∷ [])
      → network.coordinator.phase ≡ Idle
      → eqb (network.coordinator.signals + 1) settings.sites ≡ false
      → Own settings network waiting
  item_alone : (site item amount : ℕ)
      → waiting ≡ item_report site item amount ∷ []
      → network.coordinator.phase ≡ Idle
      → Own settings network waiting
  count_alone : (site count value : ℕ)
      → waiting ≡ count_report site count value ∷ []
      → network.coordinator.phase ≡ Idle
      → eqb (network.coordinator.signals + 1) settings.sites ≡ false
      → Own settings network waiting
  none_waits : waiting ≡ []
      → network.coordinator.phase ≡ Idle
      → Own settings network waiting

own_step : (settings : Settings) (network : Network) (m : Message) (later : List Message)
    → Own settings network (m ∷ later)
    → Handed settings (Own settings) network later m
own_step settings network m later (both_wait site item amount count value waits idle few) =
    as_waits settings (Own settings) network waits
    (subst (Received settings (Own settings) network (count_report site count value ∷ []))
    (sym (received_item settings network.coordinator site item amount idle))
    (count_alone site count value refl idle few))
own_step settings network m later (item_alone site item amount waits idle) =
    as_waits settings (Own settings) network waits
    (subst (Received settings (Own settings) network [])
    (sym (received_item settings network.coordinator site item amount idle))
    (none_waits refl idle))
own_step settings network m later (count_alone site count value waits idle few) =
    as_waits settings (Own settings) network waits
    (subst (Received settings (Own settings) network [])
    (sym (received_count settings network.coordinator site count value false idle few))
    (none_waits refl refl))
own_step settings network m later (none_waits waits idle) =
    let lengths : suc (length later) ≡ 0 = ap length waits in
    absurd (omega arith)

module _ {settings : Settings} where
  own_silent : {network : Network} {waiting : List Message}
      → Own settings network waiting
      → is_announcing network.coordinator.phase ≡ false
  own_silent (both_wait site item amount count value waits idle few) = ap is_announcing idle
  own_silent (item_alone site item amount waits idle) = ap is_announcing idle
  own_silent (count_alone site count value waits idle few) = ap is_announcing idle
  own_silent (none_waits waits idle) = ap is_announcing idle

  -- What waits is for the coordinator.
  pub own_way : {network : Network} (m : Message) (later : List Message)
      → Own settings network (m ∷ later)
      → to_coordinator m ≡ true
  own_way m later (both_wait site item amount count value waits idle few) =
      ap to_coordinator (first_is waits)
  own_way m later (item_alone site item amount waits idle) = ap to_coordinator (first_is waits)
  own_way m later (count_alone site count value waits idle few) =
      ap to_coordinator (first_is waits)
  own_way m later (none_waits waits idle) =
      let lengths : suc (length later) ≡ 0 = ap length waits in
      absurd (omega arith)

  pub reached_own : {start : Delivery}
      → Own settings start.network start.waiting
      → (n : ℕ) (d : Delivery)
      → Reached settings start n d
      → Own settings d.network d.waiting
  reached_own first n d begun = first
  reached_own first n d (handed m network message waiting log earlier) =
      own_step settings network message waiting
      (reached_own first m (delivery network (message ∷ waiting) log) earlier)
  reached_own first n d (asked m network waiting log earlier announces) =
      let there = reached_own first m (delivery network waiting log) earlier in
      absurd (false≢true (sym (own_silent there) ∙ announces))
