-- Delivery step by step and as a whole. `Delivers` says where a delivery ends and which messages
-- are handed over on the way, for all numbers of steps that are enough; it is built backwards from
-- the end, one law for each step. PROOF.md section 4.
--
--   delivered_is_steps   the model's `delivered` is that many steps, and forgets what waits
--   Delivers             from this network with these messages waiting, n steps hand over `sent`,
--                        in order, and end at rest with nothing waiting at the network `final`
--   rests, asks, hands   the end; a kind 7 that is asked for; the head of the queue
--   delivered_of         what `Delivers` says of `delivered`
use mathlib.Core.Path.{◌≡◌, refl, sym, ap, ◌∙◌}
use mathlib.Core.Bool.{Bool, true, false}
use mathlib.Core.List.{List, [], ◌∷◌, ◌++◌, append_assoc, append-nil}
use Prim.Native.Nat.{ℕ, zero, suc, ◌≤◌}
use native.Mathlib.Omega.{arith}
use Rattle.model.specs.declared.Settings.{Settings}
use Rattle.model.specs.declared.Message.{Message}
use Rattle.model.specs.Coordinator.{is_announcing}
use Rattle.model.specs.Network.{Network, delivered, hand_over, ask_announcement}
use Rattle.model.specs.DeliveryClaims.{delivery, joining, delivery_steps, outcome}

-- ---- The model's delivery as steps

-- A delivery at rest stays as it is.
pub steps_at_rest : (fuel : ℕ) (settings : Settings) (network : Network) (log : List Message)
    → is_announcing network.coordinator.phase ≡ false
    → delivery_steps fuel settings (delivery network [] log) ≡ delivery network [] log
steps_at_rest zero settings network log silent = refl
steps_at_rest (suc fuel) settings network log silent =
    rw silent (steps_at_rest fuel settings network log silent)

-- A coordinator that announces is asked for its next kind 7.
pub steps_asked : (fuel : ℕ) (settings : Settings) (network : Network) (log : List Message)
    → is_announcing network.coordinator.phase ≡ true
    → delivery_steps (suc fuel) settings (delivery network [] log)
    ≡ delivery_steps fuel settings (joining (ask_announcement settings network) [] log)
steps_asked fuel settings network log announcing = rw announcing

-- The model's delivery takes the same steps, and stops early where nothing is left to do.
pub delivered_is_steps : (fuel : ℕ) (settings : Settings) (network : Network)
    (waiting log : List Message)
    → delivered fuel settings network waiting log
    ≡ outcome (delivery_steps fuel settings (delivery network waiting log))
delivered_is_steps zero settings network waiting log = refl
delivered_is_steps (suc fuel) settings network [] log =
    by_phase (is_announcing network.coordinator.phase) refl
    (delivered_is_steps fuel settings)
  where
    by_phase : (announcing : Bool)
        → is_announcing network.coordinator.phase ≡ announcing
        → ((network : Network) (waiting log : List Message)
        → delivered fuel settings network waiting log
        ≡ outcome (delivery_steps fuel settings (delivery network waiting log)))
        → delivered (suc fuel) settings network [] log
        ≡ outcome (delivery_steps (suc fuel) settings (delivery network [] log))
    by_phase true announcing later =
        rw (announcing, delivered)
        (later _ _ _ ∙ ap outcome (sym (steps_asked fuel settings network log announcing)))
    by_phase false silent later =
        rw (silent, delivered)
        (ap outcome (sym (steps_at_rest (suc fuel) settings network log silent)))
delivered_is_steps (suc fuel) settings network (m ∷ waiting) log =
    delivered_is_steps fuel settings _ _ _

-- ---- Whole deliveries

-- Where a delivery ends: `sent` is what waits, and all that goes out later, in order.
pub record Delivers (settings : Settings) (final : Network) (n : ℕ) (sent : List Message)
    (network : Network) (waiting : List Message) : Type 0 where
  pub ends : (fuel : ℕ) (log : List Message)
      → n ≤ fuel
      → delivery_steps fuel settings (delivery network waiting (log ++ waiting))
      ≡ delivery final [] (log ++ sent)

module _ {settings : Settings} {final : Network} where
  -- More steps than needed are as good.
  pub more_steps : {n n' : ℕ} {sent : List Message} {network : Network} {waiting : List Message}
      → n ≤ n'
      → Delivers settings final n sent network waiting
      → Delivers settings final n' sent network waiting
  more_steps fewer there = record { ends = λ fuel log enough. there.ends fuel log (omega arith) }

  -- The next announcement is asked for while nothing waits.
  pub asks : (n : ℕ) (sent : List Message) (network : Network)
      → is_announcing network.coordinator.phase ≡ true
      → Delivers settings final n sent (ask_announcement settings network).network
      (ask_announcement settings network).messages
      → Delivers settings final (suc n) sent network []
  asks n sent network announcing later = record { ends = ends }
    where
      ends : (fuel : ℕ) (log : List Message) → suc n ≤ fuel
          → delivery_steps fuel settings (delivery network [] (log ++ []))
          ≡ delivery final [] (log ++ sent)
      ends zero log enough = absurd (omega arith)
      ends (suc fuel) log enough =
          rw (announcing, append-nil) (later.ends fuel log (omega arith))

  -- The head of the queue is handed over: it is the first of what is handed over from here on.
  pub hands : (n : ℕ) (sent : List Message) (network : Network) (m : Message)
      (waiting : List Message)
      → Delivers settings final n sent (hand_over settings network m).network
      (waiting ++ (hand_over settings network m).messages)
      → Delivers settings final (suc n) (m ∷ sent) network (m ∷ waiting)
  hands n sent network m waiting later = record { ends = ends }
    where
      ends : (fuel : ℕ) (log : List Message) → suc n ≤ fuel
          → delivery_steps fuel settings (delivery network (m ∷ waiting) (log ++ (m ∷ waiting)))
          ≡ delivery final [] (log ++ (m ∷ sent))
      ends zero log enough = absurd (omega arith)
      ends (suc fuel) log enough =
          simp append_assoc
          (simp append_assoc at (later.ends fuel (log ++ (m ∷ [])) (omega arith)))

-- A network at rest: nothing waits, and no kind 7 is to be asked for.
pub rests : (settings : Settings) (network : Network)
    → is_announcing network.coordinator.phase ≡ false
    → Delivers settings network 0 [] network []
rests settings network silent = record {
  ends = λ fuel log enough. steps_at_rest fuel settings network (log ++ []) silent;
}

-- The model's delivery, given as many steps or more.
pub delivered_of : {settings : Settings} {final network : Network} {n : ℕ}
    {sent waiting : List Message} (fuel : ℕ)
    → n ≤ fuel
    → Delivers settings final n sent network waiting
    → delivered fuel settings network waiting waiting
    ≡ record { network = final; messages = sent }
delivered_of {settings} {final} {network} {n} {sent} {waiting} fuel enough there =
    delivered_is_steps fuel settings network waiting waiting
    ∙ ap outcome (there.ends fuel [] enough)
