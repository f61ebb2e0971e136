-- A delivery only adds to its log: the messages so far are the first of those that it comes to.
--
--   LogGrows, steps_grow     after any number of steps
use mathlib.Core.Path.{◌≡◌, refl, sym, ap, ◌∙◌}
use mathlib.Core.Bool.{Bool, true, false}
use mathlib.Core.List.{List, [], ◌∷◌, ◌++◌, append_assoc, append-nil}
use Prim.Native.Nat.{ℕ, zero, suc}
use Rattle.model.specs.declared.Settings.{Settings}
use Rattle.model.specs.declared.Message.{Message}
use Rattle.model.specs.Coordinator.{is_announcing}
use Rattle.model.specs.Network.{Network, hand_over, ask_announcement}
use Rattle.model.specs.DeliveryClaims.{Delivery, delivery, delivery_step, delivery_steps}

-- The log of a delivery with more messages behind it.
pub record LogGrows (before after : Delivery) : Type 0 where
  pub more : List Message
  pub log_is : after.log ≡ before.log ++ more

step_grows : (settings : Settings) (network : Network) (waiting log : List Message)
    → LogGrows (delivery network waiting log) (delivery_step settings
    (delivery network waiting log))
step_grows settings network (m ∷ waiting) log =
    record { more = (hand_over settings network m).messages; log_is = refl }
step_grows settings network [] log = by_phase (is_announcing network.coordinator.phase) refl
  where
    by_phase : (announces : Bool) → is_announcing network.coordinator.phase ≡ announces
        → LogGrows (delivery network [] log) (delivery_step settings (delivery network [] log))
    by_phase true announces =
        rw announces
        (record { more = (ask_announcement settings network).messages; log_is = refl })
    by_phase false silent = rw silent (record { more = []; log_is = sym (append-nil log) })

-- By recursion on the steps.
pub steps_grow : (fuel : ℕ) (settings : Settings) (d : Delivery)
    → LogGrows d (delivery_steps fuel settings d)
steps_grow zero settings d = record { more = []; log_is = sym (append-nil d.log) }
steps_grow (suc fuel) settings d =
    let first = step_grows settings d.network d.waiting d.log in
    let later = steps_grow fuel settings (delivery_step settings d) in
    record {
      more = first.more ++ later.more;
      log_is =
          later.log_is
          ∙ ap (λ (log : List Message). log ++ later.more) first.log_is
          ∙ append_assoc d.log first.more later.more;
    }
