-- The first step of the model's delivery, where it is known: kind 1 is handed to an idle
-- coordinator.
--
--   reached_none, reached_one   a delivery after no step, and after one
--   item_handed                 kind 1 handed over
use mathlib.Core.Path.{◌≡◌, refl, sym, ap, ◌∙◌}
use mathlib.Core.Bool.{false, false≢true}
use mathlib.Core.List.{List, ◌∷◌, append-nil}
use Prim.Native.Nat.{ℕ}
use native.Mathlib.Omega.{arith}
use Rattle.model.specs.declared.Settings.{Settings}
use Rattle.model.specs.declared.Message.{Message}
use Rattle.model.specs.declared.Phase.{Phase}
use Rattle.model.specs.declared.Phase.TheVariants.{Idle}
use Rattle.model.specs.Messages.{item_report}
use Rattle.model.specs.Coordinator.{is_announcing, takes_item_report, receives_in}
use Rattle.model.specs.Network.{Network, with_coordinator}
use Rattle.model.specs.DeliveryClaims.{Delivery, delivery, joining, delivery_step}
use Rattle.mid_delivery.specs.SoundClaims.{Reached, begun, handed, asked}

module _ {settings : Settings} {start : Delivery} where
  -- No step: it is where it began.
  pub reached_none : (n : ℕ) (d : Delivery)
      → Reached settings start n d
      → n ≡ 0
      → d ≡ start
  reached_none n d begun none = refl
  reached_none n d (handed m network message waiting log earlier) none = absurd (omega arith)
  reached_none n d (asked m network waiting log earlier announces) none = absurd (omega arith)

  -- One step, of a delivery whose coordinator does not announce: the model's.
  pub reached_one : is_announcing start.network.coordinator.phase ≡ false
      → (n : ℕ) (d : Delivery)
      → Reached settings start n d
      → n ≡ 1
      → d ≡ delivery_step settings start
  reached_one silent n d begun one = absurd (omega arith)
  reached_one silent n d (handed m network message waiting log earlier) one =
      ap (delivery_step settings)
      (reached_none m (delivery network (message ∷ waiting) log) earlier (omega arith))
  reached_one silent n d (asked m network waiting log earlier announces) one =
      let began = reached_none m (delivery network waiting log) earlier (omega arith) in
      absurd
      (false≢true
      (sym silent
      ∙ ap (λ (there : Delivery). is_announcing there.network.coordinator.phase) (sym began)
      ∙ announces))

-- The estimate grows; nothing is answered.
pub item_handed : (settings : Settings) (network : Network) (j item amount : ℕ)
    (later log : List Message)
    → network.coordinator.phase ≡ Idle
    → delivery_step settings (delivery network (item_report j item amount ∷ later) log)
    ≡ delivery
    (with_coordinator network
    (takes_item_report network.coordinator (item_report j item amount)).coordinator)
    later log
item_handed settings network j item amount later log idle =
    let c = network.coordinator in
    let m = item_report j item amount in
    ap (λ (phase : Phase).
    let after = receives_in settings c phase m in
    joining
    (record {
      network = with_coordinator network after.coordinator;
      messages = after.messages;
    })
    later log)
    idle
    ∙ (λ i. delivery (with_coordinator network (takes_item_report c m).coordinator)
    (append-nil later i) (append-nil log i))
