-- What an arrival at its site comes to: two messages at most, which go out.
--
--   messages_two, holds_two
use mathlib.Core.Path.{◌≡◌, refl}
use mathlib.Core.Bool.{Bool, true, false}
use mathlib.Core.List.{List, [], ◌∷◌, ◌++◌}
use Prim.Native.Nat.{ℕ, ◌*◌, ◌≤◌}
use native.Mathlib.Omega.{arith}
use lib.ListN.{length, get_or, length-append}
use Rattle.model.specs.declared.Settings.{Settings}
use Rattle.model.specs.declared.Arrival.{Arrival}
use Rattle.model.specs.declared.Message.{Message}
use Rattle.model.specs.Messages.{message_width, no_message}
use Rattle.model.specs.Site.{Site, observed, reports_item, reports_count}
use Rattle.model.specs.Network.{Network}
use Rattle.model.specs.DeliveryClaims.{delivery}
use Rattle.tracker_queue.specs.Sending.{sent_two, logged_two, counted_two}
use Rattle.tracker_delivery.specs.UnderwayParts.{traffic_of}
use Rattle.tracker_delivery.specs.Holding.{WithLog, Carrying, underway_in, with_messages, Holds}
use Rattle.tracker_delivery.proofs.HoldingLaws.{holds_sent}

-- ---- The messages of an arrival

pub messages_two : (settings : Settings) (site : Site) (arrival : Arrival)
    → length (observed settings site arrival).messages ≤ 2
messages_two settings site arrival =
    by_due (reports_item settings site arrival) refl (reports_count site) refl
  where
    by_due : (item_due : Bool) → reports_item settings site arrival ≡ item_due
        → (count_due : Bool) → reports_count site ≡ count_due
        → length (observed settings site arrival).messages ≤ 2
    by_due true item-is true count_is = rw (item-is, count_is) (omega arith)
    by_due true item-is false count_is = rw (item-is, count_is) (omega arith)
    by_due false item-is true count_is = rw (item-is, count_is) (omega arith)
    by_due false item-is false count_is = rw (item-is, count_is) (omega arith)

-- Two messages at most go out when nothing waits.
pub holds_two : {settings : Settings} {given : WithLog} {earlier : List Message} {network : Network}
    {carry : Carrying} (out : List Message) (count : ℕ) (first second : Message)
    → Holds settings given earlier (delivery network [] []) carry
    → length out ≤ 2
    → count ≡ length out
    → first ≡ get_or out 0 no_message
    → second ≡ get_or out 1 no_message
    → message_width * length (earlier ++ out) ≤ length given.log
    → Holds settings given earlier (delivery network out out)
    (with_messages carry (sent_two count (traffic_of (underway_in carry)) first second)
    (counted_two count carry.held.sites.messages first second)
    (logged_two count carry.log carry.written first second))
holds_two [] count first second holds few count_is first_is second_is room = rw count_is holds
holds_two {earlier = earlier} (x ∷ []) count first second holds few count_is first_is second_is
    room =
    rw (count_is, first_is)
    (holds_sent x holds (omega arith)
    (omega (arith, length-append earlier (x ∷ []), length-append {A = Message} earlier [])))
holds_two {earlier = earlier} (x ∷ (y ∷ [])) count first second holds few count_is first_is
    second_is room =
    rw (count_is, first_is, second_is)
    (holds_sent y
    (holds_sent x holds (omega arith)
    (omega (arith, length-append earlier (x ∷ (y ∷ [])), length-append {A = Message} earlier [])))
    (omega arith)
    (omega (arith, length-append earlier (x ∷ (y ∷ [])), length-append earlier (x ∷ []))))
holds_two (x ∷ (y ∷ (z ∷ out))) count first second holds few count_is first_is second_is room =
    absurd (omega arith)
