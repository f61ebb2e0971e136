-- A network: document 01's bench. Its sites and its coordinator, and full delivery after an
-- arrival.
--
--   delivered fuel settings network waiting log   FIFO hand-over until nothing waits and the
--                                                 coordinator does not announce
--   after_arrival settings network arrival        an accepted draw with full delivery
--   after_line settings network arrival           an accepted line: a touch changes nothing
use Rattle.std.specs.Prelude.{true, false, List, [], ◌∷◌, ◌++◌, ℕ, zero, suc, ◌+◌, ◌*◌, get_or, set, replicate, if◌then◌else◌}
use Rattle.model.specs.declared.Settings.{Settings}
use Rattle.model.specs.declared.Arrival.{Arrival}
use Rattle.model.specs.declared.Message.{Message}
use Rattle.model.specs.Messages.{to_coordinator}
use Rattle.model.specs.Draws.{is_draw}
use Rattle.model.specs.Site.{Site, fresh_site, observed, site_receives}
use Rattle.model.specs.Coordinator.{Coordinator, fresh_coordinator, coordinator_receives, is_announcing, announced}

pub record Network : Type 0 where
  pub sites : List Site
  pub coordinator : Coordinator

abbrev pub fresh_network : Settings → Network
fresh_network settings = record {
  sites = replicate settings.sites fresh_site;
  coordinator = fresh_coordinator settings;
}

abbrev pub site_at : Network → ℕ → Site
site_at network which = get_or network.sites which fresh_site

abbrev pub with_site : Network → ℕ → Site → Network
with_site network which site = record {
  sites = set network.sites which site;
  coordinator = network.coordinator;
}

abbrev pub with_coordinator : Network → Coordinator → Network
with_coordinator network c = record { sites = network.sites; coordinator = c }

-- ---- Full delivery

-- A network after a delivery, and messages: of one hand-over those that answer it, of a delivery
-- all that went out.
pub record Delivered : Type 0 where
  pub network : Network
  pub messages : List Message

abbrev pub hand_to_coordinator : Settings → Network → Message → Delivered
hand_to_coordinator settings network m =
    let after = coordinator_receives settings network.coordinator m in
    record {
      network = with_coordinator network after.coordinator;
      messages = after.messages;
    }

abbrev pub hand_to_site : Network → Message → Delivered
hand_to_site network m =
    let after = site_receives (site_at network m.site) m in
    record { network = with_site network m.site after.site; messages = after.messages }

-- "to the deck or desk it is for, answers included"
abbrev pub hand_over : Settings → Network → Message → Delivered
hand_over settings network m =
    if to_coordinator m then hand_to_coordinator settings network m else hand_to_site network m

-- "kind 7 is asked for until the desk is idle"
abbrev pub ask_announcement : Settings → Network → Delivered
ask_announcement settings network =
    let after = announced settings network.coordinator in
    record {
      network = with_coordinator network after.coordinator;
      messages = after.messages;
    }

-- "each message that goes out is handed and accepted once, in the order of going out": the messages
-- that wait, and all that went out so far. The first argument bounds the hand-overs.
abbrev pub delivered : ℕ → Settings → Network → List Message → List Message → Delivered
delivered zero settings network waiting log = record { network = network; messages = log }
delivered (suc more) settings network [] log =
    elim (is_announcing network.coordinator.phase) [
      | true ↦
          (let next = ask_announcement settings network in
          delivered more settings next.network next.messages (log ++ next.messages))
      | false ↦ record { network = network; messages = log }
    ]
delivered (suc more) settings network (m ∷ waiting) log =
    let next = hand_over settings network m in
    delivered more settings next.network (waiting ++ next.messages) (log ++ next.messages)

-- Enough hand-overs for what one arrival sets off.
abbrev pub delivery_fuel : Settings → ℕ
delivery_fuel settings = 50 * settings.sites + 10

-- An accepted draw with full delivery: the network then, and all its messages in order.
abbrev pub after_arrival : Settings → Network → Arrival → Delivered
after_arrival settings network arrival =
    let after = observed settings (site_at network arrival.site) arrival in
    delivered (delivery_fuel settings) settings
    (with_site network arrival.site after.site) after.messages after.messages

-- The network as it was: nothing went out.
abbrev pub as_it_was : Network → Delivered
as_it_was network = record { network = network; messages = [] }

-- Request N2: a touch is "accepted with no change and no message".
abbrev pub after_line : Settings → Network → Arrival → Delivered
after_line settings network arrival =
    if is_draw arrival then after_arrival settings network arrival else as_it_was network
