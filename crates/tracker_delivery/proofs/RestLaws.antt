-- A delivery that came to rest: the network then is sound and bounded, has one arrival more, and
-- its messages join those of earlier arrivals.
--
--   sound_then, bounded_then, arrivals_then   what holds of the network
--   holds_rested             the state then holds a network at rest, with all messages so far
use mathlib.Core.Path.{◌≡◌}
use mathlib.Core.List.{List, [], ◌++◌, append-nil}
use Prim.Native.Nat.{◌+◌}
use Rattle.model.specs.declared.Settings.{Settings}
use Rattle.model.specs.declared.Arrival.{Arrival}
use Rattle.model.specs.declared.Message.{Message}
use Rattle.model.specs.Network.{Network, after_arrival}
use Rattle.model.specs.NetworkMemory.{all_arrivals}
use Rattle.model.specs.SoundNetwork.{Sound}
use Rattle.model.specs.NumberClaims.{Bounded}
use Rattle.model.specs.DeliveryClaims.{delivery}
use Rattle.mid_delivery.proofs.Soundness.SoundTheorem.{sound_claims}
use Rattle.mid_delivery.proofs.Numbers.NumberBounds.{bounded_grown}
use Rattle.mid_delivery.proofs.Numbers.NumberTheorem.{number_claims}
use Rattle.tracker_delivery.specs.Holding.{Holds, Accepting, WithLog, Carrying}

-- ---- The network then

module _ {settings : Settings} {given : WithLog} {earlier : List Message} {network : Network}
    {arrival : Arrival} (accepting : Accepting settings given earlier network arrival) where
  abbrev after : Network
  after = (after_arrival settings network arrival).network

  pub sound_then : Sound settings after
  sound_then =
      sound_claims.arrival_sound settings network arrival accepting.fits.settings_accepted
      accepting.sound accepting.taken

  pub bounded_then : Bounded after
  bounded_then =
      bounded_grown
      (number_claims.arrival_grows settings network arrival accepting.fits.settings_accepted
      accepting.sound accepting.taken) accepting.bounded

  pub arrivals_then : all_arrivals after.sites ≡ all_arrivals network.sites + 1
  arrivals_then =
      number_claims.arrival_counted settings network arrival
      accepting.fits.settings_accepted accepting.sound accepting.taken

-- ---- Messages so far

-- At rest, the delivery's own messages are those of earlier arrivals for the next.
pub holds_rested : {settings : Settings} {given : WithLog} {earlier : List Message}
    {carry : Carrying}
    (network : Network) (messages : List Message)
    → Holds settings given earlier (delivery network [] messages) carry
    → Holds settings given (earlier ++ messages) (delivery network [] []) carry
holds_rested {earlier = earlier} network messages holds =
    let same : (earlier ++ messages) ++ [] ≡ earlier ++ messages =
    append-nil (earlier ++ messages) in
    record {
      records = holds.records;
      counted = rw same holds.counted;
      coordinator = holds.coordinator;
      written = rw same holds.written;
      waiting = holds.waiting;
      site_memory = holds.site_memory;
      coordinator_memory = holds.coordinator_memory;
      log = rw same holds.log;
    }
