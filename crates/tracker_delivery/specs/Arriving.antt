-- An accepted arrival, in two steps: its site takes it, then its messages go out with full
-- delivery.
--
--   ArrivalAsks                a network at rest in a state, and an arrival that it accepts
--   Taken                      the state when the arrival's site has taken it
--   SiteAsks, SiteSays         the arrival at its site
--   MessagesAsk, MessagesSay   its messages, with full delivery
use Rattle.std.specs.Prelude.{◌≡◌, List, [], ℕ, get_or}
use Rattle.model.specs.declared.Settings.{Settings}
use Rattle.model.specs.declared.Arrival.{Arrival}
use Rattle.model.specs.declared.Message.{Message}
use Rattle.model.specs.declared.SiteRecord.{SiteRecord}
use Rattle.model.specs.Site.{SiteStep, observed}
use Rattle.model.specs.Network.{Network, site_at, with_site, after_arrival}
use Rattle.model.specs.DeliveryClaims.{Delivery, delivery}
use Rattle.site_steps.specs.declared.Observed.{Observed}
use Rattle.model.specs.Held.{no_record, with_record}
use Rattle.tracker_queue.specs.declared.Queue.{Queue}
use Rattle.tracker_delivery.specs.UnderwayParts.{Underway}
use Rattle.tracker_queue.specs.Sending.{queue_of}
use Rattle.tracker_delivery.specs.Holding.{WithLog, Carrying, carrying, Holds, Accepting, rested}

-- A network at rest, and an arrival that it accepts.
pub record ArrivalAsks (settings : Settings) (arrival : Arrival) (carry : Carrying) : Type 0 where
  pub given : WithLog
  pub earlier : List Message
  pub network : Network
  pub accepting : Accepting settings given earlier network arrival
  pub holds : Holds settings given earlier (delivery network [] []) carry

-- The model's step of the arrival's site.
abbrev pub step_at : Settings → Network → Arrival → SiteStep
step_at settings network arrival = observed settings (site_at network arrival.site) arrival

-- The arrival's site has taken it; its messages have yet to go out.
abbrev pub taken_at : Settings → Network → Arrival → Delivery
taken_at settings network arrival =
    delivery (with_site network arrival.site (step_at settings network arrival).site) [] []

-- What the state then holds, and the messages as code carries them.
pub record Taken
    (settings : Settings)
    (given : WithLog)
    (earlier : List Message)
    (network : Network)
    (arrival : Arrival)
    (out : Queue)
    (carry : Carrying) : Type 0 where
  pub accepting : Accepting settings given earlier network arrival
  pub out_is : out ≡ queue_of (step_at settings network arrival).messages
  pub holds : Holds settings given earlier (taken_at settings network arrival) carry

-- The site is handed its record alone, and its part of the sites' memory.
pub record SiteAsks
    (settings : Settings)
    (own : SiteRecord)
    (arrival : Arrival)
    (site_memory : List ℕ) : Type 0 where
  pub underway : Underway
  pub coordinator_memory : List ℕ
  pub log : List ℕ
  pub asks : ArrivalAsks settings arrival (carrying underway site_memory coordinator_memory log)
  pub own_is : own ≡ get_or underway.sites.records arrival.site no_record

-- The messages of an observed arrival, as they wait.
abbrev pub out_of : Observed → Queue
out_of answer = record {
  count = answer.count;
  first = answer.first;
  second = answer.second;
}

-- The site's record put back in its place.
abbrev pub put_back : Underway → ℕ → SiteRecord → Underway
put_back underway which own = record {
  sites = with_record underway.sites which own;
  coordinator = underway.coordinator;
  written = underway.written;
  waiting = underway.waiting;
}

-- The arrival at its site, whatever network the state holds.
pub record SiteSays
    (settings : Settings)
    (own : SiteRecord)
    (arrival : Arrival)
    (before after : List ℕ)
    (answer : Observed) : Type 0 where
  pub takes : (underway : Underway) (coordinator_memory log : List ℕ)
      (u : ArrivalAsks settings arrival (carrying underway before coordinator_memory log))
      → own ≡ get_or underway.sites.records arrival.site no_record
      → Taken settings u.given u.earlier u.network arrival (out_of answer)
      (carrying (put_back underway arrival.site answer.site) after coordinator_memory log)

-- The messages of an arrival that its site has taken, with full delivery.
pub record MessagesAsk (settings : Settings) (out : Queue) (carry : Carrying) : Type 0 where
  pub given : WithLog
  pub earlier : List Message
  pub network : Network
  pub arrival : Arrival
  pub taken : Taken settings given earlier network arrival out carry

pub record MessagesSay (settings : Settings) (out : Queue) (before after : Carrying) : Type 0 where
  pub delivers : (u : MessagesAsk settings out before)
      → Holds settings u.given u.earlier
      (rested (after_arrival settings u.network u.arrival)) after
