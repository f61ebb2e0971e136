-- The contract of an arrival with full delivery by the public calls: whatever records and memory it
-- is given, arisen or not, its numbers, both records and every place of lent memory are those of a
-- definition; what it does are steps of a history; and where a history left what it is given at
-- rest, the history goes on by this arrival and comes to rest.
--
--   delivery_refusal, delivery_takes  why the arrival is refused, and whether it is taken
--   meets_limit, meets_forgotten   whether a call is refused in mid-delivery: none for records and
--   steps_before_poll, stop_of     memory that arose; after how many steps, and by what number
--   delivery_in ..                 the network that it comes to, and the messages that went out
--   held_after, carried_by, stopped_by  what is left, and what is answered, taken or not
--   DeliveryOutcome, delivery_outcome   what the call comes to, refused or not
--   left_by refusal ..             the answer that leaves all as it was
--   HistoryGoesOn                  a history with one arrival more
--   ArrivalDelivered               the arrival and its delivery, as steps of a history
--   DeliverySays                   the promise
use Rattle.std.specs.Prelude.{◌≡◌, Bool, true, Result, Ok, Err, ◌&&◌, ◌||◌, List, [], ◌∷◌, ◌++◌, ℕ, ◌+◌, ◌*◌, ltb, length, if◌then◌else◌}
use Rattle.model.specs.declared.Settings.{Settings}
use Rattle.model.specs.declared.Arrival.{Arrival}
use Rattle.model.specs.declared.Sites.{Sites}
use Rattle.model.specs.declared.CoordinatorRecord.{CoordinatorRecord}
use Rattle.model.specs.declared.Refusal.{Refusal}
use Rattle.model.specs.Refusals.{when, ◌or_else◌, no_refusal, memory_inconsistent, number_of}
use Rattle.model.specs.Limits.{coordinator_limit}
use Rattle.model.specs.Draws.{is_draw, is_taken}
use Rattle.model.specs.Site.{reports_item, reports_count, observed}
use Rattle.model.specs.Coordinator.{closes_round}
use Rattle.model.specs.Network.{Network, Delivered, site_at, after_arrival}
use Rattle.model.specs.Runs.{line_refusal_in, run_of}
use Rattle.model.specs.SoundNetwork.{estimate_of}
use Rattle.model.specs.Claims.{one_if}
use Rattle.model.specs.DeliveryClaims.{delivery_of, delivery_steps, outcome}
use Rattle.site.specs.Calls.{Observation, ObserveSays}
use Rattle.tracker_delivery.specs.Stops.{stop_number}
use Rattle.history.specs.State.{Held, State, AtRest, held_refusal, network_of, network_written, record_at, site_part}
use Rattle.history.specs.Steps.{after_single}
use Rattle.history.specs.Histories.{Reachable, Deliveries}
use Rattle.history.specs.Frame.{TailsKept}
use Rattle.single_outcome.specs.declared.DeliveryAnswer.{DeliveryAnswer}

-- ---- Refusals

-- "Order: 1, 2, 3; then 4, 11; for a draw 5, 6, 7, 8": 1 to 4 and 11 of the whole network at rest,
-- as the batch call tests it when it starts. A touch is not tested for 8.
abbrev pub delivery_refusal : Settings → Held → Arrival → ℕ
delivery_refusal settings held arrival =
    held_refusal settings held or_else line_refusal_in settings (network_of settings held) arrival

-- A draw that is not refused is taken. All else, a touch too, leaves everything as it was.
abbrev pub delivery_takes : Settings → Held → Arrival → Bool
delivery_takes settings held arrival = is_taken arrival (delivery_refusal settings held arrival)

-- ---- What the delivery comes to

-- Kinds 1 and 2 both go out, and kind 1 brings the item's estimate above the coordinator's
-- limit: kind 2 meets a coordinator whose memory is inconsistent. No estimate that arose comes
-- near.
abbrev pub meets_limit : Settings → Network → Arrival → Bool
meets_limit settings network arrival =
    let site = site_at network arrival.site in
    reports_item settings site arrival
    && reports_count site
    && ltb coordinator_limit (estimate_of network arrival.item + site.threshold)

-- The arrival closes the round, and its site has then forgotten more than arrived: its poll meets a
-- site whose memory is inconsistent. No site that arose has (crate demands, Dropped.antt).
abbrev pub meets_forgotten : Settings → Network → Arrival → Bool
meets_forgotten settings network arrival =
    let site = site_at network arrival.site in
    let after = (observed settings site arrival).site in
    reports_count site
    && closes_round settings network.coordinator
    && ltb after.arrivals after.dropped

-- The steps before the poll of the arrival's site: its own messages handed over, and a poll with
-- its answer for each site before.
abbrev pub steps_before_poll : Settings → Network → Arrival → ℕ
steps_before_poll settings network arrival =
    one_if (reports_item settings (site_at network arrival.site) arrival) + 1
    + 2 * arrival.site

-- The number of the call that stops it: 11, of kind 2 or of a poll; 0 where none does.
abbrev pub stop_of : Settings → Network → Arrival → ℕ
stop_of settings network arrival =
    when (meets_limit settings network arrival || meets_forgotten settings network arrival)
    memory_inconsistent

-- So many steps of the rules' delivery.
abbrev pub stopped_after : ℕ → Settings → Network → Arrival → Delivered
stopped_after steps settings network arrival =
    outcome (delivery_steps steps settings (delivery_of settings network arrival))

-- The rules' full delivery; where it stops, the steps before the call that is refused: kind 1
-- handed over and kind 2 not, or all before the poll of the arrival's site.
abbrev pub delivery_in : Settings → Network → Arrival → Delivered
delivery_in settings network arrival =
    if meets_limit settings network arrival
    then stopped_after 1 settings network arrival
    else (if meets_forgotten settings network arrival
    then stopped_after (steps_before_poll settings network arrival) settings network arrival
    else after_arrival settings network arrival)

-- Not taken, all is "left as it was". Otherwise it is the network that the delivery comes to,
-- written over what was given: unused counters, records k to 31 and what lies past the network
-- stay, and so do the network's own counts of messages, "to which the many-draw call alone adds".
abbrev pub held_after : Settings → Held → Arrival → Held
held_after settings given arrival =
    if delivery_takes settings given arrival
    then network_written settings given
    (delivery_in settings (network_of settings given) arrival).network given.sites.messages
    else given

-- Each message that went out, once.
abbrev pub carried_by : Settings → Held → Arrival → ℕ
carried_by settings given arrival =
    if delivery_takes settings given arrival
    then length (delivery_in settings (network_of settings given) arrival).messages
    else 0

abbrev pub stopped_by : Settings → Held → Arrival → ℕ
stopped_by settings given arrival =
    if delivery_takes settings given arrival
    then stop_of settings (network_of settings given) arrival
    else no_refusal

-- ---- The answer

-- Why the arrival is refused, or 0; how many messages went out; the number of the call that stopped
-- the delivery, or 0; and both records.
pub record DeliveryOutcome : Type 0 where
  pub refusal : ℕ
  pub carried : ℕ
  pub stopped : ℕ
  pub sites : Sites
  pub coordinator : CoordinatorRecord

-- ---- Refused, or a touch

-- Nothing went out, and the records are as they were.
abbrev pub left_by : ℕ → Sites → CoordinatorRecord → DeliveryOutcome
left_by refusal sites coordinator = record {
  refusal = refusal;
  carried = 0;
  stopped = no_refusal;
  sites = sites;
  coordinator = coordinator;
}

-- What the call comes to, as the table of refusals tells it: refused, all is as it was.
abbrev pub delivery_outcome : Sites → CoordinatorRecord → Result DeliveryAnswer Refusal
    → DeliveryOutcome
delivery_outcome sites coordinator (Ok answer) = record {
  refusal = no_refusal;
  carried = answer.carried;
  stopped = stop_number answer.stopped;
  sites = answer.sites;
  coordinator = answer.coordinator;
}
delivery_outcome sites coordinator (Err refusal) = left_by (number_of refusal) sites coordinator

-- ---- As steps of a history

-- A history at rest goes on by one arrival, and is at rest again: the rules' run with one more.
pub record HistoryGoesOn
    (settings : Settings)
    (before : State)
    (arrival : Arrival)
    (after : State) : Type 0 where
  pub reachable : Reachable settings after
  pub at_rest : AtRest after
  pub accepted_are : after.accepted ≡ before.accepted ++ (arrival ∷ [])
  pub network_is : network_of settings after.held
      ≡ (run_of settings (before.accepted ++ (arrival ∷ []))).network
  pub messages_are : after.messages
      ≡ (run_of settings (before.accepted ++ (arrival ∷ []))).messages
  -- what lies past the network is as it was
  pub tails_kept : TailsKept settings before.held after.held

-- From a state with nothing waiting: the arrival's call, then calls that deliver.
pub record ArrivalDelivered
    (settings : Settings)
    (before : State)
    (arrival : Arrival)
    (answer : DeliveryOutcome)
    (left : Held) : Type 0 where
  -- the call on the site is accepted
  pub words : ℕ
  pub part : List ℕ
  pub observed : Observation
  pub observe_says : ObserveSays settings (record_at before.held arrival.site) arrival
      (site_part settings before.held arrival.site words) part observed
  pub observe_accepts : observed.refusal ≡ no_refusal
  -- so many calls more, each accepted, and each given what the one before left
  pub calls : ℕ
  pub after : State
  pub deliveries : Deliveries settings (after_single settings before arrival words part observed)
      calls after
  pub held_is : after.held ≡ left
  -- the messages that went out, after those before
  pub messages_are : after.messages
      ≡ before.messages
      ++ (delivery_in settings (network_of settings before.held) arrival).messages
  -- not stopped, it has come to rest
  pub rests : answer.stopped ≡ no_refusal → AtRest after
  -- in a history nothing stops it
  pub completes : AtRest before → Reachable settings before → answer.stopped ≡ no_refusal
  pub goes_on : AtRest before
      → Reachable settings before
      → HistoryGoesOn settings before arrival after

-- ---- The promise

pub record DeliverySays
    (settings : Settings)
    (arrival : Arrival)
    (given left : Held)
    (answer : DeliveryOutcome) : Type 0 where
  pub refusal : answer.refusal ≡ delivery_refusal settings given arrival
  pub carried : answer.carried ≡ carried_by settings given arrival
  pub stopped : answer.stopped ≡ stopped_by settings given arrival
  -- both records and both memories
  pub held : left ≡ held_after settings given arrival
  -- a draw that is accepted is the arrival's call and then calls that deliver
  pub delivered : answer.refusal ≡ no_refusal
      → is_draw arrival ≡ true
      → (before : State)
      → before.held ≡ given
      → before.waiting ≡ []
      → ArrivalDelivered settings before arrival answer left
  -- in a history at rest an arrival is refused by the rules' number alone: 5, 6, 7, and a draw
  -- also by 8
  pub by_rules : (before : State)
      → before.held ≡ given
      → AtRest before
      → Reachable settings before
      → answer.refusal ≡ line_refusal_in settings (network_of settings given) arrival
