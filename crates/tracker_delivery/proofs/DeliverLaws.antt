-- A delivery to its end: each step keeps a delivery that goes on from the same arrival, messages
-- waiting and free records of the log become fewer, and where nothing is left to do the state
-- holds the model's network and messages.
--
--   After                     a state that was reached from another by steps of the same delivery
--   after_start, after_step   kept from the first state on
--   after_end                 where nothing is left to do
--   nothing_left              nothing waits then
--   left_less                 two for each free number of the log and one for each message that
--                             waits
use mathlib.Core.Path.{◌≡◌, refl, sym, ap, subst, subst⁻¹}
use mathlib.Core.Bool.{true, false, false≢true}
use mathlib.Core.List.{List, [], ◌++◌}
use Prim.Native.Nat.{ℕ, suc, ◌+◌, ◌-◌, ◌*◌, ◌<◌}
use native.Mathlib.Omega.{arith}
use native.Mathlib.Decide.{ℕ_discrete}
use lib.ListN.{length, length-append}
use borrow.Author.Tests.{ne_eqb}
use Rattle.model.specs.declared.Settings.{Settings}
use Rattle.model.specs.declared.Message.{Message}
use Rattle.model.specs.declared.SiteRecord.{SiteRecord}
use Rattle.model.specs.declared.CoordinatorRecord.{CoordinatorRecord}
use Rattle.model.specs.declared.Phase.{Phase}
use Rattle.model.specs.declared.Phase.TheVariants.{Idle, Collecting, Probing, Announcing}
use Rattle.model.specs.Coordinator.{Coordinator, is_announcing, announced_in}
use Rattle.model.specs.Network.{Delivered, hand_over, ask_announcement, after_arrival}
use Rattle.model.specs.DeliveryClaims.{Delivery, delivery_step}
use Rattle.tracker_queue.specs.declared.Queue.{Queue}
use Rattle.tracker_queue.specs.declared.Traffic.{Traffic}
use Rattle.tracker_delivery.specs.UnderwayParts.{Underway, underway_of, resting}
use Rattle.tracker_delivery.specs.Holding.{WithLog, Carrying, carrying, underway_in, Holds, Going, Delivering, goes_on, StepSays, rested}
use Rattle.tracker_delivery.proofs.HoldingLaws.{log_length}
use Rattle.tracker_delivery.proofs.GoingLaws.{going_room, going_handed, going_asked, going_ends}
use Rattle.tracker_delivery.proofs.StepLaws.{none_waits, handing, asking}

-- ---- The next delivery

pub going_step : {settings : Settings} {carry : Carrying} (u : Delivering settings carry)
    → goes_on carry.held.coordinator carry.waiting ≡ true
    → Going settings u.given u.earlier u.network u.arrival (suc u.steps)
    (delivery_step settings u.now)
going_step {settings} {carry} u goes = by_count (ℕ_discrete carry.waiting.count 0)
  where
    by_count : Dec (carry.waiting.count ≡ 0)
        → Going settings u.given u.earlier u.network u.arrival (suc u.steps)
        (delivery_step settings u.now)
    by_count (yes none) =
        let ask = asking u none goes in
        subst⁻¹ (Going settings u.given u.earlier u.network u.arrival (suc u.steps))
        ask.step_is (going_asked ask.going ask.announces)
    by_count (no some) =
        let hand = handing u some in
        subst⁻¹ (Going settings u.given u.earlier u.network u.arrival (suc u.steps))
        hand.step_is (going_handed hand.going)

-- ---- What is left to do becomes less

-- A coordinator that announces hands out one announcement.
one_announced : (settings : Settings) (c : Coordinator) (phase : Phase)
    → is_announcing phase ≡ true
    → length (announced_in settings c phase).messages ≡ 1
one_announced settings c Idle announces = absurd (false≢true announces)
one_announced settings c (Collecting site) announces = absurd (false≢true announces)
one_announced settings c (Probing site low high sum) announces = absurd (false≢true announces)
one_announced settings c (Announcing site) announces = refl

abbrev pub left_to_do : Underway → ℕ → ℕ
left_to_do underway free = 2 * (free - underway.written) + underway.waiting.count

-- A hand-over takes a message from those that wait, and may write one; asking writes one.
record Less (earlier : List Message) (d next : Delivery) : Type 0 where
  out : List Message
  log_is : next.log ≡ d.log ++ out
  fewer : length next.waiting < length d.waiting + 2 * length out

less_step : {settings : Settings} {carry : Carrying} (u : Delivering settings carry)
    → goes_on carry.held.coordinator carry.waiting ≡ true
    → Less u.earlier u.now (delivery_step settings u.now)
less_step {settings} {carry} u goes = by_count (ℕ_discrete carry.waiting.count 0)
  where
    by_count : Dec (carry.waiting.count ≡ 0)
        → Less u.earlier u.now (delivery_step settings u.now)
    by_count (yes none) =
        let ask = asking u none goes in
        let c = u.now.network.coordinator in
        let one = one_announced settings c c.phase ask.announces in
        record {
          out = (ask_announcement settings u.now.network).messages;
          log_is = ap (λ (d : Delivery). d.log) ask.step_is;
          fewer = omega (
            arith,
            ap (λ (d : Delivery). length d.waiting) ask.step_is,
            one,
          );
        }
    by_count (no some) =
        let hand = handing u some in
        let m = carry.waiting.first in
        let out = (hand_over settings u.now.network m).messages in
        record {
          out = out;
          log_is = ap (λ (d : Delivery). d.log) hand.step_is;
          fewer = omega (
            arith,
            ap (λ (d : Delivery). length d.waiting) hand.step_is,
            length-append hand.rest out,
            ap (λ (q : Queue). q.count) u.holds.waiting,
            ap (λ (q : Queue). q.count) hand.holds.waiting,
          );
        }

pub left_less : {settings : Settings} {carry next : Carrying} (u : Delivering settings carry)
    → goes_on carry.held.coordinator carry.waiting ≡ true
    → Holds settings u.given u.earlier (delivery_step settings u.now) next
    → left_to_do (underway_in next) (length next.log)
    < left_to_do (underway_in carry) (length carry.log)
left_less {settings} {carry} {next} u goes holds =
    let less = less_step u goes in
    let then = delivery_step settings u.now in
    let room-now = going_room u.going in
    let room_then = going_room (going_step u goes) in
    omega (
      arith,
      u.holds.written,
      holds.written,
      ap (λ (q : Queue). q.count) u.holds.waiting,
      ap (λ (q : Queue). q.count) holds.waiting,
      log_length u.holds room-now,
      log_length holds room_then,
      room_then,
      length-append u.earlier u.now.log,
      length-append u.earlier then.log,
      ap length less.log_is,
      length-append u.now.log less.out,
      less.fewer,
    )

-- ---- From the first state on

pub record After {settings : Settings} {first : Carrying} (u : Delivering settings first)
    (carry : Carrying)
    : Type 0 where
  pub steps : ℕ
  pub now : Delivery
  pub going : Going settings u.given u.earlier u.network u.arrival steps now
  pub holds : Holds settings u.given u.earlier now carry

module _ {settings : Settings} {first : Carrying} (u : Delivering settings first) where
  pub after_start : After u first
  after_start = record {
    steps = u.steps;
    now = u.now;
    going = u.going;
    holds = u.holds;
  }

  abbrev pub delivering_after : {carry : Carrying} → After u carry → Delivering settings carry
  delivering_after after = record {
    given = u.given;
    earlier = u.earlier;
    network = u.network;
    arrival = u.arrival;
    steps = after.steps;
    now = after.now;
    going = after.going;
    holds = after.holds;
  }

  pub after_step : {carry next : Carrying} → After u carry
      → goes_on carry.held.coordinator carry.waiting ≡ true
      → StepSays settings carry next
      → After u next
  after_step after goes says = record {
    steps = suc after.steps;
    now = delivery_step settings after.now;
    going = going_step (delivering_after after) goes;
    holds = says.next (delivering_after after);
  }

  pub after_end : {carry : Carrying} → After u carry
      → goes_on carry.held.coordinator carry.waiting ≡ false
      → Holds settings u.given u.earlier
      (rested (after_arrival settings u.network u.arrival)) carry
  after_end {carry} after ends =
      subst (λ (d : Delivery). Holds settings u.given u.earlier d carry)
      (going_ends after.going waits_none silent) after.holds
    where
      queue : Queue
      queue = carry.waiting

      none : queue.count ≡ 0
      none = by_count (ℕ_discrete queue.count 0)
        where
          by_count : Dec (queue.count ≡ 0) → queue.count ≡ 0
          by_count (yes is) = is
          by_count (no some) =
              absurd (false≢true (sym (rw (ne_eqb queue.count 0 some) at ends)))

      waits_none : after.now.waiting ≡ []
      waits_none = none_waits queue after.now.waiting after.holds.waiting none

      silent : is_announcing after.now.network.coordinator.phase ≡ false
      silent = rw (none, after.holds.coordinator) at ends

-- Nothing waits at the end of a delivery, so that no queue is handed back.
pub nothing_left : {settings : Settings} {given : WithLog} {earlier : List Message}
    {after : Delivered} {records : List SiteRecord} {counts : List ℕ}
    {coordinator : CoordinatorRecord} {traffic : Traffic}
    {site_memory coordinator_memory log : List ℕ}
    → Holds settings given earlier (rested after)
    (carrying (underway_of records counts coordinator traffic) site_memory coordinator_memory log)
    → Holds settings given earlier (rested after)
    (carrying (resting records counts coordinator traffic.written) site_memory coordinator_memory
    log)
nothing_left holds = record {
  records = holds.records;
  counted = holds.counted;
  coordinator = holds.coordinator;
  written = holds.written;
  waiting = refl;
  site_memory = holds.site_memory;
  coordinator_memory = holds.coordinator_memory;
  log = holds.log;
}
