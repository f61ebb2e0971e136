-- An arrival that its site has taken: its messages go out, and its delivery goes on; or it has
-- none, and the network is at rest.
--
--   two_ask              what sending its messages requires
--   begun_holds          what the state holds when they went out
--   delivering_begun     the delivery then goes on
--   quiet_rests          without messages, its delivery has come to its end
use mathlib.Core.Path.{◌≡◌, refl, ap, ◌∙◌, subst, subst⁻¹}
use mathlib.Core.Bool.{false}
use mathlib.Core.List.{List, [], ◌++◌}
use Prim.Native.Nat.{ℕ, zero, suc, ◌*◌, ◌≤◌, ◌<◌}
use native.Mathlib.Omega.{arith}
use lib.ListN.{length, get_or, length-append}
use Rattle.model.specs.declared.Settings.{Settings}
use Rattle.model.specs.declared.Arrival.{Arrival}
use Rattle.model.specs.declared.Message.{Message}
use Rattle.model.specs.Messages.{message_width, no_message}
use Rattle.model.specs.Coordinator.{is_announcing}
use Rattle.model.specs.Network.{Network, site_at, after_arrival}
use Rattle.model.specs.DeliveryClaims.{Delivery, delivery_of}
use Rattle.model.proofs.MessageCount.CountLaws.{NamesBelow, names_at}
use Rattle.mid_delivery.specs.SoundClaims.{begun}
use Rattle.mid_delivery.proofs.Stages.StageNames.{stage_names}
use Rattle.tracker_queue.specs.declared.Queue.{Queue}
use Rattle.tracker_queue.specs.declared.Traffic.{Traffic}
use Rattle.tracker_queue.specs.Sending.{Countable, SendTwoAsks, SendTwoSays}
use Rattle.tracker_delivery.specs.UnderwayParts.{traffic_of}
use Rattle.tracker_delivery.specs.Holding.{WithLog, Carrying, underway_in, with_messages, Holds, Going, Delivering, rested}
use Rattle.tracker_delivery.specs.Arriving.{step_at, Taken, MessagesAsk}
use Rattle.tracker_delivery.proofs.ObservedLaws.{messages_two, holds_two}
use Rattle.tracker_delivery.proofs.HoldingLaws.{countable, log_length}
use Rattle.tracker_delivery.proofs.GoingLaws.{going_stage, going_room, going_ends}
use Rattle.tracker_delivery.proofs.StepLaws.{none_waits}

module _ {settings : Settings} {given : WithLog} {earlier : List Message} {network : Network}
    {arrival : Arrival} {out : Queue} {carry : Carrying}
    (taken : Taken settings given earlier network arrival out carry) where
  abbrev messages : List Message
  messages = (step_at settings network arrival).messages

  few : length messages ≤ 2
  few = messages_two settings (site_at network arrival.site) arrival

  -- The delivery that the arrival sets off goes on.
  pub going_begun : Going settings given earlier network arrival 0
      (delivery_of settings network arrival)
  going_begun = record { accepting = taken.accepting; reached = begun; few_waiting = few }

  room : message_width * length (earlier ++ messages) ≤ length given.log
  room = going_room going_begun

  count_is : out.count ≡ length messages
  count_is = ap (λ (q : Queue). q.count) taken.out_is

  named : NamesBelow settings.sites messages
  named = stage_names (going_stage going_begun)

  -- The message at a place of the arrival's can be counted.
  at_countable : (i : ℕ) (m : Message)
      → m ≡ get_or messages i no_message
      → i < length messages
      → Countable carry.held.sites.messages carry.written m
  at_countable i m m-is inside =
      countable m taken.accepting.fits taken.holds
      (rw m-is (names_at i no_message named inside))

  pub two_ask : SendTwoAsks out.count (traffic_of (underway_in carry)) out.first out.second
      carry.held.sites.messages carry.log
  two_ask =
      let holds = taken.holds in
      let all = length-append earlier messages in
      let own = length-append {A = Message} earlier [] in
      record {
        room = omega (
          arith,
          count_is,
          holds.written,
          all,
          own,
          log_length holds (omega (arith, own, all, room)),
          room,
        );
        first_countable = λ some.
            at_countable 0 out.first (ap (λ (q : Queue). q.first) taken.out_is)
            (some_of (length messages) (λ none. some (count_is ∙ none)));
        second_countable = λ two.
            at_countable 1 out.second (ap (λ (q : Queue). q.second) taken.out_is)
            (omega (arith, two, count_is));
      }
    where
      some_of : (n : ℕ) → (n ≡ 0 → ⊥) → 0 < n
      some_of zero some = absurd (some refl)
      some_of (suc n) some = omega arith

  pub begun_holds : {result : Traffic} {counted written : List ℕ}
      → SendTwoSays out.count (traffic_of (underway_in carry)) out.first out.second
      carry.held.sites.messages carry.log
      result counted written
      → Holds settings given earlier (delivery_of settings network arrival)
      (with_messages carry result counted written)
  begun_holds said =
      subst⁻¹ (Holds settings given earlier (delivery_of settings network arrival))
      (λ i. with_messages carry (said.go_out i) (said.counted i) (said.logged i))
      (holds_two messages out.count out.first out.second taken.holds few count_is
      (ap (λ (q : Queue). q.first) taken.out_is)
      (ap (λ (q : Queue). q.second) taken.out_is)
      room)

  -- The coordinator is idle, as before the arrival.
  pub quiet_rests : out.count ≡ 0
      → Holds settings given earlier (rested (after_arrival settings network arrival)) carry
  quiet_rests quiet =
      let none : messages ≡ [] = none_waits out messages taken.out_is quiet in
      let silent : is_announcing network.coordinator.phase ≡ false =
      ap is_announcing taken.accepting.sound.idle in
      subst (λ (d : Delivery). Holds settings given earlier d carry)
      (going_ends going_begun none silent) (rw none taken.holds)

-- When its messages went out, its delivery goes on.
abbrev pub delivering_begun : {settings : Settings} {out : Queue} {before carry : Carrying}
    (u : MessagesAsk settings out before)
    → Holds settings u.given u.earlier (delivery_of settings u.network u.arrival) carry
    → Delivering settings carry
delivering_begun {settings} u holds = record {
  given = u.given;
  earlier = u.earlier;
  network = u.network;
  arrival = u.arrival;
  steps = 0;
  now = delivery_of settings u.network u.arrival;
  going = going_begun u.taken;
  holds = holds;
}
