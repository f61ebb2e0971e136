-- One step of a delivery, as the code takes it: what the steps of the coordinator and of a site
-- require there, and what the state holds when the answer went out.
--
--   none_waits, handing        the messages that wait, from their number and head
--   Asking, ask_asks, asked_sends, asked_holds       the next kind 7 is asked for
use mathlib.Core.Path.{◌≡◌, refl, sym, ap, ◌∙◌, subst, subst⁻¹}
use mathlib.Core.Bool.{true}
use mathlib.Core.List.{List, [], ◌∷◌, ◌++◌}
use Prim.Native.Nat.{ℕ, zero, suc, ◌*◌, ◌≤◌, ◌<◌}
use native.Mathlib.Omega.{arith}
use lib.ListN.{length, get_or, length-append}
use Rattle.model.specs.declared.Settings.{Settings}
use Rattle.model.specs.declared.Message.{Message}
use Rattle.model.specs.Messages.{message_width, no_message}
use Rattle.model.specs.Coordinator.{Coordinator, CoordinatorStep, announced, is_announcing}
use Rattle.model.specs.CoordinatorMemory.{coordinator_in}
use Rattle.model.specs.Network.{Network, with_coordinator, hand_over, ask_announcement}
use Rattle.model.specs.DeliveryClaims.{Delivery, delivery, joining, delivery_step}
use Rattle.model.proofs.MessageCount.CountLaws.{NamesBelow, names_at}
use Rattle.mid_delivery.proofs.Stages.StageFacts.{stage_coordinator}
use Rattle.mid_delivery.proofs.Stages.StageNames.{joined_names}
use Rattle.coordinator_kinds.specs.declared.Answered as CoordinatorAnswer
use Rattle.coordinator_kinds.specs.Steps.{answer_of}
use Rattle.coordinator_steps.specs.Ready.{AnnounceAsks}
use Rattle.tracker_queue.specs.declared.Queue.{Queue}
use Rattle.tracker_queue.specs.Sending.{queue_of, SendAsks}
use Rattle.tracker_delivery.specs.UnderwayParts.{Underway, traffic_of}
use Rattle.tracker_delivery.specs.Holding.{answered, Holds, Fits, Going, Delivering, goes_on, WithLog, Carrying, carrying, underway_in}
use Rattle.tracker_delivery.proofs.OneAnswer.{announced_one, announced_remembers}
use Rattle.tracker_delivery.proofs.HoldingLaws.{coordinator_read, send_asks, holds_answer, holds_coordinator}
use Rattle.tracker_delivery.proofs.GoingLaws.{going_fit, going_stage, going_stored, going_room, going_asked}

-- ---- The messages that wait

pub none_waits : (queue : Queue) (waiting : List Message)
    → queue ≡ queue_of waiting
    → queue.count ≡ 0
    → waiting ≡ []
none_waits queue [] is none = refl
none_waits queue (m ∷ waiting) is none =
    absurd (omega (arith, ap (λ (q : Queue). q.count) is))

record HeadWaits (queue : Queue) (waiting : List Message) : Type 0 where
  rest : List Message
  is : waiting ≡ queue.first ∷ rest

head_waits : (queue : Queue) (waiting : List Message)
    → queue ≡ queue_of waiting
    → (queue.count ≡ 0 → ⊥)
    → HeadWaits queue waiting
head_waits queue [] is some = absurd (some (ap (λ (q : Queue). q.count) is))
head_waits queue (m ∷ rest) is some = record {
  rest = rest;
  is = ap (λ (x : Message). x ∷ rest) (sym (ap (λ (q : Queue). q.first) is));
}

-- A delivery whose head is the message that the code sees.
pub record Handing (settings : Settings) (carry : Carrying) (u : Delivering settings carry)
    : Type 0 where
  pub rest : List Message
  pub going : Going settings u.given u.earlier u.network u.arrival u.steps
      (delivery u.now.network (carry.waiting.first ∷ rest) u.now.log)
  pub holds : Holds settings u.given u.earlier
      (delivery u.now.network (carry.waiting.first ∷ rest) u.now.log) carry
  pub step_is : delivery_step settings u.now
      ≡ joining (hand_over settings u.now.network carry.waiting.first) rest
      u.now.log

pub handing : {settings : Settings} {carry : Carrying} (u : Delivering settings carry)
    → (carry.waiting.count ≡ 0 → ⊥)
    → Handing settings carry u
handing {settings} {carry} u some =
    let head = head_waits carry.waiting u.now.waiting u.holds.waiting some in
    let m = carry.waiting.first in
    let is : u.now ≡ delivery u.now.network (m ∷ head.rest) u.now.log =
    ap (λ (waiting : List Message). delivery u.now.network waiting u.now.log) head.is in
    record {
      rest = head.rest;
      going = subst (Going settings u.given u.earlier u.network u.arrival u.steps)
          is u.going;
      holds = subst (λ (d : Delivery). Holds settings u.given u.earlier d carry)
          is u.holds;
      step_is = ap (delivery_step settings) is;
    }

-- A coordinator that announces, and nothing waits.
pub record Asking (settings : Settings) (carry : Carrying) (u : Delivering settings carry)
    : Type 0 where
  pub announces : is_announcing u.now.network.coordinator.phase ≡ true
  pub going : Going settings u.given u.earlier u.network u.arrival u.steps
      (delivery u.now.network [] u.now.log)
  pub holds : Holds settings u.given u.earlier
      (delivery u.now.network [] u.now.log) carry
  pub step_is : delivery_step settings u.now
      ≡ joining (ask_announcement settings u.now.network) [] u.now.log

pub asking : {settings : Settings} {carry : Carrying} (u : Delivering settings carry)
    → carry.waiting.count ≡ 0
    → goes_on carry.held.coordinator carry.waiting ≡ true
    → Asking settings carry u
asking {settings} {carry} u none goes =
    let is : u.now ≡ delivery u.now.network [] u.now.log =
    ap (λ (waiting : List Message). delivery u.now.network waiting u.now.log)
    (none_waits carry.waiting u.now.waiting u.holds.waiting none) in
    let announces : is_announcing u.now.network.coordinator.phase ≡ true =
    rw (none, u.holds.coordinator) at goes in
    record {
      announces = announces;
      going = subst (Going settings u.given u.earlier u.network u.arrival u.steps)
          is u.going;
      holds = subst (λ (d : Delivery). Holds settings u.given u.earlier d carry)
          is u.holds;
      step_is = ap (delivery_step settings) is ∙ rw announces;
    }

-- ---- The answer goes out

module _ {settings : Settings} {given : WithLog} {earlier : List Message}
    {network : Network} {waiting log : List Message} {carry : Carrying}
    (holds : Holds settings given earlier (delivery network waiting log) carry)
    (out : List Message)
    (count : ℕ)
    (count_is : count ≡ length out)
    (m : Message)
    (m-is : m ≡ get_or out 0 no_message)
    (named : NamesBelow settings.sites out)
    (room : message_width * length (earlier ++ (log ++ out)) ≤ length given.log) where
  pub answer_sends : Fits settings given
      → (count ≡ 0 → ⊥)
      → SendAsks (traffic_of (underway_in carry)) m carry.held.sites.messages carry.log
  answer_sends fits some =
      let some_out : 0 < length out = some_is (length out) count_is in
      let known : m.site < settings.sites = rw m-is (names_at 0 no_message named some_out) in
      send_asks m fits holds known
      (omega (
        arith,
        room,
        some_out,
        length-append earlier (log ++ out),
        length-append log out,
        length-append earlier log,
      ))
    where
      some_is : (n : ℕ) → count ≡ n → 0 < n
      some_is zero is = absurd (some is)
      some_is (suc n) is = omega arith

-- ---- The next kind 7

module _ {settings : Settings} {carry : Carrying} (u : Delivering settings carry)
    (ask : Asking settings carry u) where
  abbrev c : Coordinator
  c = u.now.network.coordinator

  pub ask_asks : AnnounceAsks settings carry.held.coordinator
  ask_asks = record {
    settings_accepted = u.going.accepting.fits.settings_accepted;
    phase_sound =
        rw ask.holds.coordinator
        (stage_coordinator (going_fit ask.going.accepting) (going_stage ask.going)
        ).phase_sound;
  }

  module _ (answer : CoordinatorAnswer.Answered)
      (is : (memory : List ℕ)
      → answer
      ≡ answer_of
      (announced settings (coordinator_in settings carry.held.coordinator memory))) where
    abbrev after : CoordinatorStep
    after = announced settings c

    answer_is : answer ≡ answer_of after
    answer_is =
        is carry.held.coordinator_memory
        ∙ ap (λ (x : Coordinator). answer_of (announced settings x))
        (coordinator_read ask.going.accepting.fits (going_stored ask.going) ask.holds)

    abbrev next : Underway
    next = record {
      sites = carry.held.sites;
      coordinator = answer.coordinator;
      written = carry.written;
      waiting = carry.waiting;
    }

    changed : Holds settings u.given u.earlier
        (delivery (with_coordinator u.now.network after.coordinator) [] u.now.log)
        (carrying next carry.held.site_memory carry.held.coordinator_memory carry.log)
    changed =
        let kept = announced_remembers settings c in
        holds_coordinator ask.holds after.coordinator [] answer.coordinator
        carry.waiting carry.held.coordinator_memory
        (ap (λ (a : CoordinatorAnswer.Answered). a.coordinator) answer_is)
        ask.holds.waiting
        (ask.holds.coordinator_memory
        ∙ sym (rw (kept.estimates, kept.histogram)))

    room : message_width * length (u.earlier ++ (u.now.log ++ after.messages))
        ≤ length u.given.log
    room = going_room (going_asked ask.going ask.announces)

    count_is : answer.count ≡ length after.messages
    count_is = ap (λ (a : CoordinatorAnswer.Answered). a.count) answer_is

    out_is : answer.out ≡ get_or after.messages 0 no_message
    out_is = ap (λ (a : CoordinatorAnswer.Answered). a.out) answer_is

    pub asked_sends : (answer.count ≡ 0 → ⊥)
        → SendAsks (traffic_of next) answer.out carry.held.sites.messages carry.log
    asked_sends =
        answer_sends changed after.messages answer.count count_is answer.out out_is
        (joined_names [] (going_stage (going_asked ask.going ask.announces))) room
        ask.going.accepting.fits

    pub asked_holds :
        Holds settings u.given u.earlier (delivery_step settings u.now)
        (answered answer.count answer.out
        (carrying next carry.held.site_memory carry.held.coordinator_memory carry.log))
    asked_holds =
        subst⁻¹ (λ (d : Delivery). Holds settings u.given u.earlier d
        (answered answer.count answer.out
        (carrying next carry.held.site_memory carry.held.coordinator_memory carry.log)))
        ask.step_is
        (holds_answer after.messages answer.count answer.out changed
        (announced_one settings c) count_is out_is (omega arith) room)
