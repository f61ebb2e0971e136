-- The three parts of one arrival, one after another, are one arrival of the model's batch.
--
--   messages_ask                            what the delivery of a turn's messages asks
--   turn_asks, count_asks, deliver_asks     what each part asks, from a batch that is held
--   quiet_says, loud_says, sent_says        the arrival without messages, and with them
--   stopped_is                              the answer that a refused arrival leaves
use mathlib.Core.Path.{◌≡◌, refl, ap, ◌∙◌, subst⁻¹}
use mathlib.Core.List.{List}
use Prim.Native.Nat.{ℕ, ◌+◌, ◌≤◌}
use native.Mathlib.Omega.{arith}
use native.Mathlib.Nat.{add-zero}
use lib.ListN.{length, get_or}
use lib.Seq.{set-get_or}
use Rattle.model.specs.declared.Settings.{Settings}
use Rattle.model.specs.declared.Arrival.{Arrival}
use Rattle.model.specs.declared.SiteRecord.{SiteRecord}
use Rattle.model.specs.Refusals.{no_refusal}
use Rattle.model.specs.Runs.{Batch}
use Rattle.model.specs.Held.{no_record}
use Rattle.tracker_queue.specs.declared.Queue.{Queue}
use Rattle.tracker_queue.specs.Log.{log_room}
use Rattle.tracker_delivery.specs.Arriving.{MessagesAsk, MessagesSay}
use Rattle.tracker_delivery.proofs.TakenLaws.{quiet_rests}
use Rattle.tracker_steps.specs.Steps.{BatchOutcome, BatchHeld, batch_held, batch_answer, batch_one, resting_in, BatchHolds, OneAsks, OneSays}
use Rattle.tracker_steps.specs.Turns.{TurnOutcome, place_of, own_of, left_turn, taken_in, TurnAsks, TakenTurn, TurnTold, refused, touched, taken, TurnSays}
use Rattle.tracker_steps.proofs.RefusalLaws.{place_within}
use Rattle.tracker_steps.proofs.BatchLaws.{taken_is, holds_delivered, holds_stopped, holds_touched}
use Rattle.tracker_arrivals.specs.Counting.{counted, CountTurnAsks, DeliverTurnAsks, DeliverTurnSays}

-- ---- The messages of a turn

abbrev pub messages_ask : {settings : Settings} {out : Queue} {now : BatchHeld}
    → DeliverTurnAsks settings out now
    → MessagesAsk settings out (resting_in now)
messages_ask u = record {
  given = u.given;
  earlier = u.batch.messages;
  network = u.batch.network;
  arrival = u.arrival;
  taken = u.taken;
}

-- The turn of a refused arrival, counted in the answer, is why the batch stopped.
pub stopped_is : (answer : BatchOutcome) (which number : ℕ) (own : SiteRecord)
    → own ≡ get_or answer.sites.records which no_record
    → record {
      refusal = number;
      accepted = answer.accepted;
      written = answer.written;
      sites = answer.sites;
      coordinator = answer.coordinator;
    } ≡ counted answer which (left_turn number 0 own)
stopped_is answer which number own own_is =
    let stored = set-get_or answer.sites.records which no_record in
    rw (own_is, stored, add-zero answer.accepted)

-- ---- One after another

pub turn_asks : {settings : Settings} {now : BatchHeld} (arrival : Arrival) {own : SiteRecord}
    → own ≡ own_of now.held.sites arrival
    → OneAsks settings now
    → TurnAsks settings own now.written arrival (length now.log) now.held.site_memory
turn_asks {now = now} arrival own_is u = record {
  now = now;
  own_is = own_is;
  written_is = refl;
  numbers_are = refl;
  asks = u;
}

module _ (now : BatchHeld) {settings : Settings} (arrival : Arrival) {own : SiteRecord}
    (own_is : own ≡ own_of now.held.sites arrival) {turn : TurnOutcome} {after : List ℕ}
    (says : TurnSays settings own now.written arrival (length now.log)
    now.held.site_memory turn after) where
  abbrev Told : OneAsks settings now → Type 0
  Told u = TurnTold settings u.given u.batch arrival now turn now.held.site_memory after

  told_of : (u : OneAsks settings now) → Told u
  told_of u = says.told now own_is refl refl u

  pub count_asks : OneAsks settings now → CountTurnAsks (batch_answer now) (place_of arrival) turn
  count_asks u = record {
    which_within = place_within arrival;
    accepted_within = rw u.holds.accepted u.accepted_within;
    taken_within = by_told (told_of u);
  }
    where
      by_told : Told u → turn.taken ≤ 1
      by_told (refused r) = rw r.turn_is (omega arith)
      by_told (touched t) = rw t.turn_is (omega arith)
      by_told (taken t) = rw t.taken_one (omega arith)

  -- The answer with the turn in it.
  module _ (next : BatchOutcome)
      (next-is : next ≡ counted (batch_answer now) (place_of arrival) turn) where
    -- What is held when the turn was counted.
    abbrev then : BatchHeld
    then = batch_held next after now.held.coordinator_memory now.log

    then_is : then
        ≡ batch_held (counted (batch_answer now) (place_of arrival) turn) after
        now.held.coordinator_memory now.log
    then_is =
        ap (λ (a : BatchOutcome). batch_held a after now.held.coordinator_memory now.log)
        next-is

    module _ (u : OneAsks settings now)
        (t : TakenTurn settings u.given u.batch arrival now turn after) where
      put_back : resting_in then ≡ resting_in (taken_in now arrival.site turn.site after)
      put_back = ap resting_in then_is ∙ rw t.place_is

      accepted_more : next.accepted ≡ u.batch.accepted + 1
      accepted_more =
          ap (λ (a : BatchOutcome). a.accepted) next-is ∙ rw (t.taken_one, u.holds.accepted)

      refusal_none : next.refusal ≡ no_refusal
      refusal_none = ap (λ (a : BatchOutcome). a.refusal) next-is ∙ t.refusal_none

      abbrev then_asks : DeliverTurnAsks settings turn.out then
      then_asks = record {
        given = u.given;
        batch = u.batch;
        arrival = arrival;
        is_draw_lem = t.is_draw_lem;
        accepted_more = accepted_more;
        taken = rw put_back t.taken;
      }

    -- A touch or a refused arrival sends nothing, and its site's record is stored as it was.
    module _ (number Taken-then : ℕ)
        (turn_is : turn ≡ left_turn number Taken-then (own_of now.held.sites arrival))
        (memory_kept : after ≡ now.held.site_memory) where
      no_messages : turn.out.count ≡ 0
      no_messages = ap (λ (t : TurnOutcome). t.out.count) turn_is

      refusal_then : next.refusal ≡ number
      refusal_then =
          ap (λ (a : BatchOutcome). a.refusal) next-is ∙ ap (λ (t : TurnOutcome). t.refusal) turn_is

      accepted_then : next.accepted ≡ now.accepted + Taken-then
      accepted_then = ap (λ (a : BatchOutcome). a.accepted) next-is ∙ rw turn_is

      stored_same : resting_in then ≡ resting_in now
      stored_same =
          let stored = set-get_or now.held.sites.records (place_of arrival) no_record in
          ap resting_in then_is ∙ rw (turn_is, memory_kept, stored)

    pub deliver_asks : OneAsks settings now
        → (turn.out.count ≡ 0 → ⊥)
        → DeliverTurnAsks settings turn.out then
    deliver_asks u some = by_told (told_of u)
      where
        by_told : Told u → DeliverTurnAsks settings turn.out then
        by_told (refused r) = absurd (some (no_messages _ _ r.turn_is r.memory_kept))
        by_told (touched t) = absurd (some (no_messages _ _ t.turn_is t.memory_kept))
        by_told (taken t) = then_asks u t

    pub loud_says : {last : BatchHeld}
        → (turn.out.count ≡ 0 → ⊥)
        → DeliverTurnSays settings turn.out then last
        → OneSays settings arrival now last
    loud_says {last} some delivered = record { next = λ u. by_told u (told_of u) }
      where
        by_told : (u : OneAsks settings now) → Told u
            → BatchHolds settings u.given
            (batch_one settings (log_room u.given.log) u.batch arrival) last
        by_told u (refused r) = absurd (some (no_messages _ _ r.turn_is r.memory_kept))
        by_told u (touched t) = absurd (some (no_messages _ _ t.turn_is t.memory_kept))
        by_told u (taken t) =
            subst⁻¹ (λ (b : Batch). BatchHolds settings u.given b last)
            (taken_is u arrival t.none_due) (delivered.next (then_asks u t))

    -- The same from what the messages come to, with the answer's numbers as they were counted.
    pub sent_says : {last : BatchHeld}
        → (turn.out.count ≡ 0 → ⊥)
        → last.refusal ≡ next.refusal
        → last.accepted ≡ next.accepted
        → MessagesSay settings turn.out (resting_in then) (resting_in last)
        → OneSays settings arrival now last
    sent_says {last} some refusal_same accepted-same sent =
        record { next = λ u. by_told u (told_of u) }
      where
        by_told : (u : OneAsks settings now) → Told u
            → BatchHolds settings u.given
            (batch_one settings (log_room u.given.log) u.batch arrival) last
        by_told u (refused r) = absurd (some (no_messages _ _ r.turn_is r.memory_kept))
        by_told u (touched t) = absurd (some (no_messages _ _ t.turn_is t.memory_kept))
        by_told u (taken t) =
            subst⁻¹ (λ (b : Batch). BatchHolds settings u.given b last)
            (taken_is u arrival t.none_due)
            (holds_delivered u.batch arrival last (resting_in last)
            (sent.delivers (messages_ask (then_asks u t))) t.is_draw_lem
            (refusal_same ∙ refusal_none u t) (accepted-same ∙ accepted_more u t) refl)

    pub quiet_says : turn.out.count ≡ 0 → OneSays settings arrival now then
    quiet_says quiet = record { next = λ u. by_told u (told_of u) }
      where
        by_told : (u : OneAsks settings now) → Told u
            → BatchHolds settings u.given
            (batch_one settings (log_room u.given.log) u.batch arrival) then
        by_told u (refused r) =
            holds_stopped u arrival then r.due
            (refusal_then _ _ r.turn_is r.memory_kept)
            (accepted_then _ _ r.turn_is r.memory_kept ∙ add-zero now.accepted)
            (stored_same _ _ r.turn_is r.memory_kept)
        by_told u (touched t) =
            holds_touched u arrival then t.no_draw t.none_due
            (refusal_then _ _ t.turn_is t.memory_kept)
            (accepted_then _ _ t.turn_is t.memory_kept)
            (stored_same _ _ t.turn_is t.memory_kept)
        by_told u (taken t) =
            subst⁻¹ (λ (b : Batch). BatchHolds settings u.given b then)
            (taken_is u arrival t.none_due)
            (holds_delivered u.batch arrival then _ (quiet_rests t.taken quiet)
            t.is_draw_lem (refusal_none u t) (accepted_more u t) (put_back u t))
