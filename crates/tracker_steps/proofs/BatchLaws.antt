-- One arrival of a batch: what the code finds and does is the model's, and a batch that took it may
-- take another.
--
--   one_places, refusal_is      what the refusal's test asks, and that it is the model's
--   one_asks                    what an accepted draw asks
--   holds_stopped, holds_touched, holds_delivered   what is held then
--   ready_next                  a batch that took an arrival may take another
use mathlib.Core.Path.{◌≡◌, refl, sym, ap, ◌∙◌, subst, subst⁻¹}
use mathlib.Core.Bool.{Bool, true, false}
use mathlib.Core.List.{append-nil}
use Prim.Native.Nat.{ℕ, ◌+◌, ◌-◌, ◌<◌}
use native.Mathlib.Omega.{arith}
use lib.ListN.{length, length-append}
use borrow.Author.Tests.{eq-eqb, ne_eqb}
use Rattle.model.specs.declared.Settings.{Settings}
use Rattle.model.specs.declared.Arrival.{Arrival}
use Rattle.model.specs.declared.SiteRecord.{SiteRecord}
use Rattle.model.specs.Refusals.{no_refusal}
use Rattle.model.specs.Draws.{is_draw}
use Rattle.model.specs.Network.{Network, Delivered, as_it_was, after_arrival}
use Rattle.model.specs.Runs.{Batch}
use Rattle.model.proofs.Touches.DrawLaws.{after_draw, after_touch, batch_takes}
use Rattle.model.proofs.Thresholds.SettingsLaws.{settled}
use Rattle.model.proofs.Deliveries.DeliveryTheorem.{delivery_claims}
use Rattle.model.specs.Held.{record_at}
use Rattle.tracker_queue.specs.Log.{log_room}
use Rattle.tracker_delivery.specs.Holding.{WithLog, Carrying, Holds, Accepting, rested}
use Rattle.tracker_delivery.specs.Arriving.{ArrivalAsks}
use Rattle.tracker_delivery.proofs.HoldingLaws.{Stored, record_read, log_length}
use Rattle.tracker_delivery.proofs.GoingLaws.{stored_of_sound}
use Rattle.tracker_delivery.proofs.RestLaws.{sound_then, bounded_then, holds_rested}
use Rattle.tracker_steps.specs.Steps.{BatchHeld, places_refusal, PlacesAsk, with_delivered, with_one, stopped_by, one_refusal, batch_one, resting_on, resting_in, BatchHolds, BatchReady, OneAsks}
use Rattle.tracker_steps.specs.Turns.{own_of}
use Rattle.tracker_steps.proofs.RefusalLaws.{place_known, places_refusal_is}

-- ---- A draw with full delivery

pub holds_delivered : {settings : Settings} {given : WithLog} (batch : Batch) (arrival : Arrival)
    (next : BatchHeld) (after : Carrying)
    → Holds settings given batch.messages
    (rested (after_arrival settings batch.network arrival)) after
    → is_draw arrival ≡ true
    → next.refusal ≡ no_refusal
    → next.accepted ≡ batch.accepted + 1
    → resting_in next ≡ resting_on after.held after.log after.written
    → BatchHolds settings given (with_one settings batch arrival) next
holds_delivered {settings} {given} batch arrival next after holds is_draw_lem refusal_none
    accepted_more same =
    let done = after_arrival settings batch.network arrival in
    let held = holds_rested done.network done.messages holds in
    subst⁻¹ (λ (d : Delivered). BatchHolds settings given (with_delivered batch d) next)
    (after_draw settings batch.network arrival is_draw_lem)
    (record {
      refusal = refusal_none;
      accepted = accepted_more;
      holds = rw same (record {
        records = held.records;
        counted = held.counted;
        coordinator = held.coordinator;
        written = held.written;
        waiting = refl;
        site_memory = held.site_memory;
        coordinator_memory = held.coordinator_memory;
        log = held.log;
      });
    })

-- ---- A batch that is held

module _ {settings : Settings} {now : BatchHeld} (u : OneAsks settings now) where
  abbrev network : Network
  network = u.batch.network

  abbrev room : ℕ
  room = log_room u.given.log

  stored : Stored settings network
  stored =
      let sound = u.ready.sound in
      stored_of_sound sound.all_sites sound.sites_sound sound.coordinator_sound.numbers

  written_is : now.written ≡ length u.batch.messages
  written_is = rw (append-nil u.batch.messages) at u.holds.holds.written

  log_same : length now.log ≡ length u.given.log
  log_same =
      log_length u.holds.holds
      (rw (append-nil u.batch.messages) (omega (arith, u.ready.messages_within)))

  -- ---- The refusal

  pub one_places : PlacesAsk settings now.written (length now.log)
  one_places = record {
    few_sites = (settled settings u.ready.fits.settings_accepted).sites.at_most;
    written_within = rw (written_is, log_same) u.ready.messages_within;
  }

  -- The record that is looked at is the site's own, where the site is known.
  own_known : (arrival : Arrival) → arrival.site < settings.sites
      → own_of now.held.sites arrival ≡ record_at now.held arrival.site
  own_known arrival known =
      ap (record_at now.held)
      (place_known arrival (omega (arith, known, one_places.few_sites)))

  pub refusal_is : (arrival : Arrival)
      → places_refusal settings (own_of now.held.sites arrival) arrival (length now.log)
      now.written
      ≡ one_refusal settings room u.batch arrival
  refusal_is arrival =
      places_refusal_is settings (own_of now.held.sites arrival) arrival (length now.log)
      now.written network (room - length u.batch.messages)
      (λ known. ap (λ (r : SiteRecord). r.arrivals)
      (own_known arrival known
      ∙ record_read u.ready.fits stored u.holds.holds arrival.site known))
      (rw (written_is, log_same))

  -- ---- An accepted arrival

  module _ (arrival : Arrival)
      (none : one_refusal settings room u.batch arrival ≡ no_refusal) where
    pub taken_is : batch_one settings room u.batch arrival ≡ with_one settings u.batch arrival
    taken_is = rw (eq-eqb (one_refusal settings room u.batch arrival) 0 none)

  -- ---- An accepted draw

  module _ (arrival : Arrival) (is_draw_lem : is_draw arrival ≡ true)
      (none : one_refusal settings room u.batch arrival ≡ no_refusal) where
    pub one_accepting : Accepting settings u.given u.batch.messages network arrival
    one_accepting =
        let takes = batch_takes settings network arrival (room - length u.batch.messages)
        is_draw_lem none in
        record {
          fits = u.ready.fits;
          room = omega (arith, takes.enough, u.ready.messages_within);
          sound = u.ready.sound;
          bounded = u.ready.bounded;
          taken = takes.accepted;
        }

    abbrev pub one_asks : ArrivalAsks settings arrival (resting_in now)
    one_asks = record {
      given = u.given;
      earlier = u.batch.messages;
      network = network;
      accepting = one_accepting;
      holds = u.holds.holds;
    }

    ready_drawn : BatchReady settings u.given
        (with_delivered u.batch (after_arrival settings network arrival))
    ready_drawn =
        let done = after_arrival settings network arrival in
        let few = delivery_claims.few_messages settings network arrival u.ready.sound.idle in
        record {
          fits = u.ready.fits;
          sound = sound_then one_accepting;
          bounded = bounded_then one_accepting;
          messages_within =
              omega (
                arith,
                length-append u.batch.messages done.messages,
                few,
                one_accepting.room,
              );
        }

  -- ---- An accepted touch

  -- It leaves the network as it was, and sends nothing.
  ready_touched : BatchReady settings u.given (with_delivered u.batch (as_it_was network))
  ready_touched = record {
    fits = u.ready.fits;
    sound = u.ready.sound;
    bounded = u.ready.bounded;
    messages_within = rw (append-nil u.batch.messages) u.ready.messages_within;
  }

  pub holds_touched : (arrival : Arrival) (next : BatchHeld)
      → is_draw arrival ≡ false
      → one_refusal settings room u.batch arrival ≡ no_refusal
      → next.refusal ≡ no_refusal
      → next.accepted ≡ now.accepted + 1
      → resting_in next ≡ resting_in now
      → BatchHolds settings u.given (batch_one settings room u.batch arrival) next
  holds_touched arrival next no_draw none refusal_none accepted_more same =
      subst⁻¹ (λ (b : Batch). BatchHolds settings u.given b next)
      (taken_is arrival none
      ∙ ap (with_delivered u.batch) (after_touch settings network arrival no_draw))
      (record {
        refusal = refusal_none;
        accepted = accepted_more ∙ ap (λ (n : ℕ). n + 1) u.holds.accepted;
        holds = rw (same, append-nil u.batch.messages) u.holds.holds;
      })

  -- ---- The next arrival

  pub ready_next : (arrival : Arrival)
      → one_refusal settings room u.batch arrival ≡ no_refusal
      → BatchReady settings u.given (batch_one settings room u.batch arrival)
  ready_next arrival none =
      subst⁻¹ (BatchReady settings u.given) (taken_is arrival none)
      (by_draw (is_draw arrival) refl)
    where
      by_draw : (drawn : Bool) → is_draw arrival ≡ drawn
          → BatchReady settings u.given (with_one settings u.batch arrival)
      by_draw true is_draw_lem =
          subst⁻¹ (λ (d : Delivered). BatchReady settings u.given (with_delivered u.batch d))
          (after_draw settings network arrival is_draw_lem) (ready_drawn arrival is_draw_lem none)
      by_draw false no_draw =
          subst⁻¹ (λ (d : Delivered). BatchReady settings u.given (with_delivered u.batch d))
          (after_touch settings network arrival no_draw) ready_touched

  -- ---- A refused arrival

  pub holds_stopped : (arrival : Arrival) (next : BatchHeld)
      → (one_refusal settings room u.batch arrival ≡ no_refusal → ⊥)
      → next.refusal ≡ one_refusal settings room u.batch arrival
      → next.accepted ≡ now.accepted
      → resting_in next ≡ resting_in now
      → BatchHolds settings u.given (batch_one settings room u.batch arrival) next
  holds_stopped arrival next refused refusal_then accepted-same same =
      let stops : batch_one settings room u.batch arrival
      ≡ stopped_by u.batch (one_refusal settings room u.batch arrival) =
      rw (ne_eqb (one_refusal settings room u.batch arrival) 0 refused) in
      subst (λ (b : Batch). BatchHolds settings u.given b next) (sym stops)
      (record {
        refusal = refusal_then;
        accepted = accepted-same ∙ u.holds.accepted;
        holds = rw same u.holds.holds;
      })
