-- `tracker_delivery::deliver` meets its contract. The invariant: the state was reached by steps of
-- the delivery that the first state holds, whichever that is.
use mathlib.Core.Path.{sym, ap, ◌∙◌}
use Prim.Native.Nat.{ℕ}
use native.Mathlib.Omega.{arith}
use lib.ListN.{get_or}
use Rattle.model.specs.Held.{no_record}
use Rattle.tracker_delivery.proofs.HoldingLaws.{coordinator_memory_length, log_length}
use Rattle.tracker_delivery.proofs.GoingLaws.{going_stored, going_room}
use Rattle.tracker_delivery.proofs.DeliverLaws.{left_less, after_start, delivering_after, after_step, after_end, nothing_left}
use Rattle.tracker_delivery.proofs.HandToSite.{head_few}
use Rattle.tracker_delivery.proofs.HandSteps.{send_asks, answered_step}
use Rattle.tracker_delivery.proofs.deliver.Goals as goal

pub loop-settings-init : goal.loop-settings-init
loop-settings-init c = λ u. after_start u

pub bounds-records-which : goal.bounds-records-which
bounds-records-which c =
    let u = c.requires in
    rw c.site_of_head-which.ensures (head_few (delivering_after u (c.loop-settings.invariant u)))

pub offset_bounds-records-which : goal.offset_bounds-records-which
offset_bounds-records-which c = omega (arith, bounds-records-which c)

pub hand_over-by-requires : goal.hand_over-by-requires
hand_over-by-requires c =
    let u = c.requires in
    record {
      records = c.loop-settings.records;
      counts = c.loop-settings.counts;
      traffic = c.loop-settings.traffic;
      log = c.loop-settings.log;
      own_is = ap (λ (j : ℕ). get_or c.loop-settings.records j no_record)
          c.site_of_head-which.ensures;
      delivering = delivering_after u (c.loop-settings.invariant u);
      goes_on = sym c.goes_on.ensures
          ∙ c.loop-settings-test.true;
    }

pub bounds-records-which-in-loop-settings : goal.bounds-records-which-in-loop-settings
bounds-records-which-in-loop-settings c =
    let u = c.requires in
    rw c.site_of_head-which.ensures (head_few (delivering_after u (c.loop-settings.invariant u)))

pub offset_bounds-records-which-in-loop-settings : goal.offset_bounds-records-which-in-loop-settings
offset_bounds-records-which-in-loop-settings c = omega
    (arith, bounds-records-which-in-loop-settings c)

pub send_answer-traffic-requires : goal.send_answer-traffic-requires
send_answer-traffic-requires c =
    let u = c.requires in
    send_asks c.loop-settings.records c.loop-settings.counts c.loop-settings.traffic
    c.loop-settings.log _
    c.site_of_head-which.ensures c.hand_over-by.ensures
    (delivering_after u (c.loop-settings.invariant u))

pub loop-settings-smaller : goal.loop-settings-smaller
loop-settings-smaller c =
    let goes = sym c.goes_on.ensures
    ∙ c.loop-settings-test.true in
    let says =
    answered_step c.loop-settings.records c.loop-settings.counts c.loop-settings.traffic
    c.loop-settings.log _
    c.site_of_head-which.ensures c.hand_over-by.ensures c.send_answer-traffic.ensures in
    let u = c.requires in
    let now = delivering_after u (c.loop-settings.invariant u) in
    left_less now goes (says.next now)

pub loop-settings-preserved : goal.loop-settings-preserved
loop-settings-preserved c =
    let goes = sym c.goes_on.ensures
    ∙ c.loop-settings-test.true in
    let says =
    answered_step c.loop-settings.records c.loop-settings.counts c.loop-settings.traffic
    c.loop-settings.log _
    c.site_of_head-which.ensures c.hand_over-by.ensures c.send_answer-traffic.ensures in
    λ u. after_step u (c.loop-settings.invariant u) goes says

pub shape_of-coordinator_memory : goal.shape_of-coordinator_memory
shape_of-coordinator_memory c =
    let u = c.requires in
    let after = c.loop-settings.invariant u in
    let fits = c.requires.going.accepting.fits in
    coordinator_memory_length fits (going_stored after.going) after.holds
    ∙ sym (coordinator_memory_length fits (going_stored u.going) u.holds)

pub shape_of-log : goal.shape_of-log
shape_of-log c =
    let u = c.requires in
    let after = c.loop-settings.invariant u in
    log_length after.holds (going_room after.going)
    ∙ sym (log_length u.holds (going_room u.going))

pub returns : goal.returns
returns c =
    let ended = sym c.goes_on.ensures ∙ c.loop-settings-test.false in
    record { ends = λ u. nothing_left (after_end u (c.loop-settings.invariant u) ended) }
