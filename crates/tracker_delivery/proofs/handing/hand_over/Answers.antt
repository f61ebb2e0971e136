-- `tracker_delivery::handing::hand_over` meets its contract: nothing waits, or the head is for the
-- coordinator, or for a site.
use mathlib.Core.Path.{sym, ap, ◌∙◌}
use Prim.Native.Nat.{ℕ}
use native.Mathlib.Omega.{arith}
use lib.ListN.{get_or}
use Rattle.model.specs.Held.{no_record}
use Rattle.tracker_delivery.proofs.StepLaws.{handing, asking, ask_asks}
use Rattle.tracker_delivery.proofs.HandToCoordinator.{coordinator_asks}
use Rattle.tracker_delivery.proofs.HandToSite.{site_of_head_is, starts_within, starts_small, site_asks}
use Rattle.tracker_delivery.proofs.HandSteps.{asked_says, received_says, site_says}
use Rattle.tracker_delivery.proofs.handing.hand_over.Goals as goal

pub announce_step-answer-requires : goal.announce_step-answer-requires
announce_step-answer-requires c =
    let u = c.requires.delivering in
    ask_asks u (asking u c.if-waiting-eq0.true c.requires.goes_on)

pub returns-then-waiting-eq0 : goal.returns-then-waiting-eq0
returns-then-waiting-eq0 c =
    asked_says c.if-waiting-eq0.true c.requires.goes_on c.announce_step-answer.result
    c.announce_step-answer.ensures c.coordinator_change.result c.coordinator_change.ensures

pub receive_step-answer-requires : goal.receive_step-answer-requires
receive_step-answer-requires c =
    let u = c.requires.delivering in
    let way = sym c.to_coordinator.ensures
    ∙ c.if-to_coordinator.true in
    coordinator_asks u (handing u c.if-waiting-eq0.false) way

pub returns-then-to_coordinator : goal.returns-then-to_coordinator
returns-then-to_coordinator c =
    let rest = c.take_head-rest in
    let way = sym c.to_coordinator.ensures
    ∙ c.if-to_coordinator.true in
    received_says c.if-waiting-eq0.false rest.result rest.ensures way
    c.receive_step-answer.result _ c.receive_step-answer.ensures
    c.coordinator_change-then-to_coordinator.result c.coordinator_change-then-to_coordinator.ensures

pub site_words-requires : goal.site_words-requires
site_words-requires c =
    c.requires.delivering.going.accepting.fits.settings_accepted

pub offset_bounds-site_memory-start : goal.offset_bounds-site_memory-start
offset_bounds-site_memory-start c =
    let u = c.requires.delivering in
    let way = sym c.to_coordinator.ensures
    ∙ c.if-to_coordinator.false in
    let small =
    starts_small u (handing u c.if-waiting-eq0.false) way c.site_words.result
    c.site_words.ensures in
    omega (arith, small)

pub overflow_mul-start : goal.overflow_mul-start
overflow_mul-start c = omega (arith, (offset_bounds-site_memory-start c).fits)

pub slice_bounds-receive_step-count : goal.slice_bounds-receive_step-count
slice_bounds-receive_step-count c =
    let u = c.requires.delivering in
    let way = sym c.to_coordinator.ensures
    ∙ c.if-to_coordinator.false in
    starts_within u (handing u c.if-waiting-eq0.false) way c.site_words.result
    c.site_words.ensures

pub slice_bounds-receive_step-start : goal.slice_bounds-receive_step-start
slice_bounds-receive_step-start c = slice_bounds-receive_step-count c

pub receive_step-answer-requires-2 : goal.receive_step-answer-requires-2
receive_step-answer-requires-2 c =
    let u = c.requires.delivering in
    let some = c.if-waiting-eq0.false in
    let way = sym c.to_coordinator.ensures
    ∙ c.if-to_coordinator.false in
    let own_is = c.requires.own_is
    ∙ ap (λ (j : ℕ). get_or c.requires.records j no_record)
    (site_of_head_is c.args.waiting some way) in
    site_asks u (handing u some) way _ c.site_words.result own_is
    c.site_words.ensures

pub returns : goal.returns
returns c =
    let rest = c.take_head-rest in
    let way = sym c.to_coordinator.ensures
    ∙ c.if-to_coordinator.false in
    site_says c.if-waiting-eq0.false rest.result rest.ensures way
    c.site_words.result c.site_words.ensures c.receive_step-answer-2.result
    c.receive_step-answer-2.ensures
