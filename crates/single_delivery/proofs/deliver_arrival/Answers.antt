-- `single_delivery::deliver_arrival` meets its contract: refused by the start test, for a site that
-- there is not, or as an arrival; or a touch; or delivered.
use mathlib.Core.Path.{◌≡◌, refl, sym, ap, ◌∙◌}
use mathlib.Core.List.{List}
use Prim.Native.Nat.{ℕ, ◌<◌}
use native.Mathlib.Omega.{arith}
use lib.ListN.{length}
use Rattle.std.specs.Prelude.{Ok}
use Rattle.model.specs.Refusals.{no_refusal, unknown_site}
use Rattle.model.proofs.Thresholds.SettingsLaws.{settled}
use Rattle.model.proofs.Thresholds.RefusalLaws.{told, accepted_by, refused_by, some_number}
use Rattle.bench_memory.specs.Promises.{SitesFit}
use Rattle.std.proofs.lemmas.Result.{err_from_is_err_and}
use Rattle.site.specs.Calls.{observe_refusal}
use Rattle.history.specs.State.{held_refusal, Held, held_by, record_in}
use Rattle.single_begin.specs.Arriving.{rest_from}
use Rattle.single_outcome.specs.declared.DeliveryAnswer.{DeliveryAnswer}
use Rattle.single_outcome.specs.Delivery.{delivery_outcome, delivery_refusal}
use Rattle.single_outcome.proofs.PassedLaws.{Passed, passed_of, refused_start, refused_unknown, refused_arrival}
use Rattle.single_outcome.proofs.ArrivalLaws.{left_says, taken_says}
use Rattle.single_delivery.proofs.deliver_arrival.Goals as goal
use Rattle.single_delivery.proofs.deliver_arrival.Goals.{Start}

-- What is given, as a history has it.
abbrev given : Start → Held
given start =
    held_by start.args.sites start.args.coordinator start.args.site_memory.now
    start.args.coordinator_memory.now

all_records : (start : Start) → length start.args.sites.records ≡ 32
all_records start =
    start.well_formed.1.0.1.1.0.1.0.1

-- The start test passed.
passed_start : (start : Start)
    → held_refusal start.args.settings (given start) ≡ no_refusal
    → Passed start.args.settings (given start)
passed_start start none = passed_of start.args.settings (given start) (all_records start) none

-- The memory of all sites has the length that it had.
fits_kept : (start : Start) (after : List ℕ)
    → SitesFit start.args.settings start.args.site_memory.now
    → length after ≡ length start.args.site_memory.now
    → SitesFit start.args.settings after
fits_kept start after fits same = record {
  settings_accepted = fits.settings_accepted;
  long_enough = omega (arith, fits.long_enough, same);
}

five : unknown_site ≡ no_refusal → ⊥
five none = omega (arith, none)

-- The site's number is that of the whole call.
site_number : (start : Start)
    → held_refusal start.args.settings (given start) ≡ no_refusal
    → start.args.arrival.site < start.args.settings.sites
    → {number : ℕ}
    → number
    ≡ observe_refusal start.args.settings
    (record_in start.args.sites start.args.arrival.site) start.args.arrival
    (rest_from start.args.settings start.args.site_memory.now start.args.arrival.site)
    → number ≡ delivery_refusal start.args.settings (given start) start.args.arrival
site_number start none known is =
    is
    ∙ refused_arrival start.args.settings (given start) start.args.arrival none
    (passed_start start none) known

pub returns-in_err-test_network : goal.returns-in_err-test_network
returns-in_err-test_network c =
    let p = err_from_is_err_and c.from_residual.result c.from_residual.ensures.1 in
    let start = (goal.at.returns-in_err-test_network c).Start in
    rw (p.1, p.2)
    (left_says (given start) (given start) _
    (refused_start c.args.settings (given start) c.args.arrival _
    (sym (refused_by c.test_network.ensures c.in_err-test_network.was)) (some_number _))
    (λ none. absurd (some_number _ none)) refl refl refl)

pub returns-then-settings-arrival : goal.returns-then-settings-arrival
returns-then-settings-arrival c =
    let start = (goal.at.returns-then-settings-arrival c).Start in
    left_says (given start) (given start) _
    (refused_unknown c.args.settings (given start) c.args.arrival
    (accepted_by c.test_network.ensures c.in_ok-test_network.was) c.if-settings-arrival.true)
    (λ accepts. absurd (five accepts)) refl refl refl

pub begin-requires : goal.begin-requires
begin-requires c =
    let none = accepted_by c.test_network.ensures c.in_ok-test_network.was in
    record {
      fits = (passed_start (goal.at.begin-requires c).Start none).fits;
      known = omega (arith, c.if-settings-arrival.false);
    }

pub returns-in_err-begun : goal.returns-in_err-begun
returns-in_err-begun c =
    let p = err_from_is_err_and c.from_residual-in_err-begun.result
    c.from_residual-in_err-begun.ensures.1 in
    let start = (goal.at.returns-in_err-begun c).Start in
    rw (p.1, p.2)
    (left_says (given start) _ _
    (site_number start (accepted_by c.test_network.ensures c.in_ok-test_network.was)
    (omega (arith, c.if-settings-arrival.false)) c.in_err-begun.ensures.says.refusal)
    (λ none. absurd (some_number _ none)) refl refl
    (ap (λ (m : List ℕ). held_by start.args.sites start.args.coordinator m
    start.args.coordinator_memory.now)
    (c.in_err-begun.ensures.says.left (λ none. absurd (some_number _ none)))))

pub returns-then-not-is_draw : goal.returns-then-not-is_draw
returns-then-not-is_draw c =
    let start = (goal.at.returns-then-not-is_draw c).Start in
    let no_draw = told c.is_draw.ensures c.if-not-is_draw.true in
    let left = c.leave-left.ensures in
    let kept = c.in_ok-begun.ensures.says.left (λ _. no_draw) in
    left_says (given start) _ _
    (sym c.in_ok-begun.ensures.goes_on
    ∙ site_number start (accepted_by c.test_network.ensures c.in_ok-test_network.was)
    (omega (arith, c.if-settings-arrival.false)) c.in_ok-begun.ensures.says.refusal)
    (λ _. no_draw) (ap (λ (a : DeliveryAnswer). a.carried) left)
    (ap (λ (a : DeliveryAnswer). (delivery_outcome c.args.sites c.args.coordinator (Ok a)).stopped)
    left)
    (λ j. held_by (left j).sites (left j).coordinator (kept j) start.args.coordinator_memory.now)

pub deliver-ended-requires : goal.deliver-ended-requires
deliver-ended-requires c =
    let start = (goal.at.deliver-ended-requires c).Start in
    let ok = passed_start start (accepted_by c.test_network.ensures c.in_ok-test_network.was) in
    let says = c.in_ok-begun.ensures.says in
    record {
      fits = fits_kept start _ ok.fits c.begin.auto.site_memory;
      few = says.few;
      few_carried =
          omega (
            arith,
            says.few_carried,
            says.left_is,
            (settled c.args.settings ok.passes).sites.at_most,
          );
      not_refused = c.in_ok-begun.ensures.goes_on;
    }

pub returns : goal.returns
returns c =
    let start = (goal.at.returns c).Start in
    let none = accepted_by c.test_network.ensures c.in_ok-test_network.was in
    let goes_on = c.in_ok-begun.ensures.goes_on in
    taken_says
    (passed_start start none)
    c.in_ok-begun.ensures.says
    (told c.is_draw.ensures c.if-not-is_draw.false)
    goes_on c.deliver-ended.ensures _ refl
    (sym goes_on
    ∙ site_number start none (omega (arith, c.if-settings-arrival.false))
    c.in_ok-begun.ensures.says.refusal)
    refl refl
