-- `tracker_steps::take_turn` meets its contract: the arrival is refused, or its site takes it, or
-- it is a touch.
use mathlib.Core.Path.{refl, sym}
use Rattle.std.proofs.lemmas.Result.{err_from_is_err_and}
use Rattle.model.proofs.Thresholds.RefusalLaws.{told, accepted_by, refused_by, some_number}
use Rattle.tracker_steps.proofs.TurnLaws.{turn_refused, turn_observes, turn_taken}
use Rattle.tracker_steps.proofs.take_turn.Goals as goal

pub returns-in_err-test_one : goal.returns-in_err-test_one
returns-in_err-test_one c =
    let p = err_from_is_err_and c.from_residual.result c.from_residual.ensures.1 in
    rw (p.1, p.2)
    (turn_refused c.args.arrival _ (sym (refused_by c.test_one.ensures c.in_err-test_one.was))
    (some_number _) _ refl)

pub observe-observed-requires : goal.observe-observed-requires
observe-observed-requires c =
    turn_observes c.args.arrival _ refl
    (accepted_by c.test_one.ensures c.in_ok-test_one.was)
    (told c.is_draw.ensures c.if-not-is_draw.false) c.requires

pub returns : goal.returns
returns c =
    turn_taken c.args.arrival _ refl
    (accepted_by c.test_one.ensures c.in_ok-test_one.was)
    (told c.is_draw.ensures c.if-not-is_draw.false)
    c.observe-observed.result c.observe-observed.new.site_memory c.observe-observed.ensures
