-- A batch of one arrival: after the start, one arrival is still to come.
use mathlib.Core.List.{List, [], ◌∷◌}
use Prim.Native.Nat.{ℕ}
use native.Mathlib.Omega.{arith}
use Rattle.model.specs.declared.Settings.{Settings}
use Rattle.model.specs.declared.Arrival.{Arrival}
use Rattle.model.specs.declared.Sites.{Sites}
use Rattle.model.specs.declared.CoordinatorRecord.{CoordinatorRecord}
use Rattle.model.specs.Held.{held_by}
use Rattle.tracker_delivery.proofs.StopLaws.{some_stopped, not_stopped}
use Rattle.tracker_steps.specs.Steps.{BatchOutcome, batch_outcome, OpenBatchSays, batch_held}
use Rattle.tracker.proofs.WalkLaws.{Walked, walked_open, walked_asks, walked_step, walked_done, walked_stopped}
use Rattle.tracker.proofs.run_one.Goals as goal

-- After the start, one arrival is still to come.
opened_one : (settings : Settings) (sites : Sites) (coordinator : CoordinatorRecord)
    (arrival : Arrival) (site_memory coordinator_memory log : List ℕ)
    (answer : BatchOutcome) (site_then coordinator_then : List ℕ)
    → OpenBatchSays settings sites coordinator site_memory coordinator_memory answer site_then
    coordinator_then
    → Walked (record {
      settings = settings;
      held = held_by sites coordinator site_memory coordinator_memory;
      arrivals = arrival ∷ [];
      log = log;
    }) (arrival ∷ []) (batch_held answer site_then coordinator_then log)
opened_one _ _ _ _ _ _ _ answer site_then coordinator_then says =
    walked_open _ answer site_then coordinator_then says

pub returns : goal.returns
returns c =
    let opens = c.open_batch-answer in
    let a = c.args in
    let walked = opened_one a.settings a.sites a.coordinator a.arrival
    a.site_memory.now a.coordinator_memory.now a.log.now (batch_outcome opens.result) _ _
    opens.ensures in
    walked_stopped walked (some_stopped _ c.is_none.ensures c.if-is_none.false)

pub take_arrival-requires : goal.take_arrival-requires
take_arrival-requires c =
    let opens = c.open_batch-answer in
    let a = c.args in
    let walked = opened_one a.settings a.sites a.coordinator a.arrival
    a.site_memory.now a.coordinator_memory.now a.log.now (batch_outcome opens.result) _ _
    opens.ensures in
    walked_asks (omega arith) walked
    (not_stopped _ c.is_none.ensures c.if-is_none.true)

pub returns-then-is_none : goal.returns-then-is_none
returns-then-is_none c =
    let opens = c.open_batch-answer in
    let a = c.args in
    let walked = opened_one a.settings a.sites a.coordinator a.arrival
    a.site_memory.now a.coordinator_memory.now a.log.now (batch_outcome opens.result) _ _
    opens.ensures in
    walked_done
    (walked_step (omega arith) walked
    (not_stopped _ c.is_none.ensures c.if-is_none.true) c.take_arrival.ensures)
