-- `single_steps::hand_to_coordinator` meets its contract: by whether the coordinator accepts.
use mathlib.Core.Path.{refl}
use Rattle.model.proofs.Thresholds.RefusalLaws.{some_number}
use Rattle.single_steps.proofs.CoordinatorStepLaws.{coordinator_goes, coordinator_stops}
use Rattle.single_steps.proofs.calls.hand_to_coordinator.Goals as goal

pub returns-in-Err : goal.returns-in-Err
returns-in-Err c =
    λ site_memory. coordinator_stops c.requires _ c.in-Err.ensures (some_number _) site_memory

pub send-requires : goal.send-requires
send-requires c = c.requires.few_carried

pub returns-in-Ok : goal.returns-in-Ok
returns-in-Ok c =
    λ site_memory.
    coordinator_goes c.requires _ c.in-Ok.ensures refl site_memory
    _ _ c.take_head.ensures c.send.ensures
