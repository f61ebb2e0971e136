-- A batch call that keeps its contract, after the start calls: a history.
--
--   reached_by_batch     the state that it leaves is reached
use mathlib.Core.Path.{refl}
use mathlib.Core.List.{List}
use Prim.Native.Nat.{ℕ}
use Rattle.model.specs.declared.Arrival.{Arrival}
use Rattle.model.specs.Instances.{settings_a}
use Rattle.tracker.specs.Batch.{BatchHeld, BatchSays}
use Rattle.history.specs.State.{fronts, lending, put_back}
use Rattle.history.specs.Steps.{batch_call, after_batch, batch, arrives}
use Rattle.history.specs.Histories.{Reachable, stepped}
use Rattle.history_examples.specs.Example.{started_state}
use Rattle.history_examples.proofs.Example.{begins}

-- On the first 1049 and 1035 numbers of the memories.
pub reached_by_batch : (arrivals : List Arrival) (log : List ℕ) (answer : BatchHeld)
    → BatchSays
    (batch_call settings_a (lending started_state.held (fronts 1049 1035)) arrivals log)
    answer
    → Reachable settings_a
    (after_batch started_state arrivals
    (put_back started_state.held (fronts 1049 1035) answer))
reached_by_batch arrivals log answer says =
    stepped started_state _ begins
    (arrives
    (batch 1049 1035 arrivals log answer (record { nothing_waits = refl; idle = refl }) says))
