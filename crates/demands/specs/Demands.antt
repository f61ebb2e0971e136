-- The buyer's three demands, of every history of calls. `Demands` is the whole of it: for all
-- settings that pass their test and all states that a history reaches. proofs/Theorem.antt proves
-- it, from the contracts of the calls and the claims over runs of crate `model`.
--
--   First     what is in order is accepted; what is not is refused by its own number, and changes
--             nothing; every delivery goes on to its end
--   Second    records, memory, arrivals and messages are those of document 01's rules; list and
--             class are right after each arrival
--   Whole     every number of records and lent memory, from what the start calls left
--   Third     the bounds on messages
--   Dropped   every draw of a deck is reported, unreported or forgotten (request N1)
--   LeftOut   touches are accepted, and leaving them out gives the same (request N2)
--   Closing   it can be closed at any time, and is the same when it is opened again (request N3)
--   AsGiven   of all draws that were given, the rules accept exactly what the calls accepted;
--             NothingLost: a call decides on what it is handed, or keeps it out
-- In all of them n is `counted state.accepted`: the draws accepted so far, of class 1 or more.
use Rattle.std.specs.Prelude.{◌≡◌, ◌≤◌}
use Rattle.model.specs.declared.Settings.{Settings}
use Rattle.model.specs.Refusals.{no_refusal}
use Rattle.model.specs.Limits.{most_steps}
use Rattle.model.specs.Settings.{settings_refusal}
use Rattle.tracker.specs.Batch.{BatchCall, BatchHeld, BatchSays}
use Rattle.history.specs.State.{State}
use Rattle.history.specs.Steps.{Step}
use Rattle.history.specs.Histories.{Reachable, held_at_start, delivered_in}
pub use Rattle.demands.specs.First.{DeliveryGoesOn, First}
pub use Rattle.demands.specs.Second.{Second}
pub use Rattle.demands.specs.Whole.{Whole}
pub use Rattle.demands.specs.Third.{Third}
pub use Rattle.demands.specs.Dropped.{Dropped}
pub use Rattle.demands.specs.Touches.{BatchWithout, LeftOut}
pub use Rattle.demands.specs.Closing.{Closing}
pub use Rattle.demands.specs.Given.{given_in, AsGiven, NothingLost}

-- For all settings that pass their test and all states that a history reaches, closed and opened
-- again anywhere.
pub record Demands : Type 0 where
  pub first : (settings : Settings) (state : State)
      → settings_refusal settings ≡ no_refusal
      → Reachable settings state
      → First settings state
  pub second : (settings : Settings) (state : State)
      → settings_refusal settings ≡ no_refusal
      → Reachable settings state
      → Second settings state
  pub whole : (settings : Settings) (state : State)
      → settings_refusal settings ≡ no_refusal
      → (reachable : Reachable settings state)
      → Whole settings (held_at_start reachable) state
  pub third : (settings : Settings) (state : State)
      → settings_refusal settings ≡ no_refusal
      → Reachable settings state
      → Third settings state
  pub dropped : (settings : Settings) (state : State)
      → settings_refusal settings ≡ no_refusal
      → Reachable settings state
      → Dropped settings state
  -- of a history with touches anywhere
  pub touches : (settings : Settings) (state : State)
      → settings_refusal settings ≡ no_refusal
      → (history : Reachable settings state)
      → LeftOut settings history
  -- and of every batch call, whatever memory it is lent
  pub batch_touches : (call : BatchCall) (answer : BatchHeld)
      → BatchSays call answer
      → BatchWithout call answer
  -- of every state, in mid-delivery too
  pub closing : (settings : Settings) (state : State)
      → settings_refusal settings ≡ no_refusal
      → Reachable settings state
      → Closing settings state
  -- no delivery has more steps than 24 × k + 2, closings between them or not
  pub few_steps : (settings : Settings) (state : State)
      → settings_refusal settings ≡ no_refusal
      → (history : Reachable settings state)
      → delivered_in history ≤ most_steps settings
  -- of the draws given in a history, refused ones too
  pub given : (settings : Settings) (state : State)
      → settings_refusal settings ≡ no_refusal
      → (history : Reachable settings state)
      → AsGiven settings (given_in history) state
  pub nothing_lost : (settings : Settings) (before after : State)
      → (step : Step settings before after)
      → NothingLost step
