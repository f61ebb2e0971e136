-- Every number of records and lent memory over a whole history: what the start calls left, with the
-- network written over it ("Started fresh, every number is 0 (unused slots too)").
--
--   logged_counts state            what the network counts for each site
--   Whole settings start state     what stands in records and memories, in use or not
use Rattle.std.specs.Prelude.{◌≡◌, List, ℕ}
use Rattle.model.specs.declared.Settings.{Settings}
use Rattle.model.specs.MessageCounts.{none_counted, counted_up}
use Rattle.history.specs.State.{Held, State, AtRest, network_of, network_written}
use Rattle.history.specs.Start.{StartedFresh}
use Rattle.demands.specs.Second.{rules_run}

-- "a message belongs to the deck it names" (request N5): those of the logs, counted.
abbrev pub logged_counts : State → List ℕ
logged_counts state = counted_up none_counted state.log

-- Every number of records and lent memory, in use or not, with what the start calls left.
pub record Whole (settings : Settings) (start : Held) (state : State) : Type 0 where
  pub start_fresh : StartedFresh settings start
  -- at any time: the start, with the network that is held and these counts written over it
  pub nothing_else : state.held
      ≡ network_written settings start (network_of settings state.held) (logged_counts state)
  -- at rest: the start, with the rules' network written over it
  pub whole_at_rest : AtRest state
      → state.held
      ≡ network_written settings start (rules_run settings state).network (logged_counts state)
