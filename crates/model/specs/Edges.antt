-- A second table of instances, beside document 01's own (Instances.antt): small values from its
-- text for what those leave open. The constants of limits and claims; each refusal number on one
-- input; for each neighbouring pair of each chain of refusals an input that deserves both; lengths
-- exactly enough and one short; limits at and one past. The theorem `edges` of proofs/Edges.antt
-- proves them all. The chains of calls, which stand in crates above this one, have small tables of
-- their own there.
pub mod Inputs
pub mod Constants
pub mod Settings
pub mod Sites
pub mod Coordinators
pub mod Networks
pub mod Memories
pub mod Steps
pub mod Readings
pub mod Worklists
use Rattle.model.specs.Edges.Constants.{ConstantEdges}
use Rattle.model.specs.Edges.Settings.{SettingsEdges}
use Rattle.model.specs.Edges.Sites.{SiteMemoryEdges, ArrivalEdges, SiteMessageEdges, CounterEdges}
use Rattle.model.specs.Edges.Coordinators.{CoordinatorMemoryEdges, CoordinatorMessageEdges}
use Rattle.model.specs.Edges.Networks.{NetworkEdges, BatchEdges}
use Rattle.model.specs.Edges.Memories.{MemoryEdges}
use Rattle.model.specs.Edges.Steps.{DrawEdges, StepEdges}
use Rattle.model.specs.Edges.Readings.{ReadingEdges}
use Rattle.model.specs.Edges.Worklists.{LineEdges, ProgramEdges}

pub record Edges : Type 0 where
  -- limits and constants
  pub constants : ConstantEdges
  -- 1, 2, 3
  pub settings : SettingsEdges
  -- 4, 11 of a site; a draw's 5, 6, 7, 8; a message's 5, 9, 7, 10; slots
  pub site_memory : SiteMemoryEdges
  pub arrivals : ArrivalEdges
  pub site_messages : SiteMessageEdges
  pub counters : CounterEdges
  -- 4, 11 of the coordinator; a message's 5, 9, 6, 7, 10; a kind 7 that is wanted
  pub coordinator_memory : CoordinatorMemoryEdges
  pub coordinator_messages : CoordinatorMessageEdges
  -- 4, 11 of the batch call; 8 before 14; what was accepted
  pub network_memory : NetworkEdges
  pub batches : BatchEdges
  -- what stands where in lent memory
  pub memories : MemoryEdges
  -- one draw, and one message in each phase
  pub draws : DrawEdges
  pub steps : StepEdges
  -- list, margin and class
  pub readings : ReadingEdges
  -- 13; the program's limits
  pub lines : LineEdges
  pub program : ProgramEdges
