-- The second table of instances holds of the definitions; its rows are proved by subject.
pub mod Constants
pub mod Settings
pub mod Sites
pub mod Coordinators
pub mod Networks
pub mod Memories
pub mod Steps
pub mod Readings
pub mod Worklists
use Rattle.model.specs.Edges.{Edges}
use Rattle.model.proofs.Edges.Constants.{constants}
use Rattle.model.proofs.Edges.Settings.{settings}
use Rattle.model.proofs.Edges.Sites.{site_memory, arrivals, site_messages, counters}
use Rattle.model.proofs.Edges.Coordinators.{coordinator_memory, coordinator_messages}
use Rattle.model.proofs.Edges.Networks.{network_memory, batches}
use Rattle.model.proofs.Edges.Memories.{memories}
use Rattle.model.proofs.Edges.Steps.{draws, steps}
use Rattle.model.proofs.Edges.Readings.{readings}
use Rattle.model.proofs.Edges.Worklists.{lines, program}

pub edges : Edges
edges = record {
  constants = constants;
  settings = settings;
  site_memory = site_memory;
  arrivals = arrivals;
  site_messages = site_messages;
  counters = counters;
  coordinator_memory = coordinator_memory;
  coordinator_messages = coordinator_messages;
  network_memory = network_memory;
  batches = batches;
  memories = memories;
  draws = draws;
  steps = steps;
  readings = readings;
  lines = lines;
  program = program;
}
