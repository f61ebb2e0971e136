-- Lent memory at the edges: the rows of specs/Edges/Memories.antt, each by computation.
use mathlib.Core.Path.{refl}
use Rattle.model.specs.Limits.{value_count}
use Rattle.model.specs.Edges.Memories.{MemoryEdges}

pub memories : MemoryEdges
unfolding value_count
memories = record {
  site_record_lem = refl;
  site_read = refl;
  site_written = refl;
  coordinator_record_lem = refl;
  coordinator_read = refl;
  coordinator_written = refl;
  sites_read = refl;
  sites_written = refl;
  records_written = refl;
  fresh_records = refl;
  fresh_messages = refl;
  fresh_coordinator_lem = refl;
  fresh_memory = refl;
}
