-- The item's number gains the amount; the record stays.
use Rattle.coordinator_kinds.proofs.MemoryLaws.{memory_item}
use Rattle.coordinator_kinds.proofs.reports.take_item_report.Goals as goal

pub returns : goal.returns
returns c =
    record {
      answer = c.keep_silent.ensures;
      memory = memory_item c.args.settings c.args.coordinator
          c.args.memory.now
          c.requires.memory_long c.args.message c.requires.item_known;
    }
