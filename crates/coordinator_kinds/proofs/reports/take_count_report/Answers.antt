-- The value is counted in memory, and the round closes with the report of the last site.
use mathlib.Core.Path.{◌∙◌}
use borrow.Author.Tests.{eq-eqb, ne_eqb}
use Rattle.coordinator_kinds.proofs.MemoryLaws.{memory_value}
use Rattle.coordinator_kinds.proofs.reports.take_count_report.Goals as goal

pub returns-then-next-settings : goal.returns-then-next-settings
returns-then-next-settings c =
    record {
      answer = rw (eq-eqb _ _ c.if-next-settings.true)
          (rw c.poll_of.ensures at c.speak.ensures);
      memory = c.count_value.ensures
          ∙ memory_value c.args.settings c.args.coordinator
          c.args.memory.now
          c.requires.memory_long c.args.message
          (λ one. (c.requires.value_room one).value_known);
    }

pub returns : goal.returns
returns c =
    record {
      answer = rw (ne_eqb _ _ c.if-next-settings.false) c.keep_silent.ensures;
      memory = c.count_value.ensures
          ∙ memory_value c.args.settings c.args.coordinator
          c.args.memory.now
          c.requires.memory_long c.args.message
          (λ one. (c.requires.value_room one).value_known);
    }
