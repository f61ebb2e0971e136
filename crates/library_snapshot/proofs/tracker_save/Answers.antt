-- `save_bench` on what the rows stand for, and the length that it answers.
use Rattle.snapshot_file.specs.Calls.{save_answer}
use Rattle.library_snapshot.proofs.tracker_save.Goals as goal

pub returns : goal.returns
returns c =
    record {
      saved = save_answer c.save_bench-saved.result;
      says =
          rw (
            c.settings_from.ensures,
            c.sites_from.ensures,
            c.coordinator_from.ensures,
          )
          at c.save_bench-saved.ensures;
      refusal = c.hand_length.ensures.refusal;
      file_length_lem = c.hand_length.ensures.length;
    }
