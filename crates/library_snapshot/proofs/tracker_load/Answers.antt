-- `load_bench`, and the rows that it answers.
use Rattle.snapshot_file.specs.Calls.{load_answer}
use Rattle.library_snapshot.proofs.tracker_load.Goals as goal

pub returns : goal.returns
returns c =
    record {
      loaded = load_answer c.load_bench.result;
      says = c.load_bench.ensures;
      refusal = c.hand_bench.ensures.refusal;
      rows = c.hand_bench.ensures.rows;
    }
