-- The three calls in a row: the rows are read, the tracker's call is made, and what it answers is
-- handed back.
use Rattle.tracker_steps.specs.Steps.{batch_outcome}
use Rattle.library_batch.proofs.Batching.{run_exported}
use Rattle.library_batch.proofs.tracker_run.Goals as goal

pub returns : goal.returns
returns c =
    let opens = c.open_rows-opening in
    let runs = c.run_batch-done in
    let closes = c.close_rows in
    run_exported _ _ _ c.args.draws.now _ _ _ _ c.args.decks.now c.args.desk.now
    opens.result (batch_outcome runs.result) closes.result opens.ensures runs.ensures closes.ensures
