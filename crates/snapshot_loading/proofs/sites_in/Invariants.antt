-- The records and counts of the decks before j, and fresh ones behind them.
use Rattle.snapshot_loading.proofs.LoadingLaws.{Recording, Counting}
use Rattle.snapshot_loading.proofs.sites_in.Given as goal

abbrev pub invariant-loop-j : goal.invariant-loop-j
invariant-loop-j l = Recording l.settings l.file l.records l.j × Counting l.settings l.file
    l.counts l.j
