-- The memory of the decks before j stands where it belongs, and what lies behind is as it was.
use mathlib.Core.Path.{◌≡◌}
use mathlib.Core.List.{◌++◌}
use Prim.Native.Nat.{◌*◌}
use lib.ListN.{drop}
use Rattle.snapshot_loading.proofs.LoadingLaws.{words_from}
use Rattle.snapshot_loading.proofs.store_decks.Given as goal

abbrev pub invariant-loop-j : goal.invariant-loop-j
invariant-loop-j l =
    l.memory
    ≡ words_from l.words l.size l.j (drop l.first l.file) ++ drop (l.j * l.words) l.initial.memory
