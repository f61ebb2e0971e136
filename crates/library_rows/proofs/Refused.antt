-- A call that is refused hands nothing out: a row that it was lent, or a number, is as it was.
use mathlib.Core.Path.{◌≡◌}
use Rattle.model.specs.declared.Refusal.{Refusal}
use Rattle.model.specs.Refusals.{number_of}
use Rattle.model.proofs.Thresholds.RefusalLaws.{refuses, some_number}
use Rattle.library_rows.specs.Rows.{handed_out}

pub kept : {A : Type 0} (refusal : Refusal) (handed before : A)
    → before ≡ handed_out (number_of refusal) handed before
kept refusal handed before = cc (refuses (number_of refusal) handed before (some_number refusal))
