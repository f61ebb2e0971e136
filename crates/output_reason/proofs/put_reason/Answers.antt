-- The pieces of the line are written one after the other.
use native.Mathlib.Nat.{zero-add}
use lib.ListN.{length}
use Rattle.laws.proofs.Writing.{stage_begins, stage_on, stage_ends}
use Rattle.output_reason.specs.Reason.{reason_line}
use Rattle.output_reason.proofs.ReasonLaws.{reason_joined}
use Rattle.output_reason.proofs.put_reason.Goals as goal

pub returns : goal.returns
returns c =
    let whole = reason_line c.args.line c.args.refusal in
    let begun = stage_begins whole 0 c.args.out.now _ (reason_joined c.args.line c.args.refusal)
    (rw (zero-add (length whole)) c.requires) in
    let behind_name = stage_on begun c.put_text-after_name.ensures in
    let behind_place = stage_on behind_name c.put_place-after_place.ensures in
    let behind_refused = stage_on behind_place c.put_text-after_refused.ensures in
    let behind_number = stage_on behind_refused c.put_spaced-after_number.ensures in
    let behind_colon = stage_on behind_number c.put_text-after_colon.ensures in
    let behind_words = stage_on behind_colon c.put_words-after_words.ensures in
    stage_ends (stage_on behind_words c.put_text.ensures)
