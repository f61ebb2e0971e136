-- The word, the number with a space before it and the line feed are written one after the other.
use Rattle.laws.proofs.Writing.{stage_begins, stage_on, stage_ends}
use Rattle.output_lines.proofs.LinesLaws.{counted_joined}
use Rattle.output_lines.specs.Promises.{counted_line}
use Rattle.output_lines.proofs.put_counted.Goals as goal

pub returns : goal.returns
returns c =
    let word = c.args.word.now in
    let begun = stage_begins (counted_line word c.args.n) c.args.at c.args.out.now _
    (counted_joined word c.args.n) c.requires in
    let behind_word = stage_on begun c.put_text-after_word.ensures in
    let behind_number = stage_on behind_word c.put_spaced-after_number.ensures in
    stage_ends (stage_on behind_number c.put_text.ensures)
