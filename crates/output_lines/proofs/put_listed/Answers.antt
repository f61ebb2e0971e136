-- The word, the items and the line feed are written one after the other.
use Rattle.laws.proofs.Writing.{stage_begins, stage_on, stage_ends}
use Rattle.output_lines.proofs.LinesLaws.{listed_pieces, listed_joined}
use Rattle.output_lines.specs.Promises.{listed_line}
use Rattle.output_lines.proofs.put_listed.Goals as goal

pub returns : goal.returns
returns c =
    let items = c.args.items.now in
    let begun = stage_begins (listed_line items) c.args.at c.args.out.now (listed_pieces items)
    (listed_joined items) c.requires in
    let behind_word = stage_on begun c.put_text-after_word.ensures in
    let behind_items = stage_on behind_word c.put_numbers-after_items.ensures in
    stage_ends (stage_on behind_items c.put_text.ensures)
