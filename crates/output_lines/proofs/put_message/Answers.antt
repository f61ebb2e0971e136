-- The four numbers and the line feed are written one after the other.
use Rattle.laws.proofs.Writing.{stage_begins, stage_room, stage_on, stage_ends}
use Rattle.model.specs.Messages.{message}
use Rattle.model.specs.Transcript.{message_line}
use Rattle.output_lines.proofs.LinesLaws.{message_pieces, message_joined}
use Rattle.output_lines.proofs.PutLaws.{put_digits}
use Rattle.output_lines.proofs.put_message.Goals as goal

pub returns : goal.returns
returns c =
    let args = c.args in
    let m = message args.kind args.site args.a args.b in
    let begun = stage_begins (message_line m) args.at args.out.now (message_pieces m)
    (message_joined m) c.requires in
    let behind_kind = stage_on begun
    (put_digits args.kind args.at args.out.now _ _ (stage_room begun)
    c.write_decimal.ensures) in
    let behind_site = stage_on behind_kind c.put_spaced-after_site.ensures in
    let behind_a = stage_on behind_site c.put_spaced-after_a.ensures in
    let behind_b = stage_on behind_a c.put_spaced-after_b.ensures in
    stage_ends (stage_on behind_b c.put_text.ensures)
