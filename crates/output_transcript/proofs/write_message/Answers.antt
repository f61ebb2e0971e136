-- `output_transcript::write_message`: the four numbers are the message's, each in its place.
use Rattle.output_transcript.proofs.write_message.Goals as goal

pub returns : goal.returns
returns c = c.write_record.ensures.written
