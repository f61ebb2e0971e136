-- `output_transcript::write_count`: the word and the number are those of the line.
use Rattle.output_transcript.proofs.write_count.Goals as goal

pub returns : goal.returns
returns c = c.write_counted.ensures
