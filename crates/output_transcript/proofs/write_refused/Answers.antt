-- `output_transcript::write_refused`: the word and the number are those of the line.
use Rattle.output_transcript.proofs.write_refused.Goals as goal

pub returns : goal.returns
returns c = c.write_counted.ensures
