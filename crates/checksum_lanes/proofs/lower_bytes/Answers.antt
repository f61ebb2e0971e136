-- The mask has the lower half of each of four lanes.
use Rattle.checksum_lanes.proofs.Masks.{masked}
use Rattle.checksum_lanes.proofs.lower_bytes.Goals as goal

pub returns : goal.returns
returns c = masked 8 4 c.args.word
