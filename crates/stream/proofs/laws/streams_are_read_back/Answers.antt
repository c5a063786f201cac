use Rattle.stream.proofs.RoundTrip.{reads_back}
use Rattle.stream.proofs.laws.streams_are_read_back.Goals as goal

pub returns : goal.returns
returns c = reads_back
