use Rattle.stream.proofs.Accepted.{accepts_streams_only}
use Rattle.stream.proofs.Exactly.{accepts_exactly}
use Rattle.stream.proofs.laws.only_streams_are_accepted.Goals as goal

pub returns : goal.returns
returns c = record { only = accepts_streams_only; exactly = accepts_exactly }
