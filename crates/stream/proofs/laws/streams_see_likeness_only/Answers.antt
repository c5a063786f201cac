use Rattle.stream.proofs.Likeness.{nesting}
use Rattle.stream.proofs.Locality.{locality}
use Rattle.stream.proofs.laws.streams_see_likeness_only.Goals as goal

pub returns : goal.returns
returns c = record { locality = locality; nesting = nesting }
