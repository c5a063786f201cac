use Rattle.stream.proofs.Previews.{preview_bound}
use Rattle.stream.proofs.laws.previews_are_near.Goals as goal

pub returns : goal.returns
returns c = preview_bound
