use Rattle.stream.proofs.Likeness.{creep_bound}
use Rattle.stream.proofs.laws.resaves_do_not_creep.Goals as goal

pub returns : goal.returns
returns c = creep_bound
