use Rattle.stream.proofs.Levels.{levels, family}
use Rattle.stream.proofs.laws.definitions_mean_the_subject.Goals as goal

pub returns : goal.returns
returns c = record { levels = levels; family = family }
