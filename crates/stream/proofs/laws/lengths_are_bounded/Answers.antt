use Rattle.stream.proofs.Lengths.{appends, longest, longest_run_lem}
use Rattle.stream.proofs.laws.lengths_are_bounded.Goals as goal

pub returns : goal.returns
returns c = record { appends = appends; longest = longest; run = longest_run_lem }
