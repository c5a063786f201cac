use Rattle.std.proofs.Common.{rules}
use Rattle.previewing.specs.Previews.{line_of_refusal}
use Rattle.previewing.proofs.lines.refusal_line.Goals as goal

pub returns : goal.returns
unfolding line_of_refusal
returns c = search rules
