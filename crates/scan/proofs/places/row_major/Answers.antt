use Rattle.std.proofs.Common.{◌+◌, ◌*◌, ◌∙◌, rules}
use Rattle.scan.specs.Places.{gathered, row_of, column_of}
use Rattle.scan.proofs.Tables.{follows, entry}
use Rattle.scan.proofs.places.row_major.Goals as goal

pub returns : goal.returns
unfolding follows gathered row_of column_of
returns c = c.from.ensures ∙ search (rules, entry (λ k. 64 * row_of k + column_of k))
