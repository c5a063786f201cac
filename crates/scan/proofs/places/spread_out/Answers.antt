use Rattle.std.proofs.Common.{◌∙◌, rules}
use Rattle.scan.specs.Places.{spread}
use Rattle.scan.proofs.Tables.{follows, entry}
use Rattle.scan.proofs.places.spread_out.Goals as goal

pub returns : goal.returns
unfolding follows spread
returns c = c.from.ensures ∙ search (rules, entry (spread 6))
