use Rattle.std.proofs.Common.{rules}
use Rattle.std.proofs.lemmas.List.{get_or-map, get_or-take}
use Rattle.decoder.specs.Cells.{cell_numbers}
use Rattle.slots.proofs.heard.Heard.read.Goals as goal

pub returns : goal.returns
unfolding cell_numbers
returns g c = search (rules, get_or-map, get_or-take)
