use Rattle.std.proofs.Common.{rules}
use Rattle.std.proofs.lemmas.List.{get_or-map, get_or-take}
use Rattle.slots.specs.Slots.{row_numbers}
use Rattle.slots.proofs.held.Held.read.Goals as goal

pub returns : goal.returns
unfolding row_numbers
returns g c = search (rules, get_or-map, get_or-take)
