use Rattle.std.proofs.Common.{rules}
use Rattle.std.proofs.lemmas.List.{take-append-le}
use Rattle.decoder.specs.Cells.{cell_numbers}
use Rattle.slots.specs.Slots.{row_numbers}
use Rattle.slots.proofs.memory.write.Goals as goal

pub returns-clause-told : goal.returns-clause-told
unfolding row_numbers cell_numbers
returns-clause-told g c = search (rules, take-append-le)
