-- The rows so far tell the numbers of the cells so far.
use Rattle.std.proofs.Common.{◌≡◌, map, take}
use Rattle.decoder.specs.Cells.{cell_number}
use Rattle.slots.proofs.memory.write.Given as goal

abbrev pub invariant-loop-place : goal.invariant-loop-place
invariant-loop-place g l =
    map (λ row. g.K.EntryKind.number (g.K.EntryKind.entry row)) (take l.place l.row-items) ≡ map cell_number (take l.place l.cells)
