-- The numbers so far are read.
use Rattle.std.proofs.Common.{◌≡◌, take, vec_items}
use Rattle.decoder.specs.Cells.{cell_numbers}
use Rattle.previewing.proofs.hearing.Memory.numbers.Given as goal

abbrev pub invariant-loop-place : goal.invariant-loop-place
invariant-loop-place l = vec_items l.numbers ≡ take l.place (cell_numbers l.heard.side.exponent (vec_items l.self.cells))
