use Rattle.std.proofs.Common.{◌≡◌, ◌++◌, map, take, drop}
use Rattle.decoder.proofs.missed.clear_heirs.Given as goal
use Rattle.decoder.specs.Machines.{plain}

-- The cells so far are but for their flags.
abbrev pub invariant-loop-cell : goal.invariant-loop-cell
invariant-loop-cell l = l.cell-items ≡ map plain (take l.cell-index l.initial.cell-items) ++ drop l.cell-index l.initial.cell-items
