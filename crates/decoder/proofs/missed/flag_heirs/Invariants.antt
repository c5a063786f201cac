use Rattle.std.proofs.Common.{◌≡◌, map}
use Rattle.decoder.proofs.Heirs.{Telling}
use Rattle.decoder.proofs.missed.flag_heirs.Given as goal
use Rattle.decoder.specs.Machines.{plain}

-- All but the flags stands, and the places from this one on have told their parents.
abbrev pub invariant-loop-place : goal.invariant-loop-place
invariant-loop-place l = (map plain l.cells ≡ map plain l.fn.cells) × Telling l.place l.fn.cells l.cells
