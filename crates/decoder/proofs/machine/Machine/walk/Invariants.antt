use Rattle.decoder.proofs.Places.{Walked}
use Rattle.decoder.proofs.machine.Machine.walk.Given as goal

-- The places so far are passed over.
abbrev pub invariant-loop-place : goal.invariant-loop-place
invariant-loop-place l = Walked l.taken l.initial.self l.initial.cells l.place l.self l.cells
