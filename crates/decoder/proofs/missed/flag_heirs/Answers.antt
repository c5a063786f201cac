use Rattle.std.proofs.Common.{arith}
use Rattle.decoder.proofs.Heirs.{telling_all}
use Rattle.decoder.proofs.missed.flag_heirs.Goals as goal

pub returns-clause-heirs : goal.returns-clause-heirs
returns-clause-heirs c = telling_all c.args.cells.now c.loop-place.cells c.loop-place.place c.loop-place.invariant.1 (omega arith)
