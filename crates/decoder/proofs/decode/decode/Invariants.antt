use Rattle.std.proofs.Common.{◌+◌}
use Rattle.std.specs.Iterator.Adapters.{enumerate_source, enumerate_count}
use Rattle.decoder.proofs.Runs.{Reads}
use Rattle.decoder.proofs.decode.decode.Given as goal

-- The header and the bits so far are taken, and the rest are left.
abbrev pub invariant-loop-index : goal.invariant-loop-index
invariant-loop-index g l =
    Reads l.side.exponent (g.S.Source.bits l.source) (enumerate_count l.index-iterator + 7) (enumerate_source l.index-iterator) l.machine l.cells l.found
