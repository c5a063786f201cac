use Rattle.std.proofs.Common.{rules}
use Rattle.std.proofs.lemmas.List.{take_all}
use Rattle.packing.proofs.Written.{hex_more}
use Rattle.packing.proofs.hex.hex.Goals as goal

pub loop-byte-preserved : goal.loop-byte-preserved
loop-byte-preserved c = search (rules, hex_more)

pub returns : goal.returns
returns c = search (rules, take_all)
