use Rattle.std.proofs.Common.{arith}
use Rattle.decoder.proofs.missed.clear_heirs.Goals as goal
use Rattle.decoder.specs.Machines.{plain}
use Rattle.std.proofs.lemmas.Grind.{common_steps}
use Rattle.std.proofs.lemmas.List.Edits.{map_over_more}

pub loop-cell-preserved : goal.loop-cell-preserved
loop-cell-preserved c = grind (arith, common_steps, map_over_more plain)
