use mir.Val.{bool_byte}
use Rattle.std.proofs.Common.{refl}
use Rattle.decoder.proofs.Spelling.{spells_more, one_more}
use Rattle.decoder.proofs.header.number.Goals as goal

pub loop-bit-preserved : goal.loop-bit-preserved
loop-bit-preserved g c = record {
  taken = one_more _ _ _ _ _ c.loop-bit.invariant.taken c.in-Some.ensures.steps;
  spelled = spells_more bool_byte _ _ _ _ refl refl c.loop-bit.invariant.spelled c.from.ensures;
}
