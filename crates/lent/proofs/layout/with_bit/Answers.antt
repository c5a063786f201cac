use Rattle.lent.proofs.ByteBits.{or_mask, and_mask}
use Rattle.lent.proofs.layout.with_bit.Goals as goal

pub returns-then-bit : goal.returns-then-bit
returns-then-bit c = rw c.if-bit.true (or_mask c.args.byte c.args.weight c.ranges.byte.fits c.requires)

pub returns-else-bit : goal.returns-else-bit
returns-else-bit c = rw c.if-bit.false (and_mask c.args.byte c.args.weight c.ranges.byte.fits c.requires)
