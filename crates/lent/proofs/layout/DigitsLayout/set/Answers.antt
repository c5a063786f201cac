use Rattle.std.proofs.Common.{arith}
use Rattle.lent.proofs.Writes.{digit_written}
use Rattle.lent.proofs.layout.DigitsLayout.set.Goals as goal

pub returns : goal.returns
returns c = rw c.digit_of.ensures (digit_written c.args.bytes.now c.args.index c.args.bit (omega arith))
