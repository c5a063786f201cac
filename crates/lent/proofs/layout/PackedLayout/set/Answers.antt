use Rattle.std.proofs.Common.{arith, rules}
use Rattle.lent.proofs.Writes.{packed_written}
use Rattle.lent.proofs.layout.PackedLayout.set.Goals as goal

pub returns : goal.returns
returns c = rw c.with_bit.ensures (packed_written c.args.bytes.now c.args.index c.args.bit (search rules) (omega arith))
