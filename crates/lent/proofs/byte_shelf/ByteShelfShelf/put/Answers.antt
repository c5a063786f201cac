use Rattle.std.proofs.Common.{arith}
use Rattle.lent.proofs.Firsts.{length_lent, put_lent}
use Rattle.lent.proofs.byte_shelf.ByteShelfShelf.put.Goals as goal

pub returns-clause-puts : goal.returns-clause-puts
returns-clause-puts g c =
    let l = length_lent g.L.Layout.space g.L.Layout.at c.args.self.now.bytes.now c.args.self.now.count in
    (omega (arith, l), put_lent _ _ _ _ _ _ _ _ (omega (arith, l)) (omega arith) (omega arith) c.set.ensures)
