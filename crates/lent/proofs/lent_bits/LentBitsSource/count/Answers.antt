use Rattle.std.proofs.Common.{rules}
use Rattle.lent.proofs.Firsts.{length_lent}
use Rattle.lent.proofs.lent_bits.LentBitsSource.count.Goals as goal

pub returns : goal.returns
returns g c = search (rules, length_lent)
