use Rattle.std.proofs.Common.{arith, rules}
use Rattle.input.proofs.Fronts.{front_read}
use Rattle.input.proofs.read_front.Goals as goal

pub returns : goal.returns
returns g c =
    front_read g.R.Read.remaining c.take.result c.args.reader 65537 c.in_ok-text.text.items c.read_to_end.new.buf.items
    (search rules) (omega arith) (search rules) (search rules)
