use Rattle.std.proofs.Common.{arith}
use Rattle.scan.proofs.Division.{child_by_division}
use Rattle.scan.proofs.side.Side.parent.Goals as goal

pub returns-then-place-eq0 : goal.returns-then-place-eq0
returns-then-place-eq0 c = λ p child. grind (arith, (child_by_division c.args.self.exponent p c.args.place c.args.self.low).0 child)
