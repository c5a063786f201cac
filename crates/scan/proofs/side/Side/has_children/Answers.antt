use Rattle.std.proofs.Common.{arith}
use Rattle.std.proofs.lemmas.Bool.Decides.{Decides-like, Decides-ltb}
use Rattle.scan.proofs.Division.{has_children_by_division}
use Rattle.scan.proofs.side.Side.has_children.Goals as goal

pub returns-clause-decides : goal.returns-clause-decides
returns-clause-decides c =
    let closed = has_children_by_division c.args.self.exponent c.args.place c.args.self.low in
    Decides-like _ (λ l. closed.1 (omega arith)) (λ s. omega (arith, closed.0 s)) (Decides-ltb _ _)
