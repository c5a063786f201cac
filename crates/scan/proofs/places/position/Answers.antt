use Rattle.std.proofs.Common.{arith}
use Rattle.scan.proofs.Standing.{column_of_lt, stands_from_place}
use Rattle.scan.proofs.places.position.Goals as goal

pub returns : goal.returns
returns c =
    let low = column_of_lt c.args.place in
    stands_from_place c.args.place _ _ (omega arith) (omega arith) (omega arith)
