use Rattle.std.proofs.Common.{arith}
use Rattle.scan.specs.Places.{place_at}
use Rattle.scan.proofs.Digits.{spread_lt}
use Rattle.scan.proofs.Standing.{stands_from_position}
use Rattle.scan.proofs.places.place_at.Goals as goal

pub overflow_mul-result : goal.overflow_mul-result
overflow_mul-result c = omega (arith, spread_lt 6 c.args.row c.args.column)

pub overflow_add-result : goal.overflow_add-result
overflow_add-result c = omega (arith, spread_lt 6 c.args.row c.args.column)

pub returns : goal.returns
unfolding place_at
returns c = stands_from_position _ c.args.row c.args.column (omega arith) (omega arith) (omega arith)
