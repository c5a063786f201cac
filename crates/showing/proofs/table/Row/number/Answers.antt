use Rattle.std.proofs.Common.{arith}
use Rattle.showing.proofs.Positions.{place_inside, rows_most}
use Rattle.showing.proofs.table.Row.number.Goals as goal

pub unreachable-requires : goal.unreachable-requires
unreachable-requires c =
    let row = c.args.self.now in omega (arith, rows_most row.table.side.exponent row.table.side.high, row.inside)

pub bounds-self-place : goal.bounds-self-place
bounds-self-place c =
    let row = c.args.self.now in
    let stands = c.in-Some.ensures in
    omega (arith, row.table.full, place_inside row.table.side.exponent row.row c.args.column row.table.side.high row.inside (omega arith))
