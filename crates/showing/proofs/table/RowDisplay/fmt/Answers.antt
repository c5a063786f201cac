use Rattle.std.proofs.Common.{◌-◌, arith, rules}
use Rattle.std.proofs.Output.{has_written_append, has_written_of_eq}
use Rattle.showing.proofs.Rows.{written_more, row_written}
use Rattle.showing.specs.Shown.{number_in, shown_next}
use Rattle.showing.proofs.table.RowDisplay.fmt.Goals as goal

pub loop-column-preserved : goal.loop-column-preserved
loop-column-preserved g c = λ plain.
    let row = c.args.self.now in
    has_written_of_eq _ _ _ _ _
    (written_more shown_next (number_in row.table.numbers.now row.row) 1 (c.loop-column.column - 1) _ c.loop-column.column (omega arith) (omega arith))
    (has_written_append _ _ _ _ _ _ (c.loop-column.invariant plain) (search rules))

pub returns-clause-writes : goal.returns-clause-writes
returns-clause-writes g c = λ plain ok.
    let row = c.args.self.now in
    has_written_of_eq _ _ _ _ _
    (row_written (number_in row.table.numbers.now row.row) _ c.loop-column.column (omega arith) (omega arith))
    (has_written_append _ _ _ _ _ _ (has_written_append _ _ _ _ _ _ (search rules) (c.loop-column.invariant (search rules))) (search rules))
