use Rattle.std.proofs.Common.{ℕ, map, ap, refl, arith, rules}
use Rattle.std.proofs.Output.{has_written_append, has_written_of_eq}
use Rattle.showing.proofs.Rows.{written_more}
use Rattle.showing.specs.Shown.{row_numbers, shown_row, shown_table}
use Rattle.std.specs.List.{range_with_len, flat_map}
use Rattle.showing.proofs.table.TableDisplay.fmt.Goals as goal

pub loop-row-preserved : goal.loop-row-preserved
loop-row-preserved g c = λ plain.
    let table = c.args.self.now in
    has_written_of_eq _ _ _ _ _
    (written_more shown_row (row_numbers table.side.exponent table.numbers.now) 0 c.loop-row.row _ c.loop-row.row (omega arith) refl)
    (has_written_append _ _ _ _ _ _ (c.loop-row.invariant plain) (search rules))

pub returns-clause-writes : goal.returns-clause-writes
unfolding shown_table
returns-clause-writes g c = λ plain _.
    let table = c.args.self.now in
    has_written_of_eq _ _ _ _ _
    (ap (λ (n : ℕ). flat_map shown_row (map (row_numbers table.side.exponent table.numbers.now) (range_with_len 0 n))) (omega arith))
    (c.loop-row.invariant plain)
