-- The rows so far are written.
use Rattle.std.proofs.Common.{map}
use Rattle.showing.specs.Shown.{row_numbers, shown_row}
use Rattle.std.specs.Fmt.{HasWritten, IsPlainFormatter}
use Rattle.std.specs.List.{range_with_len, flat_map}
use Rattle.showing.proofs.table.TableDisplay.fmt.Given as goal

abbrev pub invariant-loop-row : goal.invariant-loop-row
invariant-loop-row g l =
    IsPlainFormatter l.initial.f
    → HasWritten g.W.Write.write_str_gives l.initial.f (flat_map shown_row (map (row_numbers l.self.side.exponent l.self.numbers.now) (range_with_len 0 l.row))) l.f
