-- The numbers from the second column on are written, up to this one.
use Rattle.std.proofs.Common.{◌-◌, map}
use Rattle.showing.specs.Shown.{number_in, shown_next}
use Rattle.std.specs.Fmt.{HasWritten, IsPlainFormatter}
use Rattle.std.specs.List.{range_with_len, flat_map}
use Rattle.showing.proofs.table.RowDisplay.fmt.Given as goal

abbrev pub invariant-loop-column : goal.invariant-loop-column
invariant-loop-column g l =
    IsPlainFormatter l.initial.f
    → HasWritten g.W.Write.write_str_gives l.initial.f (flat_map shown_next (map (number_in l.self.table.numbers.now l.self.row) (range_with_len 1 (l.column - 1)))) l.f
