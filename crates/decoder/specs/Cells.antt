-- What the decoder's cells tell.
use Rattle.std.specs.Prelude.{◌≡◌, ℕ, ◌+◌, ◌/◌, ◌^◌, min, cond, List, map, take, drop, ℤ, pos, Ok, Err, Result, ◌==◌}
use Rattle.decoder.specs.declared.cell.Cell.{Cell}
use Rattle.decoder.specs.declared.decode.Decoded.{Decoded}
use Rattle.stream.specs.Numbers.{signed, middle}
use Rattle.stream.specs.Passes.{Finding}
use Rattle.stream.specs.Reading.{Outcome, refused, heard, numbers_heard}
use Rattle.stream.specs.declared.fault.StreamFault.{StreamFault}

-- The number heard of a cell: 0 where nothing is found (the width is 0), and otherwise the middle of the cell with its sign; within the range also for a
-- cell that no decoder left.
abbrev pub cell_number : Cell → ℤ
cell_number c = cond (c.width == 0) (pos 0) (signed c.negated (min (c.low + c.width / 2) 32767))

-- The numbers that the cells of a table of 4 ^ k places tell.
unfoldable pub cell_numbers : ℕ → List Cell → List ℤ
cell_numbers k cells = map cell_number (take (4 ^ k) cells)

-- Reading comes to this: the same fault; or the source's end, whole or not, with the numbers heard told by the cells.
abbrev pub Decodes : ℕ → Outcome → List Cell → Result Decoded StreamFault → Type 0
Decodes k outcome cells (Err fault) = outcome ≡ refused fault
Decodes k outcome cells (Ok d) = (fs : List Finding) × (outcome ≡ heard d.whole fs) × (cell_numbers k cells ≡ numbers_heard middle k fs)

-- Items past the first n stand.
abbrev pub StandPast : {X : Type 0} → ℕ → List X → List X → Type 0
StandPast n before after = drop n after ≡ drop n before
