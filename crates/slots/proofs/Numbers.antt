-- The numbers of cells and rows: their range, and how one more row is written.
use Rattle.std.proofs.Common.{◌≡◌, ℕ, ◌+◌, ◌/◌, ◌<◌, ◌≤◌, min, Bool, true, false, cond, eqb, List, [], ◌∷◌, ◌++◌, map, length, get_or, take, set, ℤ, pos, is_some, Some, None, Option, sym, refl, ap, ◌∙◌, arith}
use Rattle.decoder.specs.Cells.{cell_number}
use Rattle.decoder.specs.declared.cell.Cell.{Cell}
use Rattle.entries.specs.Range.{InRange, Made}
use Rattle.std.proofs.lemmas.List.{take_more_set, map_push, map_more, length-take, get_or-take, get_or-map}
use Rattle.std.proofs.lemmas.Int.{ints}
use Rattle.stream.specs.Numbers.{signed}

signed_within : (negated : Bool) (n : ℕ) → n ≤ 32767 → InRange (signed negated n)
signed_within true n h = (omega (arith, ints), omega (arith, ints))
signed_within false n h = (omega (arith, ints), omega (arith, ints))

zero_or_within : (none negated : Bool) (n : ℕ) → InRange (cond none (pos 0) (signed negated (min n 32767)))
zero_or_within true negated n = (omega (arith, ints), omega (arith, ints))
zero_or_within false negated n = signed_within negated (min n 32767) (omega arith)

-- Every cell tells a number in range, also one that no decoder left.
pub cell_within : (c : Cell) → InRange (cell_number c)
cell_within c = zero_or_within (eqb c.width 0) c.negated (c.low + c.width / 2)

-- One more row is written, which tells the number of the next cell.
pub one_more : {Row : Type 0} (number_of : Row → ℤ) (table : List Row) (cells : List Cell) (p : ℕ) (row : Row) (cell : Cell)
    → p < length table → p < length cells → cell ≡ get_or cells p cell → number_of row ≡ cell_number cell
    → map number_of (take p table) ≡ map cell_number (take p cells)
    → map number_of (take (p + 1) (set table p row)) ≡ map cell_number (take (p + 1) cells)
one_more number_of table cells p row cell in_table in_cells is tells so_far =
    ap (map number_of) (take_more_set table p row in_table) ∙ map_push number_of (take p table) row
    ∙ rw (so_far, tells) (ap (λ c. map cell_number (take p cells) ++ cell_number c ∷ []) is ∙ sym (map_more cell_number cells p cell in_cells))

-- Of a number in range a value is made.
pub made_some : {X : Type 0} (z : ℤ) (P : X → Type 0) (made : Option X) → InRange z → Made z P made → is_some made ≡ true
made_some z P (Some x) h m = refl
made_some z P None h m = absurd (m h)

-- The number at a place, of the numbers of the first n items.
pub number_at : {X : Type 0} (number_of : X → ℤ) (n : ℕ) (xs : List X) (p : ℕ) (x : X)
    → n ≤ length xs → p < n → x ≡ get_or xs p x → number_of x ≡ get_or (map number_of (take n xs)) p (pos 0)
number_at number_of n xs p x long within is =
    let h : p < length (take n xs) = simp length-take (omega arith) in
    ap number_of (is ∙ sym (get_or-take n xs p x within)) ∙ sym (get_or-map number_of (take n xs) p x (pos 0) h)
