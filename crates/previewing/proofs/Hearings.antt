-- Reading the numbers that a slot has heard, one after the other.
use Rattle.std.proofs.Common.{◌≡◌, ℕ, ◌+◌, ◌^◌, ◌<◌, ◌≤◌, Bool, List, [], ◌∷◌, ◌++◌, length, get_or, take, ℤ, pos, Ok, Err, Result, sym, ap, ◌∙◌, arith, MatchResult}
use Rattle.decoder.specs.Cells.{cell_number, cell_numbers}
use Rattle.decoder.specs.declared.cell.Cell.{Cell}
use Rattle.previewing.specs.Faults.{Unheard}
use Rattle.previewing.specs.declared.fault.PreviewFault.{PreviewFault}
use Rattle.previewing.specs.declared.fault.PreviewFault.TheVariants.{Slot, NoMemory}
use Rattle.slots.specs.Slots.{TurnedAway}
use Rattle.slots.specs.declared.fault.SlotFault.{SlotFault}
use Rattle.slots.specs.declared.fault.SlotFault.TheVariants.{NoSide, ShortMemory, NoPlace, Stream}
use Rattle.std.proofs.Math.Seq.{take-append_seam}
use Rattle.stream.specs.declared.fault.StreamFault.{StreamFault}
use Rattle.std.proofs.lemmas.List.{length-map, length-take-le, take_more, take_all}
use Rattle.stream.specs.Numbers.{middle}
use Rattle.stream.specs.Reading.{previewed}

-- The cells of a table tell a number for each place.
pub length_cells : (k : ℕ) (cells : List Cell) → 4 ^ k ≤ length cells → length (cell_numbers k cells) ≡ 4 ^ k
unfolding cell_numbers
length_cells k cells h = length-map (take (4 ^ k) cells) cell_number ∙ length-take-le (4 ^ k) cells h

-- One more is read.
pub read_more : (k i : ℕ) (cells : List Cell) (before after : List ℤ) (x : ℤ) → 4 ^ k ≤ length cells → i < 4 ^ k
    → before ≡ take i (cell_numbers k cells) → x ≡ get_or (cell_numbers k cells) i (pos 0) → after ≡ before ++ x ∷ []
    → after ≡ take (i + 1) (cell_numbers k cells)
read_more k i cells before after x h l b r p =
    let inside : i < length (cell_numbers k cells) = omega (arith, length_cells k cells h) in
    p ∙ rw (b, r) (sym (take_more (cell_numbers k cells) i (pos 0) inside))

-- All are read.
pub read_all : (k i : ℕ) (cells : List Cell) (all : List ℤ) → 4 ^ k ≤ length cells → 4 ^ k ≤ i → all ≡ take i (cell_numbers k cells)
    → all ≡ cell_numbers k cells
read_all k i cells all h l e = e ∙ take_all i (cell_numbers k cells) (omega (arith, length_cells k cells h))

-- A list written over its own beginning.
pub written_over : {X : Type 0} (n : ℕ) (written before : List X) → n ≡ length written → take n (written ++ before) ≡ written
written_over n written before e = ap (λ (m : ℕ). take m (written ++ before)) e ∙ take-append_seam written before

-- What is read in this memory of a slot with a side of the same exponent is what is heard, and if memory ends, nothing more is said.
pub heard_told : {V : Type 0} (items : V → List ℤ) (j k : ℕ) (bits : List Bool) (memory cells : List Cell) (r : Result V PreviewFault)
    → j ≡ k → memory ≡ cells → 4 ^ k ≤ length cells → previewed middle k bits ≡ Ok (cell_numbers k cells)
    → MatchResult r (λ v. items v ≡ cell_numbers j memory) (λ fault. fault ≡ NoMemory)
    → MatchResult r (λ v. (previewed middle k bits ≡ Ok (items v)) × (length (items v) ≡ 4 ^ k)) (Unheard (previewed middle k bits))
heard_told items j k bits memory cells (Ok v) e m h p q =
    let told : items v ≡ cell_numbers k cells = q ∙ ap (λ (n : ℕ). cell_numbers n memory) e ∙ ap (cell_numbers k) m in
    (p ∙ ap Ok (sym told), ap length told ∙ length_cells k cells h)
heard_told items j k bits memory cells (Err fault) e m h p q = rw q tt

-- With memory for the largest table, a stream is turned away for its own fault only.
pub unheard : (outcome : Result (List ℤ) StreamFault) (enough : Type 0) (fault : SlotFault) → enough → TurnedAway enough (λ f. outcome ≡ Err f) fault
    → Unheard outcome (Slot fault)
unheard outcome enough NoSide h t = absurd t
unheard outcome enough ShortMemory h t = absurd (t h)
unheard outcome enough NoPlace h t = absurd t
unheard outcome enough (Stream fault) h t = t.1
